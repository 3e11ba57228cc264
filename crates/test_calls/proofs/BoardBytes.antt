-- The bytes that a caller was handed.
use Rattle.std.proofs.Common.{◌≡◌, ℕ, [], ◌∷◌, ◌++◌, Option, None, sym, ◌∙◌, ap, subst}
use Rattle.std.proofs.lemmas.Grind.{flat_map-append}
use Rattle.std.proofs.lemmas.List.{append-nil}
use Rattle.std.proofs.lemmas.List.Concat.{flat_map-cons}
use Rattle.hist_lock.specs.Entries.{own}
use Rattle.hist_lock.specs.declared.view.View.{View}
use Rattle.worker_loop.specs.Sending.{KnowsOwn}
use Rattle.test_calls.specs.Bytes.{bytes_in, bytes_of}

module _ {E : Type 0} (by : E → ℕ) (byte : E → Option ℕ) where
  -- an entry without a byte hands nothing out
  pub no_more : (v w : View E) (who : ℕ) (e : E) → byte e ≡ None → v.caller ≡ who → w.caller ≡ v.caller
      → KnowsOwn by v → KnowsOwn by w → w.mine ≡ v.mine ++ e ∷ []
      → bytes_of byte (own by who w.seen) ≡ bytes_of byte (own by who v.seen)
  no_more v w who e silent its same knew knows made =
      let now : own by who w.seen ≡ w.mine = subst (λ c. own by c w.seen ≡ w.mine) (same ∙ its) knows in
      let then : own by who v.seen ≡ v.mine = subst (λ c. own by c v.seen ≡ v.mine) its knew in
      ap (bytes_of byte) (now ∙ made) ∙ flat_map-append (λ e. bytes_in (byte e)) v.mine (e ∷ [])
      ∙ ap (λ bytes. bytes_of byte v.mine ++ bytes) (none e silent) ∙ append-nil (bytes_of byte v.mine) ∙ sym (ap (bytes_of byte) then) where
        none : (e : E) → byte e ≡ None → bytes_of byte (e ∷ []) ≡ []
        none e silent = flat_map-cons (λ e. bytes_in (byte e)) e [] ∙ ap (λ b. bytes_in b ++ []) silent
