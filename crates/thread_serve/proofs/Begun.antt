-- What holds of the passes when the run begins.
use Rattle.std.proofs.Common.{◌≡◌, ℕ, ◌+◌, false, cond, List, [], ◌∷◌, take, sym, ap, subst, ◌∙◌, arith, ne_eqb}
use Rattle.std.specs.Prelude.{◌==◌}
use Rattle.std.proofs.lemmas.List.Elements.{All-cons, All-nil}
use Rattle.language.specs.Lang.{Lang}
use Rattle.hist_lock.specs.declared.state.State.{Ghosts}
use Rattle.hist_lock.specs.declared.view.View.{View}
use Rattle.hist_lock.specs.declared.pass.Pass.{Pass}
use Rattle.hist_lock.specs.declared.shared.Shared.{Shared}
use Rattle.hist_lock.specs.Callers.{child, first_view}
use Rattle.hist_lock.specs.Entries.{own}
use Rattle.hist_lock.specs.Passes.{view, IsPassOf}
use Rattle.worker_loop.specs.Held.{held_in}
use Rattle.reply_outbox.specs.declared.item.Item.TheVariants as item
use Rattle.session_rules.specs.declared.service.Service.TheVariants.{Workers}
use Rattle.document_session.specs.keeping_rules_below.Items.{SessionItem}
use Rattle.view_laws.specs.Callers.{whose}
use Rattle.view_laws.specs.Histories.{replies_after}
use Rattle.view_laws.specs.Says.{says}
use Rattle.view_laws.specs.Sent.{bytes_sent, joined_bytes, sent_count}
use Rattle.thread_serve.specs.Reading.{HasNoEnd}
use Rattle.thread_serve.specs.Joins.{NoEnd}
use Rattle.thread_serve.specs.Reader.{IsAtRest, calls_made}
use Rattle.thread_serve.specs.Stopped.{IsWriter}

-- the list of a session that so many workers serve, when it is new
abbrev pub opening : ℕ → List SessionItem
opening count = item.Opened (Workers count) ∷ []

no_end : (count : ℕ) → HasNoEnd (opening count)
no_end count = All-cons NoEnd (item.Opened (Workers count)) [] (λ e. absurd (let no : ⊥ = cc in no)) (All-nil NoEnd)

not_first : (n : ℕ) → (0 == n + 1) ≡ false
not_first n = ne_eqb 0 (n + 1) (λ e. absurd (omega (arith, e)))

none_own : (count : ℕ) → own whose (count + 1) (opening count) ≡ []
none_own count = ap (λ b. cond b (opening count) []) (not_first count)

none_sent : {S : Type 0} (l : Lang S) (count : ℕ) → bytes_sent l (count + 1) (opening count) ≡ []
none_sent l count = ap (λ (mine : List SessionItem). joined_bytes (take (sent_count mine) (replies_after l (opening count)))) (none_own count)

-- a caller's items
abbrev its : ℕ → List SessionItem → List SessionItem
its c log = own whose c log

module _ {T : Type 0} {g : Ghosts T SessionItem} (lock : Shared T SessionItem) (p : Pass T SessionItem g) (is_own : IsPassOf lock p) (count : ℕ) where
  -- the reader rests
  pub new_rests : (made : ℕ) → view p ≡ record (first_view (opening count)) { made = made } → IsAtRest lock p
  new_rests made is = record {
    stands = record {
      own = is_own;
      reader = ap (λ (z : View SessionItem). z.caller) is;
      going = subst HasNoEnd (sym (ap (λ (z : View SessionItem). z.mine) is)) (no_end count);
    };
    free = ap (λ (z : View SessionItem). held_in says z.mine) is;
  }

  -- and has called nothing
  pub new_calls : (made : ℕ) → view p ≡ record (first_view (opening count)) { made = made } → calls_made (view p).mine ≡ []
  new_calls made is = ap (λ (z : View SessionItem). calls_made z.mine) is

  -- the writer comes after the workers, and has made nothing
  pub new_writer : {S : Type 0} (l : Lang S) (v : View SessionItem) → v ≡ record (first_view (opening count)) { made = count } → view p ≡ child v
      → IsWriter l lock (count + 1) p
  new_writer {S} l v from is =
      let all : view p ≡ child (record (first_view (opening count)) { made = count }) = is ∙ ap (λ (z : View SessionItem). child z) from in record {
        own = is_own;
        writer = ap (λ (z : View SessionItem). z.caller) all;
        none_made = ap (λ (z : View SessionItem). z.mine) all;
        none_handed = ap (λ (z : View SessionItem). bytes_sent l (count + 1) z.seen) all ∙ none_sent l count;
        knows = subst (λ (z : View SessionItem). its z.caller z.seen ≡ z.mine) (sym all) (none_own count);
      }
