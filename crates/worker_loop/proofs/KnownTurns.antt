-- What a turn at the lock tells its caller, in the words of workers.
use Rattle.std.proofs.Common.{◌≡◌, ℕ, List, [], ◌∷◌, ◌++◌, inl, inr, length, length-append, sym, ap, subst, ◌∙◌, arith}
use Rattle.std.proofs.lemmas.List.{append_cancel_left}
use mathlib.Core.List.{IsPrefix}
use Rattle.std.specs.List.{Contains}
use Rattle.hist_lock.specs.Calls.{Adds, Turned}
use Rattle.hist_lock.specs.declared.view.View.{View}
use Rattle.worker_loop.specs.Stays.{SeesOn}

module _ {E : Type 0} (whose : E → ℕ) (c : ℕ) (old new mine now : List E) where
  -- a call that added nothing is none of the caller's entries
  adds_none : Adds whose c old new mine now → new ≡ old → now ≡ mine
  adds_none (inl a) same = a.1
  adds_none (inr a) same = absurd (let n = ap length (sym same ∙ a.2) in omega (arith, length-append old (a.0 ∷ [])))

  -- the entry that a call added is one more of the caller's
  adds_one : (e : E) → Adds whose c old new mine now → new ≡ old ++ e ∷ [] → now ≡ mine ++ e ∷ []
  adds_one e (inl a) grown = absurd (let n = ap length (sym a.0 ∙ grown) in omega (arith, length-append old (e ∷ [])))
  adds_one e (inr a) grown = a.3 ∙ ap (λ es. mine ++ es) (append_cancel_left old (a.0 ∷ []) (e ∷ []) (sym a.2 ∙ grown))

module _ {S E A : Type 0} (entries : S → List E) (whose : E → ℕ) (legal : List E → Type 0) (gives : S → A → S → Type 0)
    (v : View E) (answer : A) (w : View E) (t : Turned entries whose legal gives v answer w) where
  -- a call that added nothing has only looked
  pub turned_none : entries t.after ≡ entries t.before → SeesOn v w
  turned_none same = (subst (IsPrefix v.seen) (sym (t.seen ∙ same)) t.fits.seen, adds_none whose v.caller _ _ _ _ t.adds same)

  -- the entry that a call added is the caller's next one
  pub turned_one : (e : E) → entries t.after ≡ entries t.before ++ e ∷ [] → w.mine ≡ v.mine ++ e ∷ []
  turned_one e grown = adds_one whose v.caller _ _ _ _ e t.adds grown

  -- what stands in the state's list was seen
  pub turned_sees : (e : E) → Contains (entries t.after) e → Contains w.seen e
  turned_sees e stands = subst (λ es. Contains es e) (sym t.seen) stands
