-- Tables that are changed at some numbers, one after the other.
use Rattle.std.proofs.Common.{◌≡◌, ℕ, Bool, true, false, cond, ◌||◌, List, [], ◌∷◌, ◌++◌, Option, Some, None, refl, ap, sym, ◌∙◌}
use Rattle.std.proofs.lemmas.Bool.{eqb-true}
use Rattle.std.specs.Prelude.{◌==◌}
use Rattle.std.proofs.Math.Bool.{or-false}
use Rattle.text_words.specs.Members.{has}
use Rattle.core_tables.specs.declared.execution.Execution.{Execution}
use Rattle.core_tables.specs.Progress.{is_idle}
use Rattle.core_tables.specs.Finish.{after_cancelling}
use Rattle.text_words.proofs.KnownMembers.{has_both}
use Rattle.text_words.proofs.KnownLists.{differ_turned}

-- what is there at a number, once it is changed at these
abbrev pub changed_in : {A : Type 0} → (ℕ → A → A) → List ℕ → (ℕ → A) → ℕ → A
changed_in step ds f e = cond (has ds e) (step e (f e)) (f e)

module _ {A : Type 0} (step : ℕ → A → A) (again : (e : ℕ) (a : A) → step e (step e a) ≡ step e a) where
  -- one more
  pub changed_more : (ds : List ℕ) (x e : ℕ) (f g k : ℕ → A) → ((n : ℕ) → g n ≡ changed_in step ds f n)
      → ((n : ℕ) → k n ≡ cond (x == n) (step x (g x)) (g n)) → k e ≡ changed_in step (ds ++ x ∷ []) f e
  changed_more ds x e f g k was is = is e ∙ go (x == e) refl
      ∙ ap (λ b. cond b (step e (f e)) (f e)) (sym (has_both ds (x ∷ []) e))
    where
      twice : (b : Bool) → has ds e ≡ b → step e (cond b (step e (f e)) (f e)) ≡ cond (b || true) (step e (f e)) (f e)
      twice true same = again e (f e)
      twice false same = refl

      here : step e (g e) ≡ cond (has ds e || true) (step e (f e)) (f e)
      here = ap (step e) (was e) ∙ twice (has ds e) refl

      same_as : (b : Bool) → b ≡ true → cond (has ds e || true) (step e (f e)) (f e) ≡ cond (has ds e || (b || false)) (step e (f e)) (f e)
      same_as true same = refl
      same_as false same = absurd (cc)

      go : (b : Bool) → (x == e) ≡ b → cond b (step x (g x)) (g e) ≡ cond (has ds e || ((e == x) || false)) (step e (f e)) (f e)
      go true same =
          let it : x ≡ e = eqb-true x e same in
          ap (λ n. step n (g n)) it ∙ here ∙ same_as (e == x) (ap (λ n. e == n) it ∙ (sym (ap (λ n. n == e) it) ∙ same))
      go false same = was e
          ∙ ap (λ b. cond b (step e (f e)) (f e)) (sym (or-false (has ds e)))
          ∙ ap (λ b. cond (has ds e || (b || false)) (step e (f e)) (f e)) (sym (differ_turned x e same))

-- what was cancelled stays so
pub again_cancelled : {R : Type 0} (o : Option (Execution R)) → after_cancelling (after_cancelling o) ≡ after_cancelling o
again_cancelled None = refl
again_cancelled (Some x) = go (is_idle x) refl
  where
    go : (b : Bool) → is_idle x ≡ b → after_cancelling (Some (cond b x (record x { cancelled = true }))) ≡ Some (cond b x (record x { cancelled = true }))
    go true is = ap (λ b. Some (cond b x (record x { cancelled = true }))) is
    go false is = refl
