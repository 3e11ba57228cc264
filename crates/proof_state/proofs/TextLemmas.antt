-- Texts that are added piece by piece.
use Rattle.std.proofs.Common.{◌≡◌, ℕ, ◌+◌, ◌≤◌, List, [], ◌∷◌, ◌++◌, length, drop, refl, sym, ◌∙◌, ap, subst, append_assoc, append-nil}
use Rattle.std.specs.Prelude.{codes, Result, Ok, Err, OnOk}
use Rattle.std.proofs.lemmas.List.{drop_all}
use Rattle.nj_formula.specs.declared.formula.Formula.{Formula}
use Rattle.nj_formula.specs.Meaning.{meaning}
use Rattle.nj_syntax.specs.Prints.{Prints}
use Rattle.nj_syntax.specs.Primed.{IsPrimed}
use Rattle.proof_state.specs.declared.subgoal.Subgoal.{Subgoal}
use Rattle.proof_state.specs.Describes.{Adds, Then, Word, SaysFixed, SaysSubgoal, SaysSubgoals}

module _ (old mid new : List ℕ) (P Q : List ℕ → Type 0) where
  -- one piece, then another
  pub both_added : Adds old mid P → Adds mid new Q → Adds old new (Then P Q)
  both_added p q =
      (p.0 ++ q.0, q.1 ∙ (ap (λ t. t ++ q.0) p.1 ∙ append_assoc old p.0 q.0), (p.0, q.0, refl, p.2, q.2))

  pub then_ok : {T E : Type 0} (r : Result T E) → Adds old mid P → OnOk r (Adds mid new Q) → OnOk r (Adds old new (Then P Q))
  then_ok (Ok x) p q = both_added p q
  then_ok (Err e) p q = q

pub word_added : (old new word : List ℕ) → new ≡ old ++ word → Adds old new (Word word)
word_added old new word is = (word, is, refl)

-- a name to fix, its word, and the body
pub fixed_ok : {T E : Type 0} (r : Result T E) (old a b d new x y body : List ℕ) (p : Formula) → a ≡ old ++ codes "fix " → b ≡ a ++ y → d ≡ b ++ codes " show "
    → OnOk r (new ≡ d ++ body) → IsPrimed [] x (meaning p) y → Prints 10 (y ∷ []) p body → OnOk r (Adds old new (SaysFixed x p))
fixed_ok (Err e) old a b d new x y body p one two three is primed prints = is
fixed_ok (Ok o) old a b d new x y body p one two three is primed prints =
    (codes "fix " ++ (y ++ (codes " show " ++ body)), whole, (y, body, primed, prints, refl))
  where
    whole : new ≡ old ++ (codes "fix " ++ (y ++ (codes " show " ++ body)))
    whole =
        is ∙ (ap (λ t. t ++ body) three ∙ (append_assoc b (codes " show ") body
        ∙ (ap (λ t. t ++ (codes " show " ++ body)) two ∙ (append_assoc a y (codes " show " ++ body)
        ∙ (ap (λ t. t ++ (y ++ (codes " show " ++ body))) one ∙ append_assoc old (codes "fix ") (y ++ (codes " show " ++ body)))))))

-- the text, with the lines of the subgoals from this place on, tells them all
abbrev pub Leads : List ℕ → List ℕ → List Subgoal → ℕ → Type 0
Leads old text xs i = (more : List ℕ) → SaysSubgoals (drop i xs) more → Adds old (text ++ more) (SaysSubgoals xs)

pub leads_first : (old : List ℕ) (xs : List Subgoal) → Leads old old xs 0
leads_first old xs more says = (more, refl, says)

pub leads_on : (old text line new : List ℕ) (xs : List Subgoal) (i : ℕ) (x : Subgoal) → drop i xs ≡ x ∷ drop (i + 1) xs
    → line ≡ text ++ (10 ∷ codes "subgoal: ") → Adds line new (SaysSubgoal x) → Leads old text xs i → Leads old new xs (i + 1)
leads_on old text line new xs i x at is added leads more says =
    subst (λ t. Adds old t (SaysSubgoals xs)) (sym whole)
    (leads ((10 ∷ codes "subgoal: ") ++ (added.0 ++ more))
    (subst (λ l. SaysSubgoals l ((10 ∷ codes "subgoal: ") ++ (added.0 ++ more))) (sym at)
    (10 ∷ codes "subgoal: ", added.0 ++ more, refl, refl, (added.0, more, refl, added.2, says))))
  where
    whole : new ++ more ≡ text ++ ((10 ∷ codes "subgoal: ") ++ (added.0 ++ more))
    whole =
        ap (λ t. t ++ more) added.1 ∙ (append_assoc line added.0 more
        ∙ (ap (λ t. t ++ (added.0 ++ more)) is ∙ append_assoc text (10 ∷ codes "subgoal: ") (added.0 ++ more)))

pub leads_end : (old text : List ℕ) (xs : List Subgoal) (i : ℕ) → length xs ≤ i → Leads old text xs i → Adds old text (SaysSubgoals xs)
leads_end old text xs i past leads =
    subst (λ t. Adds old t (SaysSubgoals xs)) (append-nil text)
    (leads [] (subst (λ l. SaysSubgoals l []) (sym (drop_all i xs past)) refl))
