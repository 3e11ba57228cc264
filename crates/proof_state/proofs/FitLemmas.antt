-- Showing what fits a subgoal is showing the subgoal.
use Rattle.std.proofs.lemmas.Bool.{and_parts, or_cases}
use Rattle.std.proofs.Common.{◌≡◌, ℕ, suc, ◌+◌, cond, arith, Bool, true, false, Some, List, [], ◌∷◌, ◌⊎◌, map, refl, sym, subst, ap, ◌∙◌, inl, inr, ⊎_elim}
use Rattle.std.specs.Prelude.{slice_get}
use Rattle.std.specs.List.{list_any, list_all, position_from}
use Rattle.nj_formula.specs.declared.argument.Argument.TheVariants.{Free}
use Rattle.nj_formula.specs.declared.formula.Formula.{Formula}
use Rattle.nj_formula.specs.Statement.{Statement}
use Rattle.nj_formula.specs.Meaning.{meaning}
use Rattle.nj_formula.specs.Free.{is_free}
use Rattle.nj_formula.specs.FormulaInstance.{formula_instance}
use Rattle.nj_formula.proofs.KnownInstance.{instance_says}
use Rattle.nj_kernel.specs.Sets.{members, ◌∪◌, IsFreshIn}
use Rattle.shared_map.specs.Pairs.{Each}
use Rattle.proof_state.specs.declared.subgoal.Subgoal.{Subgoal}
use Rattle.proof_state.specs.declared.subgoal.Subgoal.TheVariants.{Show, AssumeShow, FixShow}
use Rattle.proof_state.specs.declared.block.Block.{Block}
use Rattle.proof_state.specs.Blocks.{assumptions}
use Rattle.proof_state.specs.Fits.{concludes, assumed, fits}
use Rattle.proof_state.specs.Same.{says_same}
use Rattle.proof_state.specs.Follows.{Follows}
use Rattle.proof_state.specs.Worth.{Assumes, Holds, IsPartOf, IsSound}
use Rattle.proof_state.proofs.SameLemmas.{same_is}
use Rattle.proof_state.proofs.KnownFollows.{monotone, all_follows}

one_of : (a : Formula) (bs : List Formula) → list_any (says_same a) bs ≡ true → members (map meaning bs) (meaning a)
one_of a [] e = cc
one_of a (b ∷ bs) e =
    ⊎_elim (λ s. inl (sym (same_is a b s))) (λ s. inr (one_of a bs s)) (or_cases (says_same a b) (list_any (says_same a) bs) e)

-- each of the first says what one of the second says
all_of : (bs xs : List Formula) → list_all (λ a. list_any (says_same a) bs) xs ≡ true
    → (s : Statement) → members (map meaning xs) s → members (map meaning bs) s
all_of bs [] e s m = elim m [ ]
all_of bs (a ∷ xs) e s m =
    let both = and_parts (list_any (says_same a) bs) (list_all (λ b. list_any (says_same b) bs) xs) e in
    ⊎_elim (λ same. subst (members (map meaning bs)) same (one_of a bs both.0)) (all_of bs xs both.1 s) m

-- an instance at a fixed name
some_name : (Q : List ℕ → Type 0) (c p : Formula) (fixed : List (List ℕ)) → Each Q fixed
    → list_any (λ y. says_same c (formula_instance (Free y) p)) fixed ≡ true
    → (y : List ℕ) × Q y × (meaning c ≡ meaning (formula_instance (Free y) p))
some_name Q c p [] each e = cc
some_name Q c p (y ∷ fixed) each e =
    ⊎_elim (λ s. (y, each.0, same_is c (formula_instance (Free y) p) s)) (λ s. some_name Q c p fixed each.1 s)
    (or_cases (says_same c (formula_instance (Free y) p)) (list_any (λ z. says_same c (formula_instance (Free z) p)) fixed) e)

module _ (P : Statement → Type 0) (block : Block) (sound : IsSound P block) (c : Formula) where
  abbrev Inner : Statement → Type 0
  Inner s = P s ⊎ Assumes block s

  shown : (subgoal : Subgoal) → IsPartOf block.goal subgoal → concludes block.variables c subgoal ≡ true
      → ((s : Statement) → Assumes block s → members (map meaning (assumed subgoal)) s) → Follows Inner (meaning c) → Holds P subgoal
  shown (Show g) part e within d =
      subst (Follows P) (same_is c g e) (monotone Inner P (meaning c) (λ s m. ⊎_elim (λ p. p) (λ n. elim (within s n) [ ]) m) d)
  shown (AssumeShow a g) part e within d =
      subst (Follows (P ∪ members (meaning a ∷ []))) (same_is c g e)
      (monotone Inner (P ∪ members (meaning a ∷ [])) (meaning c) (λ s m. ⊎_elim (λ p. inl p) (λ n. inr (within s n)) m) d)
  shown (FixShow x p) part e within d =
      let found = some_name (λ y. IsFreshIn y P × (is_free y (meaning block.goal) ≡ false)) c p block.variables sound.fresh e in
      let absent : is_free found.0 (meaning p) ≡ false = sym (ap (is_free found.0) part) ∙ found.1.1 in
      all_follows P found.0 (meaning p) found.1.0 absent
      (subst (Follows P) (found.2 ∙ instance_says (Free found.0) p)
      (monotone Inner P (meaning c) (λ s m. ⊎_elim (λ q. q) (λ n. elim (within s n) [ ]) m) d))

  pub fits_shown : (subgoal : Subgoal) → IsPartOf block.goal subgoal → fits block c subgoal ≡ true → Follows Inner (meaning c) → Holds P subgoal
  fits_shown subgoal part e =
      let both = and_parts (concludes block.variables c subgoal) (list_all (λ a. list_any (says_same a) (assumed subgoal)) (assumptions block)) e in
      shown subgoal part both.0 (all_of (assumed subgoal) (assumptions block) both.1)

module _ {X : Type 0} (p : X → Bool) where
  abbrev Found : List X → ℕ → ℕ → Type 0
  Found xs i k = (j : ℕ) × (k ≡ i + j) × (x : X) × (slice_get xs j ≡ Some x) × (p x ≡ true)

  found_from : (xs : List X) (i k : ℕ) → position_from p i xs ≡ Some k → Found xs i k
  found_from [] i k e = cc
  found_from (x ∷ xs) i k e = by (p x) refl (λ rest. found_from xs (i + 1) k rest) e
    where
      by : (b : Bool) → p x ≡ b → (position_from p (i + 1) xs ≡ Some k → Found xs (i + 1) k)
          → cond b (Some i) (position_from p (i + 1) xs) ≡ Some k → Found (x ∷ xs) i k
      by true passes later is = let same : i ≡ k = cc in (0, omega arith, x, refl, passes)
      by false passes later is = let at = later is in (suc at.0, omega (arith, at.1), at.2, at.3, at.4)

  -- where a test finds a place, something there passes
  pub found_at : (xs : List X) (k : ℕ) → position_from p 0 xs ≡ Some k → (x : X) × (slice_get xs k ≡ Some x) × (p x ≡ true)
  found_at xs k e =
      let at = found_from xs 0 k e in
      let place : at.0 ≡ k = omega (arith, at.1) in
      (at.2, subst (λ j. slice_get xs j ≡ Some at.2) place at.3, at.4)
