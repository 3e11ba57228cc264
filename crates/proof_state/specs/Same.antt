-- Equality of formulas up to bound names is decided.
use base.Stored.{Gv, gnil, gnum, gcons}
use Rattle.std.specs.Prelude.{◌≡◌, ◌≢◌, ◌⊎◌, ℕ, nat_eq, Bool, true, false, []}
use Rattle.std.proofs.Common.{refl, sym, ◌∙◌, ap, inl, inr, eq-eqb, rules}
use Rattle.nj_formula.specs.declared.formula.Formula.{Formula}
use Rattle.nj_formula.specs.declared.formula.Formula.TheVariants.{False, Atom, Not, And, Or}
use Rattle.nj_formula.specs.declared.formula.Formula.TheVariants.{Implies, All, Exists}
use Rattle.nj_formula.specs.contracts.formula.Formula as formulas
use Rattle.nj_formula.specs.Statement.{Statement, falsity, atom, neg, conj, disj, implies}
use Rattle.nj_formula.specs.Statement.{every, exists}
use Rattle.nj_formula.specs.Meaning.{meaning}
use Rattle.nj_formula.proofs.KnownMeaning.{meaning-False, meaning-Atom, meaning-Not, meaning-And}
use Rattle.nj_formula.proofs.KnownMeaning.{meaning-Or, meaning-Implies, meaning-All, meaning-Exists}

-- a formula that says the statement, all of its bound names empty
abbrev unnamed : Statement → Formula
unnamed falsity = False
unnamed (atom p arguments) = Atom p arguments
unnamed (neg a) = Not (unnamed a)
unnamed (conj a b) = And (unnamed a) (unnamed b)
unnamed (disj a b) = Or (unnamed a) (unnamed b)
unnamed (implies a b) = Implies (unnamed a) (unnamed b)
unnamed (every a) = All [] (unnamed a)
unnamed (exists a) = Exists [] (unnamed a)

unnamed_says : (s : Statement) → meaning (unnamed s) ≡ s
unnamed_says falsity = meaning-False
unnamed_says (atom p arguments) = meaning-Atom p arguments
unnamed_says (neg a) = meaning-Not (unnamed a) ∙ ap neg (unnamed_says a)
unnamed_says (conj a b) =
    meaning-And (unnamed a) (unnamed b)
    ∙ (ap (λ s. conj s (meaning (unnamed b))) (unnamed_says a) ∙ ap (conj a) (unnamed_says b))
unnamed_says (disj a b) =
    meaning-Or (unnamed a) (unnamed b)
    ∙ (ap (λ s. disj s (meaning (unnamed b))) (unnamed_says a) ∙ ap (disj a) (unnamed_says b))
unnamed_says (implies a b) =
    meaning-Implies (unnamed a) (unnamed b)
    ∙ (ap (λ s. implies s (meaning (unnamed b))) (unnamed_says a) ∙ ap (implies a) (unnamed_says b))
unnamed_says (every a) = meaning-All [] (unnamed a) ∙ ap every (unnamed_says a)
unnamed_says (exists a) = meaning-Exists [] (unnamed a) ∙ ap exists (unnamed_says a)

decide_number : (m n : ℕ) → (m ≡ n) ⊎ (m ≢ n)
decide_number m n = by (nat_eq m n) refl
  where
    by : (b : Bool) → nat_eq m n ≡ b → (m ≡ n) ⊎ (m ≢ n)
    by true e = inl (search rules)
    by false e = inr (λ same. cc (sym e ∙ eq-eqb m n same))

-- trees of numbers, by which the proofs' library tells values apart
decide_tree : (a b : Gv) → (a ≡ b) ⊎ (a ≢ b)
decide_tree gnil gnil = inl refl
decide_tree gnil (gnum n) = inr (λ e. cc)
decide_tree gnil (gcons c d) = inr (λ e. cc)
decide_tree (gnum m) gnil = inr (λ e. cc)
decide_tree (gnum m) (gnum n) = by (decide_number m n)
  where
    by : (m ≡ n) ⊎ (m ≢ n) → (gnum m ≡ gnum n) ⊎ (gnum m ≢ gnum n)
    by (inl same) = inl (ap gnum same)
    by (inr other) = inr (λ e. other cc)
decide_tree (gnum m) (gcons c d) = inr (λ e. cc)
decide_tree (gcons a b) gnil = inr (λ e. cc)
decide_tree (gcons a b) (gnum n) = inr (λ e. cc)
decide_tree (gcons a b) (gcons c d) = by (decide_tree a c) (decide_tree b d)
  where
    by : (a ≡ c) ⊎ (a ≢ c) → (b ≡ d) ⊎ (b ≢ d) → (gcons a b ≡ gcons c d) ⊎ (gcons a b ≢ gcons c d)
    by (inl one) (inl two) = inl (ap (λ x. gcons x b) one ∙ ap (gcons c) two)
    by (inl one) (inr two) = inr (λ e. two cc)
    by (inr one) two = inr (λ e. one cc)

-- the tree of the formula that says the statement
abbrev tree : Statement → Gv
tree s = formulas.the_row.coded.code (unnamed s)

-- two statements are the same or not
pub decide : (a b : Statement) → (a ≡ b) ⊎ (a ≢ b)
decide a b = by (decide_tree (tree a) (tree b))
  where
    by : (tree a ≡ tree b) ⊎ (tree a ≢ tree b) → (a ≡ b) ⊎ (a ≢ b)
    by (inl same) =
        inl (sym (unnamed_says a)
        ∙ (ap meaning (formulas.the_row.coded.inj (unnamed a) (unnamed b) same) ∙ unnamed_says b))
    by (inr other) = inr (λ e. other (ap tree e))

-- whether it is the first of the two that holds
abbrev pub is_first : {P Q : Type 0} → P ⊎ Q → Bool
is_first (inl p) = true
is_first (inr q) = false

-- the formulas are equal up to bound names
unfoldable pub says_same : Formula → Formula → Bool
says_same f g = is_first (decide (meaning f) (meaning g))
