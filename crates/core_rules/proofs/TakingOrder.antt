-- The order in which ready parts are taken is total.
use Rattle.std.proofs.Common.{◌≡◌, ◌⊎◌, inl, inr, ℕ, ◌<◌, ◌≤◌, Bool, true, false, ◌&&◌, ◌||◌, refl, ap, sym, ◌∙◌, arith}
use Rattle.std.proofs.lemmas.Bool.{eqb-true, eq-eqb, ltb-true, ltb-false, or_from, cases_lt, false≢true, ne_eqb, le-ltb}
use Rattle.std.specs.Prelude.{◌==◌, nat_lt}
use Rattle.pide_base.specs.declared.part.Part.{Part}
use Rattle.pide_base.specs.declared.part.PartKind.{PartKind}
use Rattle.pide_base.specs.declared.part.PartKind.TheVariants as kind
use Rattle.core_tables.specs.declared.priority.Priority.{Priority}
use Rattle.core_tables.specs.Order.{height, goes_before}
use Rattle.exec_rules.specs.declared.version.Version.{Version}
use Rattle.core_rules.specs.Assigned.{is_visible}
use Rattle.core_rules.specs.Ready.{priority_by, priority_of, comes_before}

-- a number that is not taken before another: less urgent, or as urgent and not lower
abbrev pub Later : ℕ → ℕ → ℕ → ℕ → Type 0
Later a e b f = (a < b) ⊎ ((a ≡ b) × (f ≤ e))

later_by : (x y : Bool) (a e b f : ℕ) → nat_lt b a ≡ x → (a == b) ≡ y → (x || (y && nat_lt e f)) ≡ false → Later a e b f
later_by true y a e b f p q is = absurd (cc)
later_by false true a e b f p q is = inr (eqb-true a b q, ltb-false e f is)
later_by false false a e b f p q is = go (cases_lt a b)
  where
    go : (a < b) ⊎ (b ≤ a) → Later a e b f
    go (inl lt) = inl lt
    go (inr le) =
        let same : a ≡ b = omega (arith, le, ltb-false b a p) in
        absurd (false≢true (sym q ∙ eq-eqb a b same))

pub later_is : (p q : Priority) (e f : ℕ) → goes_before p e q f ≡ false → Later (height p) e (height q) f
later_is p q e f is = later_by (nat_lt (height q) (height p)) (height p == height q) (height p) e (height q) f refl refl is

is_later : (p q : Priority) (e f : ℕ) → Later (height p) e (height q) f → goes_before p e q f ≡ false
is_later p q e f (inl lt) = or_from _ _ (le-ltb (height q) (height p) (omega (arith, lt)))
    (ap (λ b. b && nat_lt e f) (ne_eqb (height p) (height q) (λ same. absurd (omega (arith, lt, same)))))
is_later p q e f (inr both) = or_from _ _ (le-ltb (height q) (height p) (omega (arith, both.0)))
    (last (height p == height q) (le-ltb e f both.1))
  where
    last : (b : Bool) → nat_lt e f ≡ false → (b && nat_lt e f) ≡ false
    last true is = is
    last false is = refl

later_on : (a b c e f g : ℕ) → Later a e b f → Later b f c g → Later a e c g
later_on a b c e f g (inl x) (inl y) = inl (omega (arith, x, y))
later_on a b c e f g (inl x) (inr y) = inl (omega (arith, x, y.0))
later_on a b c e f g (inr x) (inl y) = inl (omega (arith, x.0, y))
later_on a b c e f g (inr x) (inr y) = inr (omega (arith, x.0, y.0), omega (arith, x.1, y.1))

before_by : (x y z : Bool) (a e b f : ℕ) → nat_lt b a ≡ x → (a == b) ≡ y → nat_lt e f ≡ z → (x || (y && z)) ≡ true → Later b f a e
before_by true y z a e b f p q r is = inl (ltb-true b a p)
before_by false true true a e b f p q r is = inr (sym (eqb-true a b q), let lt = ltb-true e f r in omega (arith, lt))
before_by false true false a e b f p q r is = absurd (cc)
before_by false false z a e b f p q r is = absurd (cc)

before_is : (p q : Priority) (e f : ℕ) → goes_before p e q f ≡ true → Later (height q) f (height p) e
before_is p q e f is = before_by (nat_lt (height q) (height p)) (height p == height q) (nat_lt e f) (height p) e (height q) f refl refl refl is

module _ (tip : Version) where
  -- what is not before what is not before a third is not before it
  pub not_before : (p q r : Part) → comes_before tip p q ≡ false → comes_before tip q r ≡ false
      → comes_before tip p r ≡ false
  not_before p q r a b = is_later (priority_of tip p) (priority_of tip r) p.exec r.exec
      (later_on (height (priority_of tip p)) (height (priority_of tip q)) (height (priority_of tip r)) p.exec q.exec r.exec
      (later_is (priority_of tip p) (priority_of tip q) p.exec q.exec a)
      (later_is (priority_of tip q) (priority_of tip r) q.exec r.exec b))

  same_kind_by : (a b : PartKind) (v : Bool) → height (priority_by a v) ≡ height (priority_by b v) → a ≡ b
  same_kind_by kind.Eval kind.Eval v e = refl
  same_kind_by kind.Eval kind.Fork true e = absurd (omega (arith, e))
  same_kind_by kind.Eval kind.Fork false e = absurd (omega (arith, e))
  same_kind_by kind.Eval kind.Print true e = absurd (omega (arith, e))
  same_kind_by kind.Eval kind.Print false e = absurd (omega (arith, e))
  same_kind_by kind.Fork kind.Eval true e = absurd (omega (arith, e))
  same_kind_by kind.Fork kind.Eval false e = absurd (omega (arith, e))
  same_kind_by kind.Fork kind.Fork v e = refl
  same_kind_by kind.Fork kind.Print v e = absurd (omega (arith, e))
  same_kind_by kind.Print kind.Eval true e = absurd (omega (arith, e))
  same_kind_by kind.Print kind.Eval false e = absurd (omega (arith, e))
  same_kind_by kind.Print kind.Fork v e = absurd (omega (arith, e))
  same_kind_by kind.Print kind.Print v e = refl

  same_by : (p q : Part) → Later (height (priority_of tip p)) p.exec (height (priority_of tip q)) q.exec
      → Later (height (priority_of tip q)) q.exec (height (priority_of tip p)) p.exec → p ≡ q
  same_by p q (inl x) (inl y) = absurd (omega (arith, x, y))
  same_by p q (inl x) (inr y) = absurd (omega (arith, x, y.0))
  same_by p q (inr x) (inl y) = absurd (omega (arith, x.0, y))
  same_by p q (inr x) (inr y) =
      let exec : p.exec ≡ q.exec = omega (arith, x.1, y.1) in
      let kinds : p.kind ≡ q.kind = same_kind_by p.kind q.kind (is_visible tip q.exec)
      (ap (λ e. height (priority_by p.kind (is_visible tip e))) (sym exec) ∙ x.0) in
      ap (λ e. record { exec = e; kind = p.kind }) exec ∙ ap (λ k. record { exec = q.exec; kind = k }) kinds

  -- of two parts neither of which is taken before the other, there is one
  pub one_first : (p q : Part) → comes_before tip p q ≡ false → comes_before tip q p ≡ false → p ≡ q
  one_first p q a b = same_by p q (later_is (priority_of tip p) (priority_of tip q) p.exec q.exec a)
      (later_is (priority_of tip q) (priority_of tip p) q.exec p.exec b)

  pub not_itself : (p : Part) → comes_before tip p p ≡ false
  not_itself p = is_later (priority_of tip p) (priority_of tip p) p.exec p.exec (inr (refl, omega arith))

  -- what is taken before another is not taken behind it
  pub not_both : (p q : Part) → comes_before tip p q ≡ true → comes_before tip q p ≡ false
  not_both p q is = is_later (priority_of tip q) (priority_of tip p) q.exec p.exec
      (before_is (priority_of tip p) (priority_of tip q) p.exec q.exec is)
