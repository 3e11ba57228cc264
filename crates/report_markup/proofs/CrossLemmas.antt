-- Ranges that cross.
use Rattle.std.proofs.Common.{◌≡◌, ◌<◌, ◌≤◌, ◌⊎◌, ◌↔◌, Bool, true, false, nat_lt, IsTrue, refl, sym, ◌∙◌, inl, inr, ⊎_elim, arith}
use Rattle.std.specs.Prelude.{◌&&◌, ◌||◌}
use Rattle.std.proofs.lemmas.Bool.{ltb-true, lt-ltb, false≢true, and_parts, and_from, or_cases, cases_lt}
use Rattle.pide_base.specs.declared.range.Range.{Range}
use Rattle.report_markup.specs.Ranges.{AreTreelike}
use Rattle.report_markup.specs.Crossing.{crosses}

pub or_true : (a b : Bool) → (a ≡ true) ⊎ (b ≡ true) → (a || b) ≡ true
or_true true b e = refl
or_true false b e = ⊎_elim (λ f. cc f) (λ f. f) e

or_turned : (a b : Bool) → (a || b) ≡ (b || a)
or_turned true true = refl
or_turned true false = refl
or_turned false true = refl
or_turned false false = refl

-- the second begins within the first and ends behind it
abbrev pub BeginsWithin : Range → Range → Type 0
BeginsWithin r s = (r.start < s.start) × (s.start < r.stop) × (r.stop < s.stop)

one_way : (r s : Range) → (nat_lt r.start s.start && nat_lt s.start r.stop && nat_lt r.stop s.stop) ≡ true → BeginsWithin r s
one_way r s e =
    let outer = and_parts (nat_lt r.start s.start && nat_lt s.start r.stop) (nat_lt r.stop s.stop) e in
    let inner = and_parts (nat_lt r.start s.start) (nat_lt s.start r.stop) outer.0 in
    (ltb-true r.start s.start inner.0, ltb-true s.start r.stop inner.1, ltb-true r.stop s.stop outer.1)

way_one : (r s : Range) → BeginsWithin r s → (nat_lt r.start s.start && nat_lt s.start r.stop && nat_lt r.stop s.stop) ≡ true
way_one r s c =
    and_from (nat_lt r.start s.start && nat_lt s.start r.stop) (nat_lt r.stop s.stop)
    (and_from (nat_lt r.start s.start) (nat_lt s.start r.stop) (lt-ltb r.start s.start c.0) (lt-ltb s.start r.stop c.1))
    (lt-ltb r.stop s.stop c.2)

pub crossed : (r s : Range) → crosses r s ≡ true → BeginsWithin r s ⊎ BeginsWithin s r
crossed r s e =
    ⊎_elim (λ f. inl (one_way r s f)) (λ f. inr (one_way s r f))
    (or_cases (nat_lt r.start s.start && nat_lt s.start r.stop && nat_lt r.stop s.stop) (nat_lt s.start r.start && nat_lt r.start s.stop && nat_lt s.stop r.stop) e)

pub cross : (r s : Range) → BeginsWithin r s ⊎ BeginsWithin s r → crosses r s ≡ true
cross r s c =
    or_true (nat_lt r.start s.start && nat_lt s.start r.stop && nat_lt r.stop s.stop) (nat_lt s.start r.start && nat_lt r.start s.stop && nat_lt s.stop r.stop)
    (⊎_elim (λ f. inl (way_one r s f)) (λ f. inr (way_one s r f)) c)

pub turned : (r s : Range) → crosses r s ≡ crosses s r
turned r s = or_turned (nat_lt r.start s.start && nat_lt s.start r.stop && nat_lt r.stop s.stop) (nat_lt s.start r.start && nat_lt r.start s.stop && nat_lt s.stop r.stop)

pub not_treelike : (r s : Range) → BeginsWithin r s → AreTreelike r s → ⊥
not_treelike r s c t =
    ⊎_elim (λ apart. omega (arith, c, apart))
    (⊎_elim (λ apart. omega (arith, c, apart)) (⊎_elim (λ within. omega (arith, c, within)) (λ around. omega (arith, c, around)))) t

pub not_treelike_turned : (r s : Range) → BeginsWithin s r → AreTreelike r s → ⊥
not_treelike_turned r s c t =
    ⊎_elim (λ apart. omega (arith, c, apart))
    (⊎_elim (λ apart. omega (arith, c, apart)) (⊎_elim (λ within. omega (arith, c, within)) (λ around. omega (arith, c, around)))) t

-- ranges that do not cross are equal, nested or disjoint
pub treelike : (r s : Range) → crosses r s ≡ false → AreTreelike r s
treelike r s uncrossed = by (cases_lt s.start r.stop) (cases_lt r.start s.stop) (cases_lt r.start s.start) (cases_lt s.start r.start) (cases_lt r.stop s.stop) (cases_lt s.stop r.stop)
  where
    none : BeginsWithin r s ⊎ BeginsWithin s r → ⊥
    none c = false≢true (sym uncrossed ∙ cross r s c)

    by : (s.start < r.stop) ⊎ (r.stop ≤ s.start) → (r.start < s.stop) ⊎ (s.stop ≤ r.start) → (r.start < s.start) ⊎ (s.start ≤ r.start)
        → (s.start < r.start) ⊎ (r.start ≤ s.start) → (r.stop < s.stop) ⊎ (s.stop ≤ r.stop) → (s.stop < r.stop) ⊎ (r.stop ≤ s.stop) → AreTreelike r s
    by (inr apart) b c d e f = inl apart
    by (inl a) (inr apart) c d e f = inr (inl apart)
    by (inl a) (inl b) (inl c) d (inl e) f = absurd (none (inl (c, a, e)))
    by (inl a) (inl b) (inl c) d (inr e) f = inr (inr (inr (omega (arith, c), e)))
    by (inl a) (inl b) (inr c) (inl d) e (inl f) = absurd (none (inr (d, b, f)))
    by (inl a) (inl b) (inr c) (inl d) e (inr f) = inr (inr (inl (c, f)))
    by (inl a) (inl b) (inr c) (inr d) (inl e) f = inr (inr (inl (c, omega (arith, e))))
    by (inl a) (inl b) (inr c) (inr d) (inr e) f = inr (inr (inr (d, e)))

pub cross_iff : (r s : Range) → IsTrue (crosses r s) ↔ ((AreTreelike r s) → ⊥)
cross_iff r s = (
  λ e. ⊎_elim (not_treelike r s) (not_treelike_turned r s) (crossed r s e),
  λ none. by (crosses r s) refl none,
)
  where
    by : (b : Bool) → crosses r s ≡ b → (AreTreelike r s → ⊥) → b ≡ true
    by true e none = refl
    by false e none = absurd (none (treelike r s e))
