-- What searches find on either side of a report.
use Rattle.std.proofs.Common.{◌≡◌, ◌<◌, ◌≤◌, ℕ, nat_lt, Bool, true, false, Option, Some, None, List, [], ◌∷◌, cond, refl, sym, ◌∙◌, subst, inl, ⊎_elim, arith}
use Rattle.std.specs.Option.{option_or}
use Rattle.std.specs.List.{AllByRecursion}
use Rattle.std.proofs.lemmas.Bool.{false≢true, and_parts, or_parts, and_from, ltb-false, ltb-true, lt-ltb}
use Rattle.pide_base.specs.declared.range.Range.{Range}
use Rattle.report_markup.specs.declared.report.Report.{Report}
use Rattle.report_markup.specs.Crossing.{crosses, first_crossing}
use Rattle.report_markup.specs.Innermost.{surrounds, innermost, ends_before, begins_behind, may_cross}
use Rattle.report_markup.specs.Standing.{StandsBefore, Stand}
use Rattle.report_markup.proofs.OrderLemmas.{Before, before_of}
use Rattle.report_markup.proofs.CrossLemmas.{BeginsWithin, crossed, cross}
use Rattle.report_markup.proofs.StandLemmas.{CrossesNone, crossed_none}

-- what is found is one of the reports, and surrounds the place
found : (Q : Report → Type 0) (place : ℕ) (xs : List Report) (m : Range) → AllByRecursion Q xs → innermost place xs ≡ Some m
    → (y : Report) × (y.range ≡ m) × (surrounds place m ≡ true) × Q y
found Q place [] m all e = cc
found Q place (x ∷ xs) m all e = by (innermost place xs) refl (found Q place xs m all.1) (surrounds place x.range) refl e
  where
    by : (o : Option Range) → innermost place xs ≡ o → (innermost place xs ≡ Some m → (y : Report) × (y.range ≡ m) × (surrounds place m ≡ true) × Q y)
        → (b : Bool) → surrounds place x.range ≡ b → option_or o (cond b (Some x.range) None) ≡ Some m
        → (y : Report) × (y.range ≡ m) × (surrounds place m ≡ true) × Q y
    by (Some k) f rest b g h = rest (f ∙ h)
    by None f rest true g h =
        let same : x.range ≡ m = cc in (x, same, subst (λ s. surrounds place s ≡ true) same g, all.0)
    by None f rest false g h = cc

around : (place : ℕ) (r : Range) → surrounds place r ≡ true → (r.start < place) × (place < r.stop)
around place r e =
    let both = and_parts (nat_lt r.start place) (nat_lt place r.stop) e in
    (ltb-true r.start place both.0, ltb-true place r.stop both.1)

round : (place : ℕ) (r : Range) → r.start < place → place < r.stop → surrounds place r ≡ true
round place r a b = and_from (nat_lt r.start place) (nat_lt place r.stop) (lt-ltb r.start place a) (lt-ltb place r.stop b)

module _ (range : Range) where
  -- none of the two innermost ranges tells of a crossing
  abbrev Quiet : List Report → Type 0
  Quiet xs = (ends_before (innermost range.start xs) range.stop ≡ false) × (begins_behind (innermost range.stop xs) range.start ≡ false)

  ends_later : (o : Option Range) (b : Option Range) → ends_before (option_or o b) range.stop ≡ false → ends_before o range.stop ≡ false
  ends_later None b e = refl
  ends_later (Some m) b e = e

  begins_later : (o : Option Range) (b : Option Range) → begins_behind (option_or o b) range.start ≡ false → begins_behind o range.start ≡ false
  begins_later None b e = refl
  begins_later (Some m) b e = e

  quiet_rest : (x : Report) (xs : List Report) → Quiet (x ∷ xs) → Quiet xs
  quiet_rest x xs quiet = (
    ends_later (innermost range.start xs) (cond (surrounds range.start x.range) (Some x.range) None) quiet.0,
    begins_later (innermost range.stop xs) (cond (surrounds range.stop x.range) (Some x.range) None) quiet.1,
  )

  -- a report that ends within the range would be the innermost one at its start, or be crossed by that one
  left_end : (x : Report) (xs : List Report) → AllByRecursion (StandsBefore x) xs → ends_before (innermost range.start (x ∷ xs)) range.stop ≡ false
      → BeginsWithin x.range range → ⊥
  left_end x xs all quiet c = by (innermost range.start xs) refl quiet
    where
      by : (o : Option Range) → innermost range.start xs ≡ o
          → ends_before (option_or o (cond (surrounds range.start x.range) (Some x.range) None)) range.stop ≡ false → ⊥
      by None e q =
          let here : ends_before (Some x.range) range.stop ≡ false =
          subst (λ b. ends_before (cond b (Some x.range) None) range.stop ≡ false) (round range.start x.range c.0 c.1) q in
          let stop : range.stop ≤ x.range.stop = ltb-false x.range.stop range.stop here in
          omega (arith, c, stop)
      by (Some m) e q =
          let y = found (StandsBefore x) range.start xs m all e in
          let at = around range.start m y.2 in
          let stop : range.stop ≤ m.stop = ltb-false m.stop range.stop q in
          let before : Before x.range m = subst (Before x.range) y.1 (before_of x y.0 y.3.0) in
          let apart : crosses x.range m ≡ false = subst (λ s. crosses x.range s ≡ false) y.1 y.3.1 in
          ⊎_elim
          (λ less. false≢true (sym apart ∙ cross x.range m (inl (less, omega (arith, at, c), omega (arith, stop, c)))))
          (λ same. omega (arith, same, stop, c)) before

  right_end : (x : Report) (xs : List Report) → AllByRecursion (StandsBefore x) xs → begins_behind (innermost range.stop (x ∷ xs)) range.start ≡ false
      → BeginsWithin range x.range → ⊥
  right_end x xs all quiet c = by (innermost range.stop xs) refl quiet
    where
      by : (o : Option Range) → innermost range.stop xs ≡ o
          → begins_behind (option_or o (cond (surrounds range.stop x.range) (Some x.range) None)) range.start ≡ false → ⊥
      by None e q =
          let here : begins_behind (Some x.range) range.start ≡ false =
          subst (λ b. begins_behind (cond b (Some x.range) None) range.start ≡ false) (round range.stop x.range c.1 c.2) q in
          let start : x.range.start ≤ range.start = ltb-false range.start x.range.start here in
          omega (arith, c, start)
      by (Some m) e q =
          let y = found (StandsBefore x) range.stop xs m all e in
          let start : m.start ≤ range.start = ltb-false range.start m.start q in
          let before : Before x.range m = subst (Before x.range) y.1 (before_of x y.0 y.3.0) in
          ⊎_elim (λ less. omega (arith, less, start, c)) (λ same. omega (arith, same, start, c)) before

  none_crosses : (xs : List Report) → Stand xs → Quiet xs → CrossesNone range xs
  none_crosses [] stand quiet = tt
  none_crosses (x ∷ xs) stand quiet =
      (by (crosses range x.range) refl, none_crosses xs stand.1 (quiet_rest x xs quiet))
    where
      by : (b : Bool) → crosses range x.range ≡ b → b ≡ false
      by false e = refl
      by true e = absurd (⊎_elim (right_end x xs stand.0 quiet.1) (left_end x xs stand.0 quiet.0) (crossed range x.range e))

  -- so no search is needed
  pub no_crossing : (xs : List Report) → Stand xs → may_cross range xs ≡ false → first_crossing range xs ≡ None
  no_crossing xs stand quiet =
      crossed_none range xs
      (none_crosses xs stand (or_parts (ends_before (innermost range.start xs) range.stop) (begins_behind (innermost range.stop xs) range.start) quiet))
