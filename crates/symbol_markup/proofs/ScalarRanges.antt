-- Ranges that stand on symbols keep their order in symbols, and are had back.
use Rattle.std.proofs.Common.{◌≡◌, ℕ, ◌+◌, ◌-◌, ◌<◌, ◌≤◌, ◌↔◌, inl, Bool, true, false, List, []}
use Rattle.std.proofs.Common.{◌∷◌, length, Some, refl, sym, ap, ◌∙◌, ⊎_elim, arith}
use Rattle.std.specs.Prelude.{◌==◌, not, cond, map, filter, slice_get}
use Rattle.std.specs.Option.{option_map_or}
use Rattle.std.specs.List.{AllByRecursion}
use Rattle.std.specs.Cmp.{nat_cmp_is, ranked}
use Rattle.std.specs.Ordering.{nat_cmp, is_gt, ordering_then, MatchOrdering}
use Rattle.std.specs.declared.cmp.Ordering.{Ordering}
use Rattle.std.specs.declared.cmp.Ordering.TheVariants.{Less, Equal, Greater}
use Rattle.std.proofs.lemmas.Bool.{cases_lt, eqb-true, false_from_ne_true}
use Rattle.pide_base.specs.declared.range.Range.{Range}
use Rattle.outer_syntax.specs.Symbols.{IsBoundary, symbols_of}
use Rattle.outer_syntax.specs.Boundaries.{boundaries}
use Rattle.outer_syntax.proofs.KnownStops.{place-within}
use Rattle.report_markup.specs.declared.report.Report.{Report}
use Rattle.report_markup.specs.Order.{said_cmp, report_cmp}
use Rattle.report_markup.specs.Sorting.{insert_if, insert_report, ordered_reports}
use Rattle.report_markup.proofs.KnownOrders.{All-order}
use Rattle.symbol_markup.specs.Places.{IsSymbolPlace, symbol_place, symbol_range, StandsOnSymbols}
use Rattle.symbol_markup.specs.Places.{scalar_place, scalar_range}
use Rattle.symbol_markup.specs.Told.{at_symbols, at_scalars, is_filled, in_symbols}
use Rattle.symbol_markup.proofs.SymbolCounts.{ended-rises}

range : ℕ → ℕ → Range
range start stop = record { start = start; stop = stop }

unequal : (m n : ℕ) → m < n → (m == n) ≡ false
unequal m n less = false_from_ne_true (m == n) (λ e. omega (arith, less, eqb-true m n e))

module _ (text : List ℕ)
    (at : (n place : ℕ) → (slice_get (boundaries text) n ≡ Some place) ↔ IsBoundary text n place)
    (just : (place number : ℕ) → place ≤ length text
    → IsSymbolPlace text place number ↔ (number ≡ symbol_place text place)) where
  abbrev Between : ℕ → Type 0
  Between place = (n : ℕ) × IsBoundary text n place

  abbrev Stands : Report → Type 0
  Stands r = StandsOnSymbols text r.range

  abbrev number : ℕ → ℕ
  number = symbol_place text

  abbrev told : Report → Report
  told = at_symbols text

  pub place-back : (n place : ℕ) → IsBoundary text n place
      → scalar_place text (number place) ≡ place
  place-back n place (before, is, count) =
      let within = place-within text 0 place before is (omega arith) in
      let here : n + 1 ≡ number place =
      (just place (n + 1) within).0 (n, inl (before, is, count), refl) in
      let index : number place - 1 ≡ n = omega (arith, here) in
      ap (λ k. option_map_or (λ p. p) (slice_get (boundaries text) k) (length text)) index
      ∙ ap (λ o. option_map_or (λ p. p) o (length text)) ((at n place).1 (before, is, count))

  pub range-back : (r : Range) → StandsOnSymbols text r
      → scalar_range text (symbol_range text r) ≡ r
  unfolding range
  range-back r stands =
      ap (λ start. range start (scalar_place text (number r.stop)))
      (place-back stands.starts.0 r.start stands.starts.1)
      ∙ ap (range r.start) (place-back stands.stops.0 r.stop stands.stops.1)

  -- later places between symbols have higher numbers
  rises : (a b : ℕ) → Between a → Between b → a < b → number a < number b
  rises a b one other less =
      ⊎_elim (λ (below : number a < number b). below)
      (λ (upto : number b ≤ number a).
      let more = ended-rises a b (symbols_of text) (omega (arith, less)) in
      let same : number a ≡ number b = omega (arith, upto, more) in
      let back : a ≡ b = sym (place-back one.0 a one.1) ∙ ap (scalar_place text) same
      ∙ place-back other.0 b other.1 in
      absurd (omega (arith, less, back)))
      (cases_lt (number a) (number b))

  same-cmp : (a b : ℕ) → Between a → Between b
      → nat_cmp (number a) (number b) ≡ nat_cmp a b
  same-cmp a b one other =
      let cmp = nat_cmp a b in
      sym (nat_cmp_is (number a) (number b) cmp (go cmp (ranked a b cmp refl)))
    where
      go : (o : Ordering) → MatchOrdering o (a < b) (a ≡ b) (b < a)
          → MatchOrdering o (number a < number b) (number a ≡ number b) (number b < number a)
      go Less is = rises a b one other is
      go Equal is = ap number is
      go Greater is = rises b a other one is

  same-order : (r s : Report) → Stands r → Stands s → report_cmp (told r) (told s) ≡ report_cmp r s
  same-order r s one other =
      let stops = nat_cmp (number s.range.stop) (number r.range.stop) in
      ap (λ o. ordering_then o (ordering_then stops (said_cmp r s)))
      (same-cmp r.range.start s.range.start one.starts other.starts)
      ∙ ap (λ o. ordering_then (nat_cmp r.range.start s.range.start)
      (ordering_then o (said_cmp r s)))
      (same-cmp s.range.stop r.range.stop other.stops one.stops)

  inserted : (r : Report) (rs : List Report) → Stands r → AllByRecursion Stands rs
      → insert_report (told r) (map told rs) ≡ map told (insert_report r rs)
  inserted r [] one all = refl
  inserted r (next ∷ rs) one all =
      let before = is_gt (report_cmp r next) in
      ap (λ o. insert_if (is_gt o) (told r) (told next) (map told rs)
      (insert_report (told r) (map told rs))) (same-order r next one all.0)
      ∙ ap (insert_if before (told r) (told next) (map told rs)) (inserted r rs one all.1)
      ∙ go (is_gt (report_cmp r next))
    where
      go : (b : Bool)
          → insert_if b (told r) (told next) (map told rs) (map told (insert_report r rs))
          ≡ map told (insert_if b r next rs (insert_report r rs))
      go true = refl
      go false = refl

  ordered : (rs : List Report) → AllByRecursion Stands rs
      → ordered_reports (map told rs) ≡ map told (ordered_reports rs)
  ordered [] all = refl
  ordered (r ∷ rs) all =
      ap (insert_report (told r)) (ordered rs all.1)
      ∙ inserted r (ordered_reports rs) all.0 (All-order Stands rs all.1)

  none-empty : (rs : List Report) → AllByRecursion Stands rs
      → filter (λ r. is_filled r.range) (map told rs) ≡ map told rs
  none-empty [] all = refl
  none-empty (r ∷ rs) all =
      let more = filter (λ q. is_filled q.range) (map told rs) in
      ap (λ b. cond (not b) (told r ∷ more) more)
      (unequal _ _ (rises r.range.start r.range.stop all.0.starts all.0.stops all.0.filled))
      ∙ ap (λ qs. told r ∷ qs) (none-empty rs all.1)

  each-back : (rs : List Report) → AllByRecursion Stands rs
      → map (at_scalars text) (map told rs) ≡ rs
  each-back [] all = refl
  each-back (r ∷ rs) all =
      let at_range : Range → Report = λ g. record r { range = g } in
      ap (λ g. at_range g ∷ map (at_scalars text) (map told rs)) (range-back r.range all.0)
      ∙ ap (λ qs. r ∷ qs) (each-back rs all.1)

  pub reports-back : (rs : List Report) → AllByRecursion Stands rs
      → map (at_scalars text) (in_symbols text rs) ≡ ordered_reports rs
  reports-back rs all =
      ap (λ qs. map (at_scalars text) (ordered_reports qs)) (none-empty rs all)
      ∙ ap (map (at_scalars text)) (ordered rs all)
      ∙ each-back (ordered_reports rs) (All-order Stands rs all)
