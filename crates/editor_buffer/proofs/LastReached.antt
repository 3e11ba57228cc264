-- Whether a range is seen, by the last of the ranges that begin before its end.
use Rattle.std.proofs.Common.{◌≡◌, ℕ, ◌-◌, ◌<◌, ◌≤◌, Bool, true, false, List, length, get_or, refl, sym, ap, subst, ◌∙◌, arith}
use Rattle.std.specs.Prelude.{nat_lt}
use Rattle.std.specs.List.Sorted.{IsPartitionPoint}
use Rattle.std.proofs.lemmas.Bool.Decides.{nat_tests}
use Rattle.std.proofs.lemmas.List.{get_or_read}
use Rattle.std.proofs.lemmas.List.Folds.{list_any_none, list_any_at}
use Rattle.pide_base.specs.declared.range.Range.{Range}
use Rattle.buffer_rules.specs.Cuts.{share, is_seen}
use Rattle.editor_buffer.specs.Spread.{AreSpread}
use Rattle.editor_buffer.proofs.Spreading.{so_share, early_none}

-- what is found among them
module _ (ranges : List Range) (are : AreSpread ranges) (range : Range) (count : ℕ)
    (point : IsPartitionPoint (λ (r : Range). nat_lt r.start range.stop ≡ true) (λ (r : Range). nat_lt r.start range.stop ≡ false) ranges count) where
  beyond : (i : ℕ) (d : Range) → count ≤ i → i < length ranges → share range (get_or ranges i d) ≡ false
  beyond i d le lt = let out = point.1 i d le lt in grind (arith, nat_tests)

  pub none_found : count ≡ 0 → is_seen ranges range ≡ false
  none_found e = list_any_none (share range) ranges (λ i d lt. beyond i d (omega arith) lt)

  pub empty_found : range.stop ≤ range.start → is_seen ranges range ≡ false
  empty_found e = list_any_none (share range) ranges (λ i d lt. grind (arith, nat_tests))

  -- what ends no later than the last of them is not seen behind it
  hidden : (last : Range) → 0 < count → count ≤ length ranges → last ≡ get_or ranges (count - 1) last → last.stop ≤ range.start
      → (i : ℕ) (d : Range) → i < length ranges → share range (get_or ranges i d) ≡ false
  hidden last any within at above i d lt = go (nat_lt i count) refl where
    go : (b : Bool) → nat_lt i count ≡ b → share range (get_or ranges i d) ≡ false
    go true e =
        let before : i < count = grind (arith, nat_tests) in
        let same_last : last ≡ get_or ranges (count - 1) d = get_or_read ranges (count - 1) last (omega arith) at d in
        let no_later : (get_or ranges i d).stop ≤ (get_or ranges (count - 1) d).stop = are.stops i (count - 1) d (omega arith) (omega arith) in
        let ends : last.stop ≡ (get_or ranges (count - 1) d).stop = ap (λ (r : Range). r.stop) same_last in
        let early : (get_or ranges i d).stop ≤ range.start = omega arith in
        early_none range (get_or ranges i d) early
    go false e = let not_before : count ≤ i = grind (arith, nat_tests) in beyond i d not_before lt

  pub last_found : (last : Range) → 0 < count → count ≤ length ranges → last ≡ get_or ranges (count - 1) last → range.start < range.stop
      → is_seen ranges range ≡ nat_lt range.start last.stop
  last_found last any within at filled = go (nat_lt range.start last.stop) refl where
    go : (b : Bool) → nat_lt range.start last.stop ≡ b → is_seen ranges range ≡ b
    go true e =
        let there : count - 1 < count = omega arith in
        let here : nat_lt (get_or ranges (count - 1) last).start range.stop ≡ true = point.0 (count - 1) last (omega arith) there in
        let first : nat_lt last.start range.stop ≡ true = ap (λ (r : Range). nat_lt r.start range.stop) at ∙ here in
        let P : Range → Type 0 = λ r. r.start < r.stop in
        let full : last.start < last.stop = subst P (sym at) (are.filled (count - 1) last (omega arith)) in
        let one : share range last ≡ true = so_share range last full filled (grind (arith, nat_tests)) (grind (arith, nat_tests)) in
        list_any_at (share range) ranges (count - 1) last (omega arith) (ap (share range) (sym at) ∙ one)
    go false e =
        let above : last.stop ≤ range.start = grind (arith, nat_tests) in
        list_any_none (share range) ranges (λ i d lt. hidden last any within at above i d lt)
