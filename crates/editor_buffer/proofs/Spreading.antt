-- Ranges that are searched show what the others show.
use Rattle.std.proofs.Common.{◌≡◌, ℕ, zero, suc, ◌<◌, ◌≤◌, Bool, true, false, ◌||◌, cond, max, List, [], ◌∷◌, length, filter, get_or, refl, sym, ap, subst, ◌∙◌, arith}
use Rattle.std.specs.Prelude.{nat_lt}
use Rattle.std.specs.List.{All}
use Rattle.std.specs.List.Sorted.{IsNonDecreasingBy, IsPermutation}
use Rattle.std.proofs.lemmas.Bool.Decides.{nat_tests}
use Rattle.std.proofs.lemmas.List.Elements.{filter_passes}
use Rattle.std.proofs.lemmas.List.Sorted.{All-permutation}
use Rattle.std.specs.Cmp.Derive.{one_truth}
use Rattle.pide_base.specs.declared.range.Range.{Range}
use Rattle.buffer_rules.specs.Cuts.{share, is_seen}
use Rattle.editor_buffer.specs.Spread.{AreSpread, spread, ShowAlike}

-- what two ranges that share a scalar have
pub share_so : (one other : Range) → share one other ≡ true → (one.start < one.stop) × (one.start < other.stop) × (other.start < one.stop)
share_so one other e = (grind (arith, nat_tests), grind (arith, nat_tests), grind (arith, nat_tests))

pub so_share : (one other : Range) → other.start < other.stop → one.start < one.stop → one.start < other.stop → other.start < one.stop → share one other ≡ true
so_share one other some a b c = grind (arith, nat_tests)

-- an empty range is not seen
empty_none : (range r : Range) → nat_lt r.start r.stop ≡ false → share range r ≡ false
empty_none range r e = grind (arith, nat_tests)

pub early_none : (range r : Range) → r.stop ≤ range.start → share range r ≡ false
early_none range r e = grind (arith, nat_tests)

abbrev pub kept : List Range → List Range
kept ranges = filter (λ (r : Range). nat_lt r.start r.stop) ranges

pub filled_alike : (ranges : List Range) → ShowAlike (kept ranges) ranges
filled_alike [] range = refl
filled_alike (r ∷ rs) range = go (nat_lt r.start r.stop) refl (filled_alike rs range) where
  go : (b : Bool) → nat_lt r.start r.stop ≡ b → is_seen (kept rs) range ≡ is_seen rs range
      → is_seen (cond b (r ∷ kept rs) (kept rs)) range ≡ (share range r || is_seen rs range)
  go true e rest = ap (λ b. share range r || b) rest
  go false e rest = rest ∙ ap (λ b. b || is_seen rs range) (sym (empty_none range r e))

all_filled : (ranges : List Range) → All (λ (r : Range). r.start < r.stop) (kept ranges)
all_filled ranges k d lt = let passes = filter_passes (λ (r : Range). nat_lt r.start r.stop) ranges k d lt in grind (arith, nat_tests)

-- in whatever order they stand
pub sorted_filled : (ranges all sorted : List Range) → all ≡ kept ranges → IsPermutation all sorted → All (λ (r : Range). r.start < r.stop) sorted
sorted_filled ranges all sorted is moved =
    All-permutation (λ (r : Range). r.start < r.stop) all sorted moved (subst (λ rs. All (λ (r : Range). r.start < r.stop) rs) (sym is) (all_filled ranges))

-- of two ranges the second may end as far as the first
further : (a reach : ℕ) (r range : Range) → a < reach → a ≤ r.start → r.start < r.stop → share range (record { start = a; stop = reach }) ≡ false
    → share range (record { start = r.start; stop = max reach r.stop }) ≡ share range r
further a reach r range some behind filled none =
    let one : Range = record { start = a; stop = reach } in
    let two : Range = record { start = r.start; stop = max reach r.stop } in
    one_truth (share range two) (share range r)
    (λ e. let so = share_so range two e in go one so (nat_lt range.start r.stop) refl)
    (λ e. let so = share_so range r e in so_share range two (omega arith) so.0 (omega arith) so.2)
  where
    go : (one : Range) → (range.start < range.stop) × (range.start < max reach r.stop) × (r.start < range.stop) → (b : Bool) → nat_lt range.start r.stop ≡ b → share range r ≡ true
    go one so true e = so_share range r filled so.0 (grind (arith, nat_tests)) so.2
    go one so false e =
        let beyond : r.stop ≤ range.start = grind (arith, nat_tests) in
        absurd (cc (so_share range (record { start = a; stop = reach }) some so.0 (omega arith) (omega arith)))

or_same : (b c d : Bool) (e : Bool) → (b ≡ false → c ≡ d) → (b || (c || e)) ≡ (b || (d || e))
or_same true c d e so = refl
or_same false c d e so = ap (λ x. x || e) (so refl)

spread_alike : (rs : List Range) (x : Range) (reach : ℕ) → x.start < reach → IsNonDecreasingBy (λ (r : Range). r.start) (x ∷ rs) → All (λ (r : Range). r.start < r.stop) rs
    → (range : Range) → is_seen ((record { start = x.start; stop = reach }) ∷ spread reach rs) range ≡ is_seen ((record { start = x.start; stop = reach }) ∷ rs) range
spread_alike [] x reach some up filled range = refl
spread_alike (r ∷ rs) x reach some up filled range =
    let one : Range = record { start = x.start; stop = reach } in
    let two : Range = record { start = r.start; stop = max reach r.stop } in
    let here : r.start < r.stop = filled 0 r (omega arith) in
    let behind : x.start ≤ r.start = up 0 1 x (omega arith) (omega arith) in
    ap (λ b. share range one || b)
    (spread_alike rs r (max reach r.stop) (omega arith) (λ i j d le lt. up (suc i) (suc j) d (omega arith) (omega arith)) (λ k d lt. filled (suc k) d (omega arith)) range)
    ∙ or_same (share range one) (share range two) (share range r) (is_seen rs range) (further x.start reach r range some behind here)

pub all_alike : (rs : List Range) → IsNonDecreasingBy (λ (r : Range). r.start) rs → All (λ (r : Range). r.start < r.stop) rs → ShowAlike (spread 0 rs) rs
all_alike [] up filled range = refl
all_alike (r ∷ rs) up filled range =
    let here : r.start < r.stop = filled 0 r (omega arith) in
    let top : max 0 r.stop ≡ r.stop = omega arith in
    let P : ℕ → Type 0 = λ n. is_seen ((record { start = r.start; stop = n }) ∷ spread n rs) range ≡ is_seen (r ∷ rs) range in
    subst P (sym top) (spread_alike rs r r.stop here up (λ k d lt. filled (suc k) d (omega arith)) range)

-- what spread ranges are
length_spread : (rs : List Range) (reach : ℕ) → length (spread reach rs) ≡ length rs
length_spread [] reach = refl
length_spread (r ∷ rs) reach = ap (λ n. suc n) (length_spread rs (max reach r.stop))

start_at : (rs : List Range) (reach i : ℕ) (d : Range) → i < length rs → (get_or (spread reach rs) i d).start ≡ (get_or rs i d).start
start_at [] reach i d lt = absurd (omega arith)
start_at (r ∷ rs) reach zero d lt = refl
start_at (r ∷ rs) reach (suc i) d lt = start_at rs (max reach r.stop) i d (omega arith)

stop_at : (rs : List Range) (reach i : ℕ) (d : Range) → i < length rs → ((get_or rs i d).stop ≤ (get_or (spread reach rs) i d).stop) × (reach ≤ (get_or (spread reach rs) i d).stop)
stop_at [] reach i d lt = absurd (omega arith)
stop_at (r ∷ rs) reach zero d lt = (omega arith, omega arith)
stop_at (r ∷ rs) reach (suc i) d lt = let rest = stop_at rs (max reach r.stop) i d (omega arith) in (rest.0, omega (arith, rest.1))

stops_up : (rs : List Range) (reach : ℕ) → IsNonDecreasingBy (λ (r : Range). r.stop) (spread reach rs)
stops_up [] reach i j d le lt = absurd (omega arith)
stops_up (r ∷ rs) reach zero zero d le lt = omega arith
stops_up (r ∷ rs) reach zero (suc j) d le lt = (stop_at rs (max reach r.stop) j d (omega (arith, length_spread rs (max reach r.stop)))).1
stops_up (r ∷ rs) reach (suc i) zero d le lt = absurd (omega arith)
stops_up (r ∷ rs) reach (suc i) (suc j) d le lt = stops_up rs (max reach r.stop) i j d (omega arith) (omega arith)

pub all_spread : (rs : List Range) (reach : ℕ) → IsNonDecreasingBy (λ (r : Range). r.start) rs → All (λ (r : Range). r.start < r.stop) rs → AreSpread (spread reach rs)
all_spread rs reach up filled =
    let len = length_spread rs reach in
    record {
      filled = λ i d lt. let in_rs : i < length rs = omega arith in omega (arith, filled i d in_rs, start_at rs reach i d in_rs, (stop_at rs reach i d in_rs).0);
      starts = λ i j d le lt. omega (arith, up i j d le (omega arith), start_at rs reach i d (omega arith), start_at rs reach j d (omega arith));
      stops = stops_up rs reach;
    }
