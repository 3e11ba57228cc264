-- Each move keeps the rule of the deque.
use Rattle.std.proofs.Common.{◌≡◌, ℕ, zero, suc, ◌+◌, ◌-◌, ◌<◌, [], ◌∷◌, ◌++◌, set, refl, sym, ap, subst, ◌∙◌, All, sum_by, arith}
use Rattle.std.specs.List.{range_with_len}
use mathlib.Core.Option.{some, some-injective, some-ne-none}
use lib.ListN.{get_elem?}
use Rattle.std.proofs.lemmas.List.Sums.{sum_by-append, sum_by_push}
use Rattle.crossbeam_deque.specs.Tasks.{Pushes, Takes, Pops, Finds, FindsFew, Forks, Merges}
use Rattle.task_round.specs.declared.hand.Hand.{Hand}
use Rattle.task_round.specs.Sharing.{all_parts, hand, joined, Fits, AreShared, TakesSo}
use Rattle.task_round.specs.Rounds.{AreAll}
use Rattle.task_round.proofs.Hands.{total_set, lone, others_idle, fits_set, fits_push}
use Rattle.task_round.proofs.Ranges.{range_push, within, beyond}

-- the parts of a caller, and what the tasks weigh that it has taken
abbrev parts_of : Hand → ℕ
parts_of v = v.parts

abbrev taken_of : (ℕ → ℕ) → Hand → ℕ
taken_of weight v = sum_by weight v.taken

abbrev pub spent : Hand
spent = hand 0 0 []

spent_fits : (count : ℕ) → Fits count spent
spent_fits count = record { knows = λ some_part. absurd (omega arith); idle = λ none. refl }

holder_fits : (count : ℕ) (v : Hand) → 0 < v.parts → v.count ≡ count → Fits count v
holder_fits count v some_part is = record { knows = λ _. is; idle = λ none. absurd (omega arith) }

alone_fits : (v : Hand) (j : ℕ) (u : Hand) → get_elem? (v ∷ []) j ≡ some u → Fits v.count v → Fits v.count u
alone_fits v zero u e fits = subst (Fits v.count) (some-injective v u e) fits
alone_fits v (suc j) u e fits = absurd (some-ne-none u (sym e))

pub begins : AreShared [] (hand all_parts 0 [] ∷ [])
begins = record {
  count = 0;
  parts = refl;
  once = λ weight. refl;
  fits = λ j u e. alone_fits (hand all_parts 0 []) j u e (holder_fits 0 (hand all_parts 0 []) (omega arith) refl);
}

pub puts : (port : ℕ) (v : Hand) (task : ℕ) → v.parts ≡ all_parts → task ≡ v.count
    → Pushes AreShared port v (task ∷ []) (λ w. w ≡ hand v.parts (v.count + 1) v.taken)
puts port v task all is items hands b at =
    let w = hand v.parts (v.count + 1) v.taken in
    let count : v.count ≡ b.count = (b.fits port v at).knows (omega arith) in
    let idle = others_idle hands port v at (b.parts ∙ sym all) in (
      w,
      record {
        count = v.count + 1;
        parts = let s = total_set parts_of hands port v w at in let p = b.parts in omega arith;
        once = λ weight.
            let s = total_set (taken_of weight) hands port v w at in let p = b.once weight in
            let same : sum_by weight (range_with_len 0 b.count) ≡ sum_by weight (range_with_len 0 v.count) =
            ap (λ n. sum_by weight (range_with_len 0 n)) (sym count) in
            let more = range_push weight 0 v.count in let last : weight (0 + v.count) ≡ weight task = ap weight (omega arith) in
            let put = sum_by_push weight items task in
            omega arith;
        fits = fits_set (v.count + 1) hands port w (holder_fits (v.count + 1) w (omega arith) refl)
            (λ j u n e. let none = idle j u n e in record { knows = λ some_part. absurd (omega arith); idle = (b.fits j u e).idle });
      },
      refl,
    )

pub takes : (port : ℕ) (v : Hand) → 0 < v.parts → Takes AreShared port v 1 (TakesSo v)
takes port v some_part tasks items hands _ _ b at =
    let w = hand v.parts v.count (v.taken ++ tasks) in
    let count : v.count ≡ b.count = (b.fits port v at).knows some_part in
    let below_count = within b.count tasks (sum_by (taken_of (beyond b.count)) hands + sum_by (beyond b.count) items)
    (let p = b.once (beyond b.count) in let there = sum_by-append (beyond b.count) tasks items in omega arith) in (
      w,
      record {
        count = b.count;
        parts = let s = total_set parts_of hands port v w at in let p = b.parts in omega arith;
        once = λ weight.
            let s = total_set (taken_of weight) hands port v w at in let p = b.once weight in
            let mine = sum_by-append weight v.taken tasks in let there = sum_by-append weight tasks items in
            omega arith;
        fits = fits_set b.count hands port w (holder_fits b.count w some_part count) (λ j u n e. b.fits j u e);
      },
      (refl, subst (λ n. All (λ task. task < n) tasks) (sym count) below_count),
    )

-- a deque of this kind has no pops at the back
pub never_pops : (flavor port : ℕ) (v : Hand) → flavor ≡ 0 → 0 < flavor → Pops AreShared port v (TakesSo v)
never_pops flavor port v none more = absurd (omega arith)

pub forks : (port : ℕ) (v : Hand) → 1 < v.parts → Forks AreShared port v (hand (v.parts - 1) v.count v.taken) (hand 1 v.count [])
forks port v more items hands b at =
    let left = hand (v.parts - 1) v.count v.taken in let right = hand 1 v.count [] in
    let count : v.count ≡ b.count = (b.fits port v at).knows (omega arith) in
    record {
      count = b.count;
      parts = let s = total_set parts_of hands port v left at in let l = sum_by_push parts_of (set hands port left) right in
          let p = b.parts in omega arith;
      once = λ weight.
          let s = total_set (taken_of weight) hands port v left at in
          let l = sum_by_push (taken_of weight) (set hands port left) right in let p = b.once weight in
          omega arith;
      fits = fits_push b.count (set hands port left) right (holder_fits b.count right (omega arith) count)
          (fits_set b.count hands port left (holder_fits b.count left (omega arith) count) (λ j u n e. b.fits j u e));
    }

pub merges : (port : ℕ) (v : Hand) (other : ℕ) (u : Hand) → 0 < v.parts → Merges AreShared port v other u (joined v u) spent
merges port v other u some_part items hands b at two there =
    let both = joined v u in let first = set hands port both in
    let count : v.count ≡ b.count = (b.fits port v at).knows some_part in
    record {
      count = b.count;
      parts = let s = total_set parts_of hands port v both at in let l = total_set parts_of first other u spent there in
          let p = b.parts in omega arith;
      once = λ weight.
          let s = total_set (taken_of weight) hands port v both at in let l = total_set (taken_of weight) first other u spent there in
          let p = b.once weight in let mine = sum_by-append weight v.taken u.taken in
          omega arith;
      fits = fits_set b.count first other spent (spent_fits b.count)
          (λ j w n e. fits_set b.count hands port both (holder_fits b.count both (omega arith) count) (λ k y m f. b.fits k y f) j w e);
    }

-- where the deque is empty, whoever has all parts has taken all tasks
pub empties : (port : ℕ) (v : Hand) → Finds AreShared port v (v.parts ≡ all_parts → AreAll v.count v.taken)
empties port v hands b at all weight =
    let count : v.count ≡ b.count = (b.fits port v at).knows (omega arith) in
    let idle = others_idle hands port v at (b.parts ∙ sym all) in
    let mine = lone (taken_of weight) hands port v at (λ j u n e. ap (sum_by weight) ((b.fits j u e).idle (idle j u n e))) in
    let p = b.once weight in
    let same : sum_by weight (range_with_len 0 b.count) ≡ sum_by weight (range_with_len 0 v.count) =
    ap (λ n. sum_by weight (range_with_len 0 n)) (sym count) in
    omega arith

-- one part isn't all
pub thief_finds : (most port : ℕ) (v : Hand) → v.parts ≡ 1 → FindsFew AreShared most port v (v.parts ≡ all_parts → AreAll v.count v.taken)
thief_finds most port v one items hands _ _ _ all = absurd (omega arith)
