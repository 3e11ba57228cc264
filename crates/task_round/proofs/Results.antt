-- What comes of all tasks, each done once, is what each of them makes.
use Rattle.std.proofs.Common.{◌≡◌, ℕ, zero, suc, ◌+◌, ◌<◌, List, [], ◌∷◌, length, map, sym, ap, subst, ◌∙◌, IsPermutation, arith}
use Rattle.std.specs.List.{range_with_len}
use Rattle.std.specs.List.Sorted.{IsNonDecreasing, IsNonDecreasingBy}
use Rattle.std.proofs.lemmas.List.{length-map, get_or-map}
use Rattle.std.proofs.lemmas.List.Elements.{All-head, All-tail}
use Rattle.std.proofs.lemmas.List.FromFn.{length-range_with_len}
use Rattle.std.proofs.lemmas.List.Sorted.{All-permutation, IsPermutation-map, IsPermutation-sym, sum_by-IsPermutation}
use Rattle.task_round.specs.declared.tasks.Done.{Done}
use Rattle.task_round.specs.declared.ordering.Round.{Round}
use Rattle.task_round.specs.Rounds.{AreAll, AreMade}
use Rattle.task_round.specs.Workers.{AreDone, numbers}
use Rattle.task_round.specs.Results.{ComesOf}
use Rattle.task_round.proofs.Ranges.{is_range}

numbers_rise : {M : Type 0} (done : List (Done M)) → IsNonDecreasingBy (λ (d : Done M). d.task) done → IsNonDecreasing (numbers done)
numbers_rise [] rises i j d le lt = absurd (omega arith)
numbers_rise {M = M} (x ∷ xs) rises i j d le lt =
    let number : Done M → ℕ = λ y. y.task in let short : j < length (x ∷ xs) = subst (λ n. j < n) (length-map (x ∷ xs) number) lt in
    let low = get_or-map number (x ∷ xs) i x d (omega arith) in let high = get_or-map number (x ∷ xs) j x d short in
    let up = rises i j x le short in
    omega arith

made_from : {M : Type 0} (makes : ℕ → M → Type 0) (task count : ℕ) (done : List (Done M)) → numbers done ≡ range_with_len task count
    → AreDone makes done → AreMade makes task (map (λ d. d.made) done)
made_from makes task count [] are all = tt
made_from makes task zero (x ∷ xs) are all = absurd cc
made_from {M = M} makes task (suc count) (x ∷ xs) are all =
    let is : x.task ≡ task = cc in let rest : numbers xs ≡ range_with_len (task + 1) count = cc in
    let P : Done M → Type 0 = λ d. makes d.task d.made in (
      subst (λ n. makes n x.made) is (All-head P x xs all),
      made_from makes (task + 1) count xs rest (All-tail P x xs all),
    )

module _ {M : Type 0} (makes : ℕ → M → Type 0) (count : ℕ) (done : List (Done M)) (round : Round M) where
  -- the numbers of all tasks in order
  in_order : AreAll count (numbers done) → (c : ComesOf done round) → numbers c.sorted ≡ range_with_len 0 count
  in_order all c =
      let number : Done M → ℕ = λ d. d.task in
      is_range count 0 (numbers c.sorted) (numbers_rise c.sorted c.rises)
      (λ weight. sum_by-IsPermutation weight (numbers done) (numbers c.sorted) (IsPermutation-map number done c.sorted c.same) ∙ all weight)

  pub as_many : AreAll count (numbers done) → ComesOf done round → length round.made.items ≡ count
  as_many all c =
      ap length c.made ∙ length-map c.sorted (λ (d : Done M). d.made) ∙ sym (length-map c.sorted (λ (d : Done M). d.task))
      ∙ ap length (in_order all c) ∙ length-range_with_len 0 count

  pub all_made : AreAll count (numbers done) → AreDone makes done → ComesOf done round → AreMade makes 0 round.made.items
  all_made all are c =
      let P : Done M → Type 0 = λ d. makes d.task d.made in
      subst (AreMade makes 0) (sym c.made) (made_from makes 0 count c.sorted (in_order all c) (All-permutation P done c.sorted c.same are))

  pub each_once : AreAll count (numbers done) → ComesOf done round → IsPermutation (range_with_len 0 count) round.taken.items
  each_once all c =
      let number : Done M → ℕ = λ d. d.task in
      let same = IsPermutation-sym (numbers done) (numbers c.sorted) (IsPermutation-map number done c.sorted c.same) in
      subst (λ ts. IsPermutation (range_with_len 0 count) ts) (sym c.taken)
      (subst (λ ts. IsPermutation ts (numbers done)) (in_order all c) same)
