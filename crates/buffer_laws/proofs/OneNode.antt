-- The ids of one node's commands.
use Rattle.std.proofs.Common.{◌≡◌, ◌⊎◌, inl, inr, ℕ, ◌+◌, ◌-◌, ◌<◌, ◌≤◌, true, List, ◌++◌, length, map, take, drop, sym, subst, ⊎_elim, arith}
use Rattle.std.proofs.lemmas.List.{length-map}
use Rattle.std.specs.List.{range_with_len}
use Rattle.text_words.specs.Members.{has}
use Rattle.text_words.proofs.KnownMembers.{has_left}
use Rattle.core_rules.specs.Updates.{AllDiffer}
use Rattle.core_rules.proofs.KnownCommands.{differ_front, differ_back}
use Rattle.buffer_rules.specs.Numbers.{Command, kept_runs, ids_of, new_count, IsLongestKept}
use Rattle.buffer_laws.specs.Known.{AreBelow}
use Rattle.buffer_laws.proofs.CommandLists.{room_old, in_three}
use Rattle.buffer_laws.proofs.Members.{AreApart, has_cases, has_take, has_drop, differ_join, apart_of, in_range, range_differs, below_of}

module _ (before : List Command) (now : List (List ℕ)) (next : ℕ)
    (so : IsLongestKept (map (λ c. c.1) before) now (kept_runs (map (λ c. c.1) before) now)) where
  abbrev olds : List ℕ
  olds = map (λ c. c.0) before

  abbrev f : ℕ
  f = (kept_runs (map (λ c. c.1) before) now).front

  abbrev b : ℕ
  b = (kept_runs (map (λ c. c.1) before) now).back

  abbrev count : ℕ
  count = length now - f - b

  abbrev first : List ℕ
  first = take f olds

  abbrev last : List ℕ
  last = drop (length olds - b) olds

  -- an id is an old one, or one of the next ones
  pub origin : (z : ℕ) → has (ids_of before now next) z ≡ true
      → (has olds z ≡ true) ⊎ ((next ≤ z) × (z < next + new_count before now))
  origin z h = ⊎_elim
      (λ early. ⊎_elim (λ x. inl (has_take f olds z x)) (λ x. inr (in_range next count z x)) (has_cases first (range_with_len next count) z early))
      (λ late. inl (has_drop (length olds - b) olds z late))
      (has_cases (first ++ range_with_len next count) last z h)

  module _ (differ : AllDiffer olds) (below : AreBelow next olds) where
    split : AllDiffer (first ++ take (length olds - f - b) (drop f olds) ++ last)
    split = subst AllDiffer (sym (in_three olds f b (omega (arith, room_old before now next so, length-map before (λ (c : Command). c.0))))) differ

    -- no id comes twice
    pub once : AllDiffer (ids_of before now next)
    once =
        let middle = take (length olds - f - b) (drop f olds) in
        let ends : AreApart (first ++ middle) last = apart_of (first ++ middle) last split in
        let fronts : AllDiffer (first ++ range_with_len next count) =
        differ_join first (range_with_len next count) (differ_front first middle (differ_front (first ++ middle) last split)) (range_differs next count)
        (λ z h g. let low = below_of next olds z below (has_take f olds z h) in let high = in_range next count z g in omega (arith, low, high.0))
        in
        differ_join (first ++ range_with_len next count) last fronts (differ_back (first ++ middle) last split)
        (λ z h g. ⊎_elim (λ early. ends z (has_left first middle z early) g)
        (λ new. let low = below_of next olds z below (has_drop (length olds - b) olds z g) in let high = in_range next count z new in omega (arith, low, high.0))
        (has_cases first (range_with_len next count) z h))
