-- The oldest of the ready parts of one priority stands last among them.
use Rattle.std.proofs.Common.{◌≡◌, ◌⊎◌, inl, inr, ℕ, ◌<◌, ◌≤◌, true, List, length, get_or, ap, sym, subst, arith}
use Rattle.std.proofs.lemmas.Bool.{cases_lt}
use Rattle.std.specs.Prelude.{AllPairs}
use Rattle.pide_base.specs.declared.part.Part.{Part}
use Rattle.core_tables.specs.declared.priority.Priority.{Priority}
use Rattle.core_tables.specs.Order.{height, goes_before}
use Rattle.core_tables.specs.Ready.{Standings, priority_of, comes_first}

-- what is taken before has the same priority or a higher one, and where it has the same, a lower id
older : (p q : Priority) (e f : ℕ) → goes_before p e q f ≡ true → height q ≤ height p
older p q e f before = grind arith

lower_id : (p q : Priority) (e f : ℕ) → goes_before p e q f ≡ true → height p ≤ height q → e < f
lower_id p q e f before le = grind arith

module _ (all : Standings) (parts : List Part)
    (order : AllPairs (λ p q. comes_first all q.exec p.exec ≡ true) parts) (high place : ℕ)
    (within : place < length parts) where
  abbrev high_of : ℕ → Part → ℕ
  high_of j d = height (priority_of all (get_or parts j d).exec)

  rises : (i j : ℕ) (d : Part) → i ≤ j → j < length parts → high_of i d ≤ high_of j d
  rises i j d le lt = go (cases_lt i j)
    where
      go : (i < j) ⊎ (j ≤ i) → high_of i d ≤ high_of j d
      go (inl before) = older (priority_of all (get_or parts j d).exec) (priority_of all (get_or parts i d).exec)
          (get_or parts j d).exec (get_or parts i d).exec (order i j d before lt)
      go (inr behind) =
          let same : i ≡ j = omega (arith, le, behind) in
          subst (λ n. high_of n d ≤ high_of j d) (sym same) (omega arith)

  pub oldest : ((d : Part) → priority_of all (get_or parts high d).exec ≡ priority_of all (get_or parts place d).exec)
      → (j : ℕ) (d : Part) → high ≤ j → j ≤ place → (get_or parts place d).exec ≤ (get_or parts j d).exec
  oldest alike j d from le = go (cases_lt j place)
    where
      go : (j < place) ⊎ (place ≤ j) → (get_or parts place d).exec ≤ (get_or parts j d).exec
      go (inr behind) =
          let same : j ≡ place = omega (arith, le, behind) in
          subst (λ n. (get_or parts place d).exec ≤ (get_or parts n d).exec) (sym same) (omega arith)
      go (inl before) =
          let up = rises high j d from (omega (arith, before, within)) in
          let level : high_of high d ≡ high_of place d = ap height (alike d) in
          let less = lower_id (priority_of all (get_or parts place d).exec) (priority_of all (get_or parts j d).exec)
          (get_or parts place d).exec (get_or parts j d).exec (order j place d before within) (omega (arith, up, level)) in
          omega (arith, less)
