-- What holds of each element holds of each of a part, and of the one that is found.
use Rattle.std.proofs.Common.{ℕ, zero, suc, Bool, true, false, cond, List, [], ◌∷◌, take, drop}
use Rattle.std.proofs.Common.{find, Some, IfSome}
use Rattle.std.specs.List.{AllByRecursion}

module _ {X : Type 0} (P : X → Type 0) where
  pub each_front : (n : ℕ) (xs : List X) → AllByRecursion P xs → AllByRecursion P (take n xs)
  each_front zero xs all = tt
  each_front (suc n) [] all = tt
  each_front (suc n) (x ∷ xs) all = (all.0, each_front n xs all.1)

  pub each_behind : (n : ℕ) (xs : List X) → AllByRecursion P xs → AllByRecursion P (drop n xs)
  each_behind zero xs all = all
  each_behind (suc n) [] all = tt
  each_behind (suc n) (x ∷ xs) all = each_behind n xs all.1

  pub each_found : (test : X → Bool) (xs : List X) → AllByRecursion P xs → IfSome (find test xs) P
  each_found test [] all = tt
  each_found test (x ∷ xs) all = go (test x) (each_found test xs all.1)
    where
      go : (b : Bool) → IfSome (find test xs) P → IfSome (cond b (Some x) (find test xs)) P
      go true more = all.0
      go false more = more
