use Rattle.std.proofs.Common.{◌≡◌, ◌∙◌, ℕ, ◌<◌, ◌≤◌, ◌-◌, List, length, get_or, subst, nat_cmp, Ok, Err}
use Rattle.std.specs.List.Sorted.{IsBinarySearchResult}
use Rattle.outer_syntax.specs.Boundaries.{LiesBetween, Rises}
use Rattle.outer_syntax.proofs.NumberLemmas.{search-ok, search-err}
use Rattle.outer_syntax.proofs.boundaries.Boundaries.to_symbol.Goals as goal
use Rattle.outer_syntax.proofs.boundaries.Boundaries.to_symbol.Goals.{In-Err}

-- what the search tells where it doesn't find the place
missed : (c : In-Err) → (1 ≤ c.in-Err.n) × LiesBetween c.args.self.now (c.in-Err.n - 1) c.args.offset
missed c =
    search-err c.args.self.now c.args.offset c.in-Err.n
    (subst (λ (xs : List ℕ). 0 < length xs) c.self.view_is c.self.invariant.0)
    (subst (λ (xs : List ℕ). get_or xs 0 0 ≡ 0) c.self.view_is c.self.invariant.1)
    (subst Rises c.self.view_is c.self.invariant.2)
    c.requires
    (subst (λ (xs : List ℕ). IsBinarySearchResult (λ y. nat_cmp y c.args.offset) xs (Err c.in-Err.n)) (c.deref.ensures.value ∙ c.self.view_is) c.in-Err.ensures.position)

pub overflow_sub-result : goal.overflow_sub-result
overflow_sub-result c = (missed (goal.at.overflow_sub-result c).In-Err).0

pub returns-in-Ok : goal.returns-in-Ok
returns-in-Ok c =
    search-ok c.args.self.now c.args.offset c.in-Ok.n (subst Rises c.self.view_is c.self.invariant.2)
    (subst (λ (xs : List ℕ). IsBinarySearchResult (λ y. nat_cmp y c.args.offset) xs (Ok c.in-Ok.n)) (c.deref.ensures.value ∙ c.self.view_is) c.in-Ok.ensures.position)

pub returns-in-Err : goal.returns-in-Err
returns-in-Err c = (missed (goal.at.returns-in-Err c).In-Err).1
