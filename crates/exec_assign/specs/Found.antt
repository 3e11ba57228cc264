-- What is assigned so far, by place.
use Rattle.std.specs.Prelude.{◌≡◌, ℕ, List, slice_index_or}
use Rattle.exec_rules.specs.declared.row.Assigned.{Assigned}
use Rattle.exec_rules.specs.Keys.{nothing_assigned, assigned_at}

-- these are what is assigned at each place, and no more
abbrev pub AreAssigned : List Assigned → List (ℕ × Assigned) → Type 0
AreAssigned all done = (p : ℕ) → slice_index_or all p nothing_assigned ≡ assigned_at done p
