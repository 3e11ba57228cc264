-- Whether the command at a place can keep its evaluation, as a test (this project's own).
use Rattle.std.specs.Prelude.{ℕ, Bool, false, List, slice_get, Option, Some}
use Rattle.doc_nodes.specs.declared.node.Entry.{Entry}
use Rattle.exec_rules.specs.declared.row.Row.{Row}
use Rattle.exec_rules.specs.Kept.{Times, keeps}

-- a command can keep the evaluation of one before, where both and a row are there
abbrev pub keeps_three : Times → Option Entry → Option Entry → Option Row → Bool
keeps_three times (Some e) (Some b) (Some r) = keeps times e b r
keeps_three times e b r = false

-- the command at a place can keep its evaluation
abbrev pub keeps_at : Times → List Entry → List Entry → List Row → ℕ → Bool
keeps_at times now before rows i =
    keeps_three times (slice_get now i) (slice_get before i) (slice_get rows i)
