-- The commands of a node, one after the other, are those at their places.
use Rattle.std.proofs.Common.{◌≡◌, ℕ, List, [], ◌∷◌, ◌++◌, Option, Some, None, map, refl, ap}
use Rattle.doc_nodes.specs.declared.node.Entry.{Entry}
use Rattle.doc_nodes.specs.declared.node.Node.{Node}
use Rattle.exec_rules.specs.Kept.{blob_of}
use Rattle.language.specs.Lang.{Lang}
use Rattle.core_rules.specs.Settings.{Setting}
use Rattle.core_rules.specs.Scratch.{run_from, set_in, state_after}
use Rattle.core_rules.specs.Updates.{source_in}
use Rattle.node_check.specs.Walking.{reports_at, reports_from, setting_at, state_at, state_from}
use Rattle.node_check.specs.Nodes.{reports_of}

-- where there are no blobs no command has one
no_blob : (needs : Option (List ℕ)) → blob_of [] needs ≡ None
no_blob None = refl
no_blob (Some name) = refl

-- a command with a blob in a state
abbrev set_with : {S : Type 0} → Node → Entry → S → Option (List ℕ) → Setting S
set_with node e state blob = record { source = source_in node e; blob = blob; state = state }

-- a command is set in its source and state alone
set_so : {S : Type 0} (node : Node) (e : Entry) (state : S)
    → set_in node [] e state ≡ setting_at node.text e.range state
set_so node e state = ap (set_with node e state) (no_blob e.needs)

-- what the commands report is what they report one after the other
pub reported_so : {S : Type 0} (l : Lang S) (node : Node) (es : List Entry) (state : S)
    → reports_of l es (run_from l node [] es state) ≡ reports_from l node.text (map (λ e. e.range) es) state
reported_so l node [] state = refl
reported_so l node (e ∷ es) state = rw (set_so node e state)
    (ap (λ more. reports_at l node.text e.range state ++ more) (reported_so l node es (state_at l node.text e.range state)))

-- and so is the state behind them
pub behind_so : {S : Type 0} (l : Lang S) (node : Node) (es : List Entry) (state : S)
    → state_after l state (run_from l node [] es state) ≡ state_from l node.text (map (λ e. e.range) es) state
behind_so l node [] state = refl
behind_so l node (e ∷ es) state = rw (set_so node e state) (behind_so l node es (state_at l node.text e.range state))
