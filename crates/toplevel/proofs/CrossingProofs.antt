-- Proofs may be handed to other threads, and looked at by several.
use denote.Param.Send.{IsSend, IsSync, sendable}
use Rattle.std.proofs.Crossing as kit
use Rattle.shared_map.proofs.tree.Tree.TheLaws.TheKnot as trees
use Rattle.proof_state.specs.contracts.local_fact.LocalFact as local_fact
use Rattle.proof_state.specs.contracts.facts.Facts as facts
use Rattle.proof_state.specs.contracts.variables.Variables as variables
use Rattle.proof_state.specs.contracts.subgoal.Subgoal as subgoal
use Rattle.proof_state.specs.contracts.block.Block as block
use Rattle.proof_state.specs.contracts.frame.Frame as frame
use Rattle.proof_state.specs.contracts.frame.Purpose as purpose
use Rattle.proof_state.specs.contracts.around.Around as around
use Rattle.proof_state.specs.contracts.levels.Levels as levels
use Rattle.proof_state.specs.contracts.proof.Proof as proof
use Rattle.toplevel.proofs.CrossingParts.{name_send, name_sync, formula_send, formula_sync, formula_field_send, formula_field_sync, name_set_send, name_set_sync, locals_send, locals_sync}

pub local_fact_field_send : IsSend local_fact.the_field.row
local_fact_field_send = search (name_send, formula_send, formula_sync, kit.crosses, sendable) depth 60 fits 20000

pub local_fact_field_sync : IsSync local_fact.the_field.row
local_fact_field_sync = search (name_sync, formula_send, formula_sync, kit.crosses, sendable) depth 60 fits 20000

pub local_fact_send : IsSend local_fact.the_row
local_fact_send = search (local_fact_field_send, sendable) depth 60 fits 20000

pub local_fact_sync : IsSync local_fact.the_row
local_fact_sync = search (local_fact_field_sync, sendable) depth 60 fits 20000

pub subgoal_field_send : IsSend subgoal.the_field.row
subgoal_field_send = search (name_send, formula_send, formula_sync, kit.crosses, sendable) depth 60 fits 20000

pub subgoal_field_sync : IsSync subgoal.the_field.row
subgoal_field_sync = search (name_sync, formula_send, formula_sync, kit.crosses, sendable) depth 60 fits 20000

pub subgoal_send : IsSend subgoal.the_row
subgoal_send = search (subgoal_field_send, sendable) depth 60 fits 20000

pub subgoal_sync : IsSync subgoal.the_row
subgoal_sync = search (subgoal_field_sync, sendable) depth 60 fits 20000

pub facts_send : IsSend facts.the_row
facts_send = search (local_fact_send, local_fact_sync, locals_send, locals_sync, name_set_send, name_set_sync, kit.crosses, trees.crosses, sendable) depth 60 fits 20000

pub facts_sync : IsSync facts.the_row
facts_sync = search (local_fact_send, local_fact_sync, locals_send, locals_sync, name_set_send, name_set_sync, kit.crosses, trees.crosses, sendable) depth 60 fits 20000

pub variables_send : IsSend variables.the_row
variables_send = search (name_send, name_sync, name_set_send, name_set_sync, kit.crosses, trees.crosses, sendable) depth 60 fits 20000

pub variables_sync : IsSync variables.the_row
variables_sync = search (name_send, name_sync, name_set_send, name_set_sync, kit.crosses, trees.crosses, sendable) depth 60 fits 20000

pub block_field_send : IsSend block.the_field.row
block_field_send = search (formula_send, formula_sync, facts_send, variables_send, subgoal_send, kit.crosses, sendable) depth 60 fits 20000

pub block_field_sync : IsSync block.the_field.row
block_field_sync = search (formula_send, formula_sync, facts_sync, variables_sync, subgoal_sync, kit.crosses, sendable) depth 60 fits 20000

pub block_send : IsSend block.the_row
block_send = search (block_field_send, sendable) depth 60 fits 20000

pub block_sync : IsSync block.the_row
block_sync = search (block_field_sync, sendable) depth 60 fits 20000

pub purpose_field_send : IsSend purpose.the_field.row
purpose_field_send = search (name_send, kit.crosses, sendable) depth 60 fits 20000

pub purpose_field_sync : IsSync purpose.the_field.row
purpose_field_sync = search (name_sync, kit.crosses, sendable) depth 60 fits 20000

pub frame_field_send : IsSend frame.the_field.row
frame_field_send = search (block_send, block_sync, purpose_field_send, kit.crosses, sendable) depth 60 fits 20000

pub frame_field_sync : IsSync frame.the_field.row
frame_field_sync = search (block_send, block_sync, purpose_field_sync, kit.crosses, sendable) depth 60 fits 20000

pub frame_send : IsSend frame.the_row
frame_send = search (frame_field_send, sendable) depth 60 fits 20000

pub frame_sync : IsSync frame.the_row
frame_sync = search (frame_field_sync, sendable) depth 60 fits 20000

pub around_send : IsSend around.the_row
around_send = search (frame_send, frame_sync, locals_send, locals_sync, kit.crosses, trees.crosses, sendable) depth 60 fits 20000

pub around_sync : IsSync around.the_row
around_sync = search (frame_send, frame_sync, locals_send, locals_sync, kit.crosses, trees.crosses, sendable) depth 60 fits 20000

pub levels_field_send : IsSend levels.the_field.row
levels_field_send = search (formula_field_send, block_send, block_sync, around_send, kit.crosses, sendable) depth 60 fits 20000

pub levels_field_sync : IsSync levels.the_field.row
levels_field_sync = search (formula_field_sync, block_send, block_sync, around_sync, kit.crosses, sendable) depth 60 fits 20000

pub proof_send : IsSend proof.the_row
proof_send = search (levels_field_send, sendable) depth 60 fits 20000

pub proof_sync : IsSync proof.the_row
proof_sync = search (levels_field_sync, sendable) depth 60 fits 20000
