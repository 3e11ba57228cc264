-- A state may be handed to another thread, and looked at by several.
use denote.Param.Send.{IsSend, IsSync, sendable}
use Rattle.std.proofs.Crossing as kit
use Rattle.doc_nodes.specs.contracts.alias.Aliases as aliases
use Rattle.doc_nodes.specs.contracts.shared.Shared as shared
use Rattle.isar_rules.specs.contracts.state.Theory as theory
use Rattle.isar_rules.specs.contracts.state.Given as given
use Rattle.isar_rules.specs.contracts.state.Place as place
use Rattle.isar_rules.specs.contracts.state.State as state
use Rattle.toplevel.proofs.CrossingParts.{ctx_send, ctx_sync, formula_field_send, formula_field_sync, name_send, name_sync}
use Rattle.toplevel.proofs.CrossingProofs.{proof_send, proof_sync}

given_field_send : IsSend given.the_field.row
given_field_send = search (ctx_send, kit.crosses, sendable) depth 60 fits 20000

given_field_sync : IsSync given.the_field.row
given_field_sync = search (ctx_sync, kit.crosses, sendable) depth 60 fits 20000

theory_field_send : IsSend theory.the_field.row
theory_field_send = search (name_send, ctx_send, sendable) depth 60 fits 20000

theory_field_sync : IsSync theory.the_field.row
theory_field_sync = search (name_sync, ctx_sync, sendable) depth 60 fits 20000

place_field_send : IsSend place.the_field.row
place_field_send = search (name_send, formula_field_send, given_field_send, theory_field_send, proof_send, kit.crosses, sendable) depth 60 fits 20000

place_field_sync : IsSync place.the_field.row
place_field_sync = search (name_sync, formula_field_sync, given_field_sync, theory_field_sync, proof_sync, kit.crosses, sendable) depth 60 fits 20000

aliases_send : IsSend aliases.the_row
aliases_send = search (kit.crosses, sendable) depth 60 fits 20000

aliases_sync : IsSync aliases.the_row
aliases_sync = search (kit.crosses, sendable) depth 60 fits 20000

shared_send : IsSend (shared.the_row aliases.the_row)
shared_send = search (aliases_send, aliases_sync, kit.crosses, sendable) depth 60 fits 20000

shared_sync : IsSync (shared.the_row aliases.the_row)
shared_sync = search (aliases_send, aliases_sync, kit.crosses, sendable) depth 60 fits 20000

state_field_send : IsSend state.the_field.row
state_field_send = search (place_field_send, shared_send, sendable) depth 60 fits 20000

state_field_sync : IsSync state.the_field.row
state_field_sync = search (place_field_sync, shared_sync, sendable) depth 60 fits 20000

pub state_send : IsSend state.the_row
state_send = search (state_field_send, sendable) depth 60 fits 20000

pub state_sync : IsSync state.the_row
state_sync = search (state_field_sync, sendable) depth 60 fits 20000

-- the two, for callers of what is generic in the language
pub ruleset crosses = (state_send, state_sync)
