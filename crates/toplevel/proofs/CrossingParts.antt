-- Formulas, contexts and local facts may be handed to other threads, and looked at by several.
use denote.Param.Send.{IsSend, IsSync, sendable}
use Rattle.std.proofs.Crossing as kit
use Rattle.nj_formula.proofs.argument.Argument.TheLaws.TheKnot as arguments
use Rattle.nj_formula.proofs.formula.Formula.TheLaws.TheKnot as formulas
use Rattle.shared_map.proofs.tree.Tree.TheLaws.TheKnot as trees
use Rattle.nj_formula.specs.contracts.formula.Formula as formula
use Rattle.nj_formula.specs.contracts.name.Name as name
use Rattle.theory_ctx.specs.contracts.fact_name.FactName as fact_name
use Rattle.theory_ctx.specs.contracts.ctx.Ctx as ctx
use Rattle.theory_ctx.specs.contracts.key.Key as key
use Rattle.theory_ctx.specs.contracts.local.Local as local
use Rattle.theory_ctx.specs.contracts.locals.Locals as locals
use Rattle.theory_ctx.specs.contracts.name_set.NameSet as name_set

pub name_send : IsSend name.the_row
name_send = search (kit.crosses, sendable) depth 60 fits 20000

pub name_sync : IsSync name.the_row
name_sync = search (kit.crosses, sendable) depth 60 fits 20000

pub formula_field_send : IsSend formula.the_field.row
formula_field_send = search (kit.crosses, arguments.crosses_both, formulas.crosses_both, sendable) depth 60 fits 20000

pub formula_field_sync : IsSync formula.the_field.row
formula_field_sync = search (kit.crosses, arguments.crosses_both, formulas.crosses_both, sendable) depth 60 fits 20000

pub formula_send : IsSend formula.the_row
formula_send = search (formula_field_send, sendable) depth 60 fits 20000

pub formula_sync : IsSync formula.the_row
formula_sync = search (formula_field_sync, sendable) depth 60 fits 20000

pub fact_name_send : IsSend fact_name.the_row
fact_name_send = search (name_send, name_sync, kit.crosses, sendable) depth 60 fits 20000

pub fact_name_sync : IsSync fact_name.the_row
fact_name_sync = search (name_send, name_sync, kit.crosses, sendable) depth 60 fits 20000

pub key_send : IsSend key.the_row
key_send = search (name_send, name_sync, kit.crosses, sendable) depth 60 fits 20000

pub key_sync : IsSync key.the_row
key_sync = search (name_send, name_sync, kit.crosses, sendable) depth 60 fits 20000

pub name_set_send : IsSend name_set.the_row
name_set_send = search (key_send, key_sync, kit.crosses, trees.crosses, sendable) depth 60 fits 20000

pub name_set_sync : IsSync name_set.the_row
name_set_sync = search (key_send, key_sync, kit.crosses, trees.crosses, sendable) depth 60 fits 20000

pub ctx_send : IsSend ctx.the_row
ctx_send = search (formula_send, formula_sync, fact_name_send, fact_name_sync, name_set_send, name_set_sync, kit.crosses, trees.crosses, sendable) depth 60 fits 20000

pub ctx_sync : IsSync ctx.the_row
ctx_sync = search (formula_send, formula_sync, fact_name_send, fact_name_sync, name_set_send, name_set_sync, kit.crosses, trees.crosses, sendable) depth 60 fits 20000

pub local_field_send : IsSend local.the_field.row
local_field_send = search (name_send, formula_field_send, kit.crosses, sendable) depth 60 fits 20000

pub local_field_sync : IsSync local.the_field.row
local_field_sync = search (name_sync, formula_field_sync, kit.crosses, sendable) depth 60 fits 20000

pub local_send : IsSend local.the_row
local_send = search (local_field_send, sendable) depth 60 fits 20000

pub local_sync : IsSync local.the_row
local_sync = search (local_field_sync, sendable) depth 60 fits 20000

pub locals_send : IsSend locals.the_row
locals_send = search (local_send, local_sync, key_send, key_sync, kit.crosses, trees.crosses, sendable) depth 60 fits 20000

pub locals_sync : IsSync locals.the_row
locals_sync = search (local_send, local_sync, key_send, key_sync, kit.crosses, trees.crosses, sendable) depth 60 fits 20000
