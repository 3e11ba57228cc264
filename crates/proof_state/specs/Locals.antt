-- The local facts that a proof sees, the innermost first (this project's own).
use Rattle.std.specs.Prelude.{List, [], ◌++◌}
use Rattle.std.specs.List.{flat_map}
use Rattle.theory_ctx.specs.declared.local.Local.{Local}
use Rattle.proof_state.specs.declared.frame.Frame.{Frame}
use Rattle.proof_state.specs.declared.levels.Levels.{Levels}
use Rattle.proof_state.specs.declared.levels.Levels.TheVariants.{Closed, Prove, State}
use Rattle.proof_state.specs.Named.{named_facts}

-- the named facts of the blocks, from the innermost one out
abbrev pub around_locals : List Frame → List Local
around_locals = flat_map (λ frame. named_facts frame.block.facts)

-- the local facts that can be cited here
abbrev pub locals_of : Levels → List Local
locals_of Closed = []
locals_of (Prove goal around) = around_locals around
locals_of (State block around) = named_facts block.facts ++ around_locals around
