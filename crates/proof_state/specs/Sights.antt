-- The named facts that are kept beside the blocks around (this project's own).
use Rattle.std.specs.Prelude.{◌≡◌, List, map}
use Rattle.theory_ctx.specs.declared.local.Local.{Local}
use Rattle.proof_state.specs.declared.frame.Frame.{Frame}
use Rattle.proof_state.specs.Named.{named_facts}

-- they are the named facts of each of these blocks, in the same order
abbrev pub AreSights : List (List Local) → List Frame → Type 0
AreSights sights frames = sights ≡ map (λ frame. named_facts frame.block.facts) frames
