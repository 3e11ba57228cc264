-- The named facts of the blocks, block by block and all together.
use Rattle.std.proofs.Common.{◌≡◌, List, ◌∷◌, ◌++◌, ◌∙◌, ap}
use Rattle.std.proofs.lemmas.List.Folds.{flat_map-map}
use Rattle.theory_ctx.specs.declared.local.Local.{Local}
use Rattle.theory_ctx.specs.Locals.{joined}
use Rattle.proof_state.specs.declared.block.Block.{Block}
use Rattle.proof_state.specs.declared.frame.Frame.{Frame}
use Rattle.proof_state.specs.declared.levels.Levels.TheVariants.{State}
use Rattle.proof_state.specs.Named.{named_facts}
use Rattle.proof_state.specs.Locals.{around_locals, locals_of}
use Rattle.proof_state.specs.Sights.{AreSights}

-- those of the blocks around
pub sights_joined : (sights : List (List Local)) (frames : List Frame) → AreSights sights frames → joined sights ≡ around_locals frames
sights_joined sights frames are =
    ap joined are ∙ flat_map-map (λ locals. locals) (λ frame. named_facts frame.block.facts) frames

-- those of the open block before them
pub sights_within : (inner : List Local) (sights : List (List Local)) (block : Block) (around : List Frame)
    → inner ≡ named_facts block.facts → AreSights sights around
    → joined (inner ∷ sights) ≡ locals_of (State block around)
sights_within inner sights block around are are_around =
    ap (λ l. l ++ joined sights) are ∙ ap (λ l. named_facts block.facts ++ l)
    (sights_joined sights around are_around)
