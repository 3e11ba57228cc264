-- Blocks: a goal that is being shown in steps (Wenzel 1999).
use Rattle.std.specs.Prelude.{ℕ, Bool, true, false, Option, List, [], ◌∷◌, map, filter, remove}
use Rattle.nj_formula.specs.declared.formula.Formula.{Formula}
use Rattle.proof_state.specs.declared.local_fact.Origin.{Origin}
use Rattle.proof_state.specs.declared.local_fact.Origin.TheVariants.{Assumed, Proved}
use Rattle.proof_state.specs.declared.local_fact.LocalFact.{LocalFact}
use Rattle.proof_state.specs.declared.frame.Purpose.{Purpose}
use Rattle.proof_state.specs.declared.frame.Purpose.TheVariants.{Have, Show}
use Rattle.proof_state.specs.declared.block.Block.{Block}
use Rattle.proof_state.specs.Subgoals.{subgoals_of}

-- the block that a goal becomes
abbrev pub opened : Bool → Formula → Block
opened dash goal =
    record { goal = goal; pending = subgoals_of dash goal; variables = []; facts = [] }

-- the block with one more fact on top
abbrev pub with_fact : Origin → Option (List ℕ) → Formula → Block → Block
with_fact origin name formula block = record block {
  facts = record { origin = origin; name = name; formula = formula } ∷ block.facts;
}

-- the block once the goal inside it is shown, by what it was shown for
abbrev pub achieved : Purpose → Formula → Block → Block
achieved (Have name) goal block = with_fact Proved name goal block
achieved (Show place) goal block = record block { pending = remove block.pending place }

-- a fact of this origin was assumed
abbrev pub is_assumed : Origin → Bool
is_assumed Assumed = true
is_assumed Proved = false

-- the fact was assumed
abbrev pub is_assumption : LocalFact → Bool
is_assumption fact = is_assumed fact.origin

-- what the block assumes
abbrev pub assumptions : Block → List Formula
assumptions block = map (λ fact. fact.formula) (filter is_assumption block.facts)
