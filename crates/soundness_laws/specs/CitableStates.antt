-- States in which what a suggested proof may cite can be written (this project's own).
use Rattle.std.specs.Prelude.{⊤, ℕ, List, map, IfSome}
use Rattle.std.specs.List.{AllByRecursion}
use Rattle.nj_syntax.specs.Readable.{IsReadable}
use Rattle.proof_state.specs.declared.block.Block.{Block}
use Rattle.proof_state.specs.declared.frame.Frame.{Frame}
use Rattle.proof_state.specs.declared.frame.Purpose.{Purpose}
use Rattle.proof_state.specs.declared.frame.Purpose.TheVariants.{Have, Show}
use Rattle.proof_state.specs.declared.levels.Levels.{Levels}
use Rattle.proof_state.specs.declared.levels.Levels.TheVariants as levels
use Rattle.proof_state.specs.declared.local_fact.LocalFact.{LocalFact}
use Rattle.isar_rules.specs.declared.state.Place.{Place}
use Rattle.isar_rules.specs.declared.state.Place.TheVariants as place
use Rattle.isar_rules.specs.declared.state.State.{State}
use Rattle.soundness_laws.specs.Citable.{IsFree}

module _ (aliases : List (List ℕ)) where
  -- a fact whose formula is read again from its text, and whose name, if it has one, is free
  abbrev pub CitableFact : LocalFact → Type 0
  CitableFact fact = IfSome fact.name (IsFree aliases) × IsReadable fact.formula

  -- a block of such facts, and of such a goal
  abbrev pub CitableBlock : Block → Type 0
  CitableBlock block = IsReadable block.goal × AllByRecursion CitableFact block.facts

  -- what an inner goal is shown for
  abbrev pub CitablePurpose : Purpose → Type 0
  CitablePurpose (Have name) = IfSome name (IsFree aliases)
  CitablePurpose (Show place) = ⊤

  -- so do a frame's
  abbrev pub CitableFrame : Frame → Type 0
  CitableFrame frame = CitableBlock frame.block × CitablePurpose frame.purpose

  -- the levels of a proof
  abbrev pub CitableLevels : Levels → Type 0
  CitableLevels levels.Closed = ⊤
  CitableLevels (levels.Prove goal around) = IsReadable goal × AllByRecursion CitableFrame around
  CitableLevels (levels.State block around) =
      CitableBlock block × AllByRecursion CitableFrame around

  -- so do those of the proof at a place
  abbrev pub CitablePlace : Place → Type 0
  CitablePlace (place.Proof theory name goal levels) = CitableLevels levels
  CitablePlace _ = ⊤

-- the names of the aliases in a state
abbrev pub alias_names : State → List (List ℕ)
alias_names state = map (λ pair. pair.0) state.aliases

-- open goals and the facts of blocks can be written under the state's aliases
abbrev pub IsCitableState : State → Type 0
IsCitableState state = CitablePlace (alias_names state) state.place
