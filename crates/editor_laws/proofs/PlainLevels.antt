-- Commands of proofs leave levels of plain names and readable formulas, or tell a plain name.
use Rattle.std.proofs.Common.{ℕ, suc, ◌==◌, Bool, true, false, cond, List, [], ◌∷◌, length, take}
use Rattle.std.proofs.Common.{drop, Option, Some, None, IfSome, Result, Ok, Err, refl}
use Rattle.std.specs.Prelude.{⊤, remove}
use Rattle.std.specs.List.{AllByRecursion}
use Rattle.text_words.proofs.KnownLists.{each-both}
use Rattle.nj_formula.specs.declared.formula.Formula.{Formula, out-Formula}
use Rattle.nj_syntax.specs.Readable.{IsReadable}
use Rattle.proof_state.specs.declared.block.Block.{Block}
use Rattle.proof_state.specs.declared.fault.ProofFault.{ProofFault}
use Rattle.proof_state.specs.declared.fault.ProofFault.TheVariants as Fault
use Rattle.proof_state.specs.declared.frame.Frame.{Frame}
use Rattle.proof_state.specs.declared.frame.Purpose.{Purpose}
use Rattle.proof_state.specs.declared.frame.Purpose.TheVariants as P
use Rattle.proof_state.specs.declared.levels.Levels.{Levels}
use Rattle.proof_state.specs.declared.levels.Levels.TheVariants.{Closed, Prove, State}
use Rattle.proof_state.specs.declared.subgoal.Subgoal.{Subgoal}
use Rattle.proof_state.specs.Blocks.{achieved}
use Rattle.proof_state.specs.Fits.{fitting}
use Rattle.proof_state.specs.Fresh.{is_taken}
use Rattle.proof_state.specs.Subgoals.{subgoals_of}
use Rattle.proof_state.specs.Steps.{Command, closed_levels, shown_levels, proved, stated_levels, step, proof, fix}
use Rattle.proof_state.specs.Steps.{assume, have, show, next, qed, by}
use Rattle.editor_laws.proofs.EachPart.{each_front, each_behind}
use Rattle.editor_laws.proofs.PlainTexts.{Plain}
use Rattle.editor_laws.proofs.FormulaTexts.{IsSaid, introduced_said}
use Rattle.editor_laws.proofs.PlainStates.{BlockPlain, PurposePlain, FramesPlain, LevelsPlain}

-- the names and formulas of a proof command
abbrev pub CommandPlain : Command → Type 0
CommandPlain (fix facts x) = Plain x
CommandPlain (assume n f) = IfSome n Plain × IsReadable f
CommandPlain (have n f) = IfSome n Plain × IsReadable f
CommandPlain (show f) = IsReadable f
CommandPlain _ = ⊤

-- of levels that are reached, or of the name that is told
abbrev pub IfReached : Result Levels ProofFault → Type 0
IfReached (Ok levels) = LevelsPlain levels
IfReached (Err (Fault.NotFresh x)) = Plain x
IfReached (Err _) = ⊤

removed_said : (subgoals : List Subgoal) (place : ℕ) → AllByRecursion IsSaid subgoals
    → AllByRecursion IsSaid (remove subgoals place)
removed_said subgoals place all =
    each-both IsSaid (take place subgoals) (drop (suc place) subgoals)
    (each_front IsSaid place subgoals all) (each_behind IsSaid (suc place) subgoals all)

subgoals_said : (dash : Bool) (goal : Formula) → IsReadable goal
    → AllByRecursion IsSaid (subgoals_of dash goal)
subgoals_said true goal readable = (readable, tt)
subgoals_said false goal readable = introduced_said goal (out-Formula goal) refl readable

achieved_plain : (purpose : Purpose) (goal : Formula) (block : Block) → PurposePlain purpose
    → IsReadable goal → BlockPlain block → BlockPlain (achieved purpose goal block)
achieved_plain (P.Have name) goal block plain readable all =
    (all.0, all.1, ((plain, readable), all.2))
achieved_plain (P.Show place) goal block plain readable all =
    (all.0, removed_said block.pending place all.1, all.2)

closed_plain : (goal : Formula) (around : List Frame) → IsReadable goal → FramesPlain around
    → LevelsPlain (closed_levels goal around)
closed_plain goal [] readable all = tt
closed_plain goal (frame ∷ around) readable all =
    (achieved_plain frame.purpose goal frame.block all.0.1 readable all.0.0, all.1)

proved_plain : (c : Command) (goal : Formula) (around : List Frame) → IsReadable goal
    → FramesPlain around → IfReached (proved c goal around)
proved_plain (proof dash) goal around readable all =
    ((readable, subgoals_said dash goal readable, tt), all)
proved_plain by goal around readable all = closed_plain goal around readable all
proved_plain _ goal around readable all = tt

shown_plain : (c : Formula) (block : Block) (around : List Frame) (fits : Option ℕ) → IsReadable c
    → BlockPlain block → FramesPlain around → IfReached (shown_levels c block around fits)
shown_plain c block around (Some place) readable plain all = (readable, ((plain, tt), all))
shown_plain c block around None readable plain all = tt

stated_plain : (c : Command) (block : Block) (around : List Frame) → CommandPlain c
    → BlockPlain block → FramesPlain around → IfReached (stated_levels c block around)
stated_plain (fix facts x) block around command plain all = go (is_taken facts x block around)
  where
    go : (b : Bool)
        → IfReached (cond b (Err (Fault.NotFresh x))
        (Ok (State (record block { variables = x ∷ block.variables }) around)))
    go true = command
    go false = (plain, all)
stated_plain (assume name f) block around command plain all =
    ((plain.0, plain.1, (command, plain.2)), all)
stated_plain (have name f) block around command plain all = (command.1, ((plain, command.0), all))
stated_plain (show c) block around command plain all =
    shown_plain c block around (fitting block c) command plain all
stated_plain next block around command plain all = ((plain.0, plain.1, tt), all)
stated_plain qed block around command plain all = go (length block.pending == 0)
  where
    go : (b : Bool)
        → IfReached (cond b (Ok (closed_levels block.goal around)) (Err Fault.SubgoalsRemain))
    go true = closed_plain block.goal around plain.0 all
    go false = tt
stated_plain _ block around command plain all = tt

pub step_plain : (c : Command) (levels : Levels) → CommandPlain c → LevelsPlain levels
    → IfReached (step c levels)
step_plain c Closed command plain = tt
step_plain c (Prove goal around) command plain = proved_plain c goal around plain.0 plain.1
step_plain c (State block around) command plain =
    stated_plain c block around command plain.0 plain.1
