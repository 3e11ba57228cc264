-- What proof states are worth, whatever commands led there: once what is open is derived, the goal
-- of the start is derived from the facts of the context (this project's own).
use Rattle.std.specs.Prelude.{◌≡◌, ◌⊎◌, false, List, [], ◌∷◌, Some, map, slice_get}
use Rattle.nj_formula.specs.declared.formula.Formula.{Formula}
use Rattle.nj_formula.specs.Meaning.{meaning}
use Rattle.nj_formula.specs.Statement.{Statement, every}
use Rattle.nj_formula.specs.Free.{is_free}
use Rattle.nj_kernel.specs.Sets.{members, ◌∪◌, IsFreshIn}
use Rattle.shared_map.specs.Pairs.{Each}
use Rattle.theory_ctx.specs.Facts.{Fact}
use Rattle.proof_state.specs.declared.subgoal.Subgoal.{Subgoal}
use Rattle.proof_state.specs.declared.subgoal.Subgoal.TheVariants as S
use Rattle.proof_state.specs.declared.block.Block.{Block}
use Rattle.proof_state.specs.declared.frame.Frame.{Frame}
use Rattle.proof_state.specs.declared.frame.Purpose.{Purpose}
use Rattle.proof_state.specs.declared.frame.Purpose.TheVariants.{Have, Show}
use Rattle.proof_state.specs.declared.levels.Levels.{Levels}
use Rattle.proof_state.specs.declared.levels.Levels.TheVariants.{Closed, Prove, State}
use Rattle.proof_state.specs.Blocks.{assumptions}
use Rattle.proof_state.specs.Follows.{Follows, IsFact}

-- the block assumes the statement
abbrev pub Assumes : Block → Statement → Type 0
Assumes block = members (map meaning (assumptions block))

-- what a goal inside these blocks may be derived from
abbrev pub Given : List Fact → List Frame → Statement → Type 0
Given facts [] = IsFact facts
Given facts (frame ∷ around) = Given facts around ∪ Assumes frame.block

-- the subgoal is shown, where P is given
abbrev pub Holds : (Statement → Type 0) → Subgoal → Type 0
Holds P (S.Show c) = Follows P (meaning c)
Holds P (S.AssumeShow a c) = Follows (P ∪ members (meaning a ∷ [])) (meaning c)
Holds P (S.FixShow x p) = Follows P (every (meaning p))

-- where the subgoal fixes a name, the goal is what it is the body of
abbrev pub IsPartOf : Formula → Subgoal → Type 0
IsPartOf goal (S.Show c) = Unit {0}
IsPartOf goal (S.AssumeShow a c) = Unit {0}
IsPartOf goal (S.FixShow x p) = meaning goal ≡ every (meaning p)

-- the block stands, where P is given: its facts follow, its pending subgoals are enough for its
-- goal, and its variables are fresh
pub record IsSound (P : Statement → Type 0) (block : Block) : Type 0 where
  pub facts : Each (λ fact. Follows (λ s. P s ⊎ Assumes block s) (meaning fact.formula)) block.facts
  pub enough : Each (Holds P) block.pending → Follows P (meaning block.goal)
  pub parts : Each (IsPartOf block.goal) block.pending
  pub fresh : Each (λ x. IsFreshIn x P × (is_free x (meaning block.goal) ≡ false)) block.variables

-- deriving the goal inside the block does for the block what it is shown for
abbrev pub Serves : (Statement → Type 0) → Purpose → Formula → Block → Type 0
Serves P (Have name) goal block = Unit {0}
Serves P (Show place) goal block =
    (subgoal : Subgoal) × (slice_get block.pending place ≡ Some subgoal)
    × (Follows (λ s. P s ⊎ Assumes block s) (meaning goal) → Holds P subgoal)

-- deriving the goal inside these blocks is worth the goal of the start
abbrev pub IsWorthInside : List Fact → Formula → Formula → List Frame → Type 0
IsWorthInside facts start goal [] = meaning goal ≡ meaning start
IsWorthInside facts start goal (frame ∷ around) =
    Serves (Given facts around) frame.purpose goal frame.block
    × IsSound (Given facts around) frame.block
    × IsWorthInside facts start frame.block.goal around

-- what is open is worth the goal of the start
abbrev pub IsWorth : List Fact → Formula → Levels → Type 0
IsWorth facts start Closed = Follows (IsFact facts) (meaning start)
IsWorth facts start (Prove goal around) = IsWorthInside facts start goal around
IsWorth facts start (State block around) =
    IsSound (Given facts around) block × IsWorthInside facts start block.goal around
