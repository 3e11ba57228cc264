-- What the calls say. Want of memory is a free answer.
use Rattle.std.specs.Prelude.{◌≡◌, ⊤, ℕ, true, false, List, Result, Ok, Err}
use Rattle.pide_base.specs.Faults.{CountsYes}
use Rattle.nj_formula.specs.Statement.{Statement}
use Rattle.nj_kernel.specs.Sets.{members, Lists}
use Rattle.nj_kernel.specs.Theorem.{assumed, shown}
use Rattle.nj_kernel.specs.declared.thm.Thm.{Thm}
use Rattle.proof_checks.specs.declared.checked.Checked.{Checked}
use Rattle.proof_checks.specs.declared.checked.Checked.TheVariants as C
use Rattle.proof_checks.specs.declared.halt.Halt.{Halt}
use Rattle.proof_checks.specs.declared.halt.Halt.TheVariants.{Wrong, Stopped, NoMemory}
use Rattle.proof_checks.specs.declared.step.Step.{Step}
use Rattle.proof_checks.specs.Rows.{Planned}
use Rattle.proof_checks.specs.Checks.{Found}

-- the theorem shows the statement, and assumes just what the proof assumes
pub record Proves (found : Found) (c : Statement) (t : Thm) : Type 0 where
  pub from : List Statement
  pub is : found ≡ Ok from
  pub lists : Lists (assumed t) (members from)
  pub shows : shown t ≡ c

-- the answer to a term is a theorem or its first fault
abbrev pub Gives : Result Thm Halt → Found → Statement → Type 0
Gives (Ok t) found c = Proves found c t
Gives (Err (Wrong fault)) found c = found ≡ Err fault
Gives (Err Stopped) found c = ⊤
Gives (Err NoMemory) found c = ⊤

-- the same of a term, as it is told at last
abbrev pub Answers : Checked → Found → Statement → Type 0
Answers (C.Proved t) found c = Proves found c t
Answers (C.Wrong fault) found c = found ≡ Err fault
Answers C.Stopped found c = ⊤
Answers C.NoMemory found c = ⊤

-- all that a theorem which is handed out assumes is of this kind
abbrev pub AssumesOnly : Checked → (Statement → Type 0) → Type 0
AssumesOnly (C.Proved t) P = (a : Statement) → members (assumed t) a → P a
AssumesOnly _ P = ⊤

-- of the counts of yeses before and after: the last question was answered yes where the check
-- stopped, and no question was where it did not
abbrev pub Counts : Checked → ℕ → ℕ → Type 0
Counts C.Stopped before now = CountsYes before now true
Counts _ before now = CountsYes before now false

-- the same of a part of a check
abbrev pub Asked : {A : Type 0} → Result A Halt → ℕ → ℕ → Type 0
Asked (Err Stopped) before now = CountsYes before now true
Asked _ before now = CountsYes before now false

-- it was not stopped
abbrev pub NotStopped : Result Thm Halt → Type 0
NotStopped (Err Stopped) = ⊥
NotStopped _ = ⊤

-- a rule's parts, or its fault
abbrev pub Plans : Result Step Halt → Planned → Type 0
Plans (Ok step) planned = planned ≡ Ok step
Plans (Err (Wrong fault)) planned = planned ≡ Err fault
Plans (Err Stopped) planned = ⊥
Plans (Err NoMemory) planned = ⊤

-- the same, unless the check is stopped before
abbrev pub Enters : Result Step Halt → Planned → Type 0
Enters (Ok step) planned = planned ≡ Ok step
Enters (Err (Wrong fault)) planned = planned ≡ Err fault
Enters (Err Stopped) planned = ⊤
Enters (Err NoMemory) planned = ⊤
