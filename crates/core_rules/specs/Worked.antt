-- What events come to in small documents (this project's own).
use Rattle.std.specs.Prelude.{◌≡◌, true, false, List, [], ◌∷◌, codes, Some, None}
use Rattle.doc_nodes.specs.Imports.{NodeList}
use Rattle.exec_rules.specs.Listed.{told_commands_in}
use Rattle.core_rules.specs.declared.event.Event.{Event}
use Rattle.core_rules.specs.declared.event.Event.TheVariants as event
use Rattle.core_rules.specs.Standing.{held}
use Rattle.core_rules.specs.Doc.{doc}
use Rattle.core_rules.specs.Ready.{first_ready, is_wanted}
use Rattle.core_rules.specs.Stuck.{is_settled, stuck_in}
use Rattle.core_rules.specs.Shown.{pending}
use Rattle.core_rules.specs.Small.{small, node, only, eval, fork, take, work}
use Rattle.core_rules.specs.Legal.{IsLegal}

-- four commands, of which the third forks
abbrev pub four : NodeList
four = only (node (codes "tlbe") (1 ∷ 2 ∷ 3 ∷ 4 ∷ []) [])

-- the first version has them
abbrev pub opened : List Event
opened = event.Update 1 four [] ∷ []

-- the first part is taken, and its execution cancelled
abbrev pub cancelled : List Event
cancelled = event.Cancel 1 ∷ take 1 opened

-- the worker lets the part go
abbrev pub let_go : List Event
let_go = event.Dropped 1 (eval 1) ∷ cancelled

-- a cancelled part is not wanted, and all that rests on it is stuck; the next update replaces them
pub record ACancelledEvaluation : Type 0 where
  pub first : first_ready small opened ≡ Some (eval 1)
  pub claimed : held cancelled 1 ≡ Some (eval 1)
  pub wanted : is_wanted (doc small cancelled) 1 ≡ false
  pub settled : is_settled small let_go (doc small let_go) (doc small let_go).tip ≡ true
  pub stuck : stuck_in small let_go (doc small let_go) (doc small let_go).tip
      ≡ 1 ∷ 2 ∷ 3 ∷ 4 ∷ []
  pub nothing : first_ready small let_go ≡ None
  pub replaced : told_commands_in (doc small (event.Update 2 four [] ∷ let_go)).tip (codes "A")
      ≡ (1, 5 ∷ []) ∷ (2, 6 ∷ []) ∷ (3, 7 ∷ []) ∷ (4, 8 ∷ []) ∷ []

-- three evaluations are finished; two workers take the fork and the last evaluation
abbrev pub evaluated : List Event
evaluated = work 1 (work 1 (work 1 opened))

-- the second worker takes the evaluation, the first the fork
abbrev pub both_taken : List Event
both_taken = take 1 (take 2 evaluated)

-- the fork is cancelled and let go, the last evaluation finished
abbrev pub fork_cancelled : List Event
fork_cancelled = event.Finished 2 (eval 4) ∷ event.Dropped 1 (fork 3) ∷ event.Cancel 3 ∷ both_taken

-- the evaluation of a cancelled fork shows its reports, and is renewed with all behind it
pub record ACancelledFork : Type 0 where
  pub second : held both_taken 2 ≡ Some (eval 4)
  pub first : held both_taken 1 ≡ Some (fork 3)
  pub stuck : stuck_in small fork_cancelled (doc small fork_cancelled)
      (doc small fork_cancelled).tip ≡ 3 ∷ []
  pub pending : pending small fork_cancelled (doc small fork_cancelled)
      (doc small fork_cancelled).tip (codes "A") ≡ 3 ∷ []
  pub renewed : told_commands_in (doc small (event.Update 2 four [] ∷ fork_cancelled)).tip
      (codes "A")
      ≡ (1, 1 ∷ []) ∷ (2, 2 ∷ []) ∷ (3, 5 ∷ []) ∷ (4, 6 ∷ []) ∷ []

-- the text is made one command; what was never run is stuck at once
abbrev pub replaced_all : List Event
replaced_all = event.Update 2 (only (node (codes "m") (5 ∷ []) [])) [] ∷ opened

-- what was replaced is settled without a step, and the new command is next
pub record AReplacedText : Type 0 where
  pub told : told_commands_in (doc small replaced_all).tip (codes "A") ≡ (5, 5 ∷ []) ∷ []
  pub settled : is_settled small replaced_all (doc small replaced_all) (doc small opened).tip ≡ true
  pub stuck : stuck_in small replaced_all (doc small replaced_all) (doc small opened).tip
      ≡ 1 ∷ 2 ∷ 3 ∷ 4 ∷ []
  pub next : first_ready small replaced_all ≡ Some (eval 5)

-- such a list is legal, and so is the update behind it
abbrev pub ALegalList : Type 0
ALegalList = IsLegal small (event.Update 2 four [] ∷ fork_cancelled)
