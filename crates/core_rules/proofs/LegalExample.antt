-- A list of events of a small document that is legal.
use Rattle.std.proofs.Common.{ℕ, ◌<◌, ◌≤◌, inl, inr, false, [], ◌∷◌, refl, arith}
use Rattle.std.specs.Prelude.{codes}
use Rattle.std.specs.List.{AllByRecursion}
use Rattle.pide_base.specs.Ids.{id_end}
use Rattle.doc_nodes.specs.declared.node.Node.{Node}
use Rattle.core_rules.specs.declared.event.Event.TheVariants as event
use Rattle.core_rules.specs.Doc.{Doc, empty_doc, doc, assignment_of}
use Rattle.core_rules.specs.Legal.{IsLegal}
use Rattle.core_rules.specs.Updates.{AreRising, FitsUpdate, IsKnown, KeepsHeader, node_in}
use Rattle.core_rules.specs.Small.{small, row, node, eval, fork}
use Rattle.core_rules.specs.Worked.{four, opened, evaluated, both_taken, fork_cancelled, ALegalList}
use Rattle.core_rules.proofs.FirstLaw.{given_first}
use Rattle.core_rules.proofs.AloneLaw.{alone_legal}

rising : AreRising 0 4 (row false 0 (1 ∷ 2 ∷ 3 ∷ 4 ∷ []))
rising = (omega arith, omega arith, (omega arith, omega arith, (omega arith, omega arith, (omega arith, omega arith, omega arith))))

-- the node of the four commands
abbrev tlbe : Node
tlbe = node (codes "tlbe") (1 ∷ 2 ∷ 3 ∷ 4 ∷ []) []

-- it fits where each command is new or stood in the tip, under the same header
four_fit : (d : Doc) (id : ℕ) → d.last < id → AllByRecursion (IsKnown d (codes "A", tlbe)) tlbe.entries
    → KeepsHeader tlbe (node_in d.tip (codes "A")) → (assignment_of d four []).next ≤ id_end → FitsUpdate d id four []
four_fit d id newer known header numbers = record {
  newer = newer;
  names = (tt, tt);
  count = omega arith;
  nodes_fit = (record { text = omega arith; commands = rising; known = known; header = header; bare = λ e. absurd (cc) }, tt);
  commands = (refl, (refl, (refl, (refl, tt))));
  numbers = numbers;
}

first_update : FitsUpdate empty_doc 1 four []
first_update = four_fit empty_doc 1 (omega arith) (inl (omega arith), (inl (omega arith), (inl (omega arith), (inl (omega arith), tt)))) tt (omega arith)

opened_legal : IsLegal small opened
opened_legal = (tt, (refl, first_update))

evaluated_legal : IsLegal small evaluated
evaluated_legal = (alone_legal small 1 opened 3 opened_legal refl refl).0

taken_legal : IsLegal small both_taken
taken_legal = (
  (evaluated_legal, (refl, refl, given_first small evaluated (eval 4) refl)),
  (refl, refl, given_first small (event.Claimed 2 (eval 4) ∷ evaluated) (fork 3) refl),
)

cancelled_legal : IsLegal small fork_cancelled
cancelled_legal = (((taken_legal, (refl, refl)), (refl, refl)), (refl, refl))

second_update : FitsUpdate (doc small fork_cancelled) 2 four []
second_update =
    four_fit (doc small fork_cancelled) 2 (omega arith) (
      inr (record { place = 0; before = _; stood = refl; command = refl; source = refl }),
      (
        inr (record { place = 1; before = _; stood = refl; command = refl; source = refl }),
        (
          inr (record { place = 2; before = _; stood = refl; command = refl; source = refl }),
          (inr (record { place = 3; before = _; stood = refl; command = refl; source = refl }), tt),
        ),
      ),
    )
    (λ e b was is same. (refl, refl)) (omega arith)

pub a_legal_list : ALegalList
a_legal_list = (cancelled_legal, (refl, second_update))
