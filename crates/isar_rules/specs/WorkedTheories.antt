-- What the commands of small theories make, computed (this project's own).
use Rattle.std.specs.Prelude.{◌≡◌, ℕ, List, [], ◌∷◌, codes, Some}
use Rattle.nj_formula.specs.declared.argument.Argument.TheVariants.{Bound}
use Rattle.nj_formula.specs.declared.formula.Formula.{Formula}
use Rattle.nj_formula.specs.declared.formula.Formula.TheVariants.{Atom, Implies, All, Exists}
use Rattle.theory_ctx.specs.Facts.{Fact}
use Rattle.proof_state.specs.declared.levels.Levels.TheVariants.{Prove}
use Rattle.report_markup.specs.declared.kind.ReportKind.TheVariants as kind
use Rattle.doc_nodes.specs.Aliases.{no_aliases}
use Rattle.language.specs.declared.made.Imports.TheVariants as imports
use Rattle.isar_rules.specs.declared.state.Place.TheVariants as place
use Rattle.isar_rules.specs.declared.state.State.{State}
use Rattle.isar_rules.specs.Reports.{name_is, theory_is}
use Rattle.isar_rules.specs.Starts.{start_state}
use Rattle.isar_rules.specs.Small.{said, says_word, errors, reports, behind, state_at, at_start, outside, in_theory, in_prove, with_facts, at_end, prop, proving}

-- a fact of the theory `A`
abbrev pub fact : List ℕ → List ℕ → Fact
fact name p = (record { name = name; theory = codes "A" }, prop p)

-- the fact `a`
abbrev pub a_is_p : Fact
a_is_p = fact (codes "a") (codes "P")

-- the theory that has it
abbrev pub with_a : State
with_a = with_facts (a_is_p ∷ [])

-- another theory that sees it
abbrev pub seen_in_b : State
seen_in_b = state_at (place.Theory (record { name = codes "B"; facts = a_is_p ∷ [] }))

-- the commands of a theory, its reports in order
pub record ATheory : Type 0 where
  pub begins : start_state (codes "A") (imports.Ordered []) no_aliases ≡ at_start
  pub header : reports (codes "theory A begin") at_start
      ≡ says_word 6 (codes "theory") ∷ said kind.Theory 7 8 (name_is (codes "A") ∷ []) [] ∷ []
  pub inside : behind (codes "theory A begin") at_start ≡ in_theory.place
  pub fact_added : behind (codes "axiom a: \"P\"") in_theory
      ≡ with_a.place
  pub goal_opened : behind (codes "lemma l: \"P --> P\"") in_theory
      ≡ (proving (Implies (prop (codes "P")) (prop (codes "P")))
      (Prove (Implies (prop (codes "P")) (prop (codes "P"))) [])).place
  pub end : reports (codes "end") in_theory ≡ says_word 3 (codes "end") ∷ []
  pub ended : behind (codes "end") in_theory ≡ at_end.place

-- `(ALL x. P(x)) --> (EX y. P(y))`
abbrev pub quantified : Formula
quantified = Implies (All (codes "x") (Atom (codes "P") (Bound 0 ∷ [])))
    (Exists (codes "y") (Atom (codes "P") (Bound 0 ∷ [])))

-- the reports of a fact and of lemmas
pub record StatedFacts : Type 0 where
  pub axiom_reports : reports (codes "axiom a: \\<open>P\\<close>") in_theory
      ≡ says_word 5 (codes "axiom")
      ∷ said kind.Def 6 7 (theory_is (codes "A") ∷ name_is (codes "a") ∷ []) []
      ∷ said kind.Formula 9 25 [] (codes "P") ∷ []
  pub lemma_reports : reports (codes "lemma l: \"P --> P\"") in_theory
      ≡ says_word 5 (codes "lemma")
      ∷ said kind.Def 6 7 (theory_is (codes "A") ∷ name_is (codes "l") ∷ []) []
      ∷ said kind.Formula 9 18 [] (codes "P --> P") ∷ []
  pub quantified_reports : reports (codes "lemma l: \"(ALL x. P(x)) --> (EX y. P(y))\"") in_theory
      ≡ says_word 5 (codes "lemma")
      ∷ said kind.Def 6 7 (theory_is (codes "A") ∷ name_is (codes "l") ∷ []) []
      ∷ said kind.Formula 9 41 [] (codes "(ALL x. P(x)) --> (EX y. P(y))") ∷ []

-- a node that imports a theory of these facts
abbrev pub importing : List Fact → State
importing facts = start_state (codes "B") (imports.Ordered
    (record { name = codes "A"; state = with_facts facts } ∷ [])) no_aliases

-- a node that imports one whose proof is open
abbrev pub importing_a_proof : State
importing_a_proof = start_state (codes "B") (imports.Ordered
    (record { name = codes "A"; state = in_prove } ∷ [])) no_aliases

-- a node of three imports, of which two have begun no theory
abbrev pub importing_none : State
importing_none = start_state (codes "B") (imports.Ordered
    (record { name = codes "A"; state = in_theory } ∷ record { name = codes "C"; state = outside }
    ∷ record { name = codes "D"; state = at_start } ∷ [])) no_aliases

-- a node that imports what is no node, and whose aliases have a bad pair
abbrev pub badly_importing : State
badly_importing =
    start_state (codes "B") (imports.Bad (codes "D"))
    (record { pairs = []; bad = Some (codes "k") })

-- a node whose aliases have a bad pair
abbrev pub bad_keyword : State
bad_keyword = start_state (codes "A") (imports.Ordered [])
    (record { pairs = []; bad = Some (codes "k") })

-- headers with imports, and their errors in order
pub record Headers : Type 0 where
  pub imports_reported : reports (codes "theory B imports A A begin") (importing [])
      ≡ says_word 6 (codes "theory") ∷ said kind.Theory 7 8 (name_is (codes "B") ∷ []) []
      ∷ said kind.Import 17 18 (name_is (codes "A") ∷ []) []
      ∷ said kind.Import 19 20 (name_is (codes "A") ∷ []) [] ∷ []
  pub seen : behind (codes "theory B imports A begin") (importing (a_is_p ∷ []))
      ≡ seen_in_b.place
  pub name_first : errors (codes "theory C imports D begin") badly_importing
      ≡ codes "theory name differs" ∷ []
  pub import_next : errors (codes "theory B imports D begin") badly_importing
      ≡ codes "bad import D" ∷ []
  pub first_import : errors (codes "theory B imports A C D begin") importing_none
      ≡ codes "bad import C" ∷ []
  pub keyword_last : errors (codes "theory A keywords k = \"theory\" begin") bad_keyword
      ≡ codes "bad keyword k" ∷ []
  pub unfinished : behind (codes "theory B imports A begin") importing_a_proof
      ≡ place.Theory (record { name = codes "B"; facts = [] })
  pub no_command : reports (codes "x y") at_start
      ≡ said kind.Error 0 3 [] (codes "malformed command") ∷ []
  pub open_comment : reports (codes "(*theory A begin") at_start
      ≡ said kind.Error 0 16 [] (codes "malformed command") ∷ []
  pub no_theory : behind (codes "theory C begin") at_start ≡ place.Outside
  pub bad_header : reports (codes "theory C begin") at_start
      ≡ said kind.Error 0 14 [] (codes "theory name differs") ∷ says_word 6 (codes "theory") ∷ []
