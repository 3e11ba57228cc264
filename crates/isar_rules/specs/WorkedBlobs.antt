-- What the command that loads a blob makes, computed (this project's own).
use Rattle.std.specs.Prelude.{◌≡◌, ℕ, List, [], ◌∷◌, ◌++◌, codes, Option, Some, None, Ok, Err}
use Rattle.report_markup.specs.declared.kind.ReportKind.TheVariants as kind
use Rattle.isar_rules.specs.declared.state.State.{State}
use Rattle.isar_rules.specs.BlobLines.{listed_facts}
use Rattle.isar_rules.specs.Steps.{step}
use Rattle.isar_rules.specs.Kept.{errors_in}
use Rattle.isar_rules.specs.Small.{said, says_word, in_theory, prop}
use Rattle.isar_rules.specs.WorkedTheories.{with_a}

-- a text of two lines
abbrev pub two : List ℕ → List ℕ → List ℕ
two line next = line ++ (10 ∷ next)

-- the errors of a `load` of this blob
abbrev pub load_errors : Option (List ℕ) → State → List (List ℕ)
load_errors blob state = errors_in (step (codes "load \"x\"") blob state).reports

-- a blob's facts become the theory's; errors in order
pub record ALoad : Type 0 where
  pub loaded : (step (codes "load \"x\"") (Some (codes "a: P")) in_theory).reports
      ≡ says_word 4 (codes "load") ∷ said kind.Loaded 5 8 [] (codes "1") ∷ []
  pub fact_added : (step (codes "load \"x\"") (Some (codes "a: P")) in_theory).state ≡ with_a
  pub absent : (step (codes "load \"x\"") None in_theory).reports
      ≡ said kind.Error 0 8 [] (codes "unknown blob x") ∷ says_word 4 (codes "load") ∷ []
  pub bad_line : load_errors (Some (codes "a P")) in_theory ≡ codes "bad blob line 1" ∷ []
  pub line_first : load_errors (Some (two (codes "a: P") (codes "b"))) with_a
      ≡ codes "bad blob line 2" ∷ []
  pub name_next : load_errors (Some (two (codes "b: P") (codes "a: Q"))) with_a
      ≡ codes "name taken a" ∷ []
  pub twice : load_errors (Some (two (codes "b: P") (codes "b: Q"))) with_a
      ≡ codes "name taken b" ∷ []
  pub kept : (step (codes "load \"x\"") (Some (two (codes "b: P") (codes "a: Q"))) with_a).state
      ≡ with_a

-- lines of blobs
pub record BlobLines : Type 0 where
  pub none : listed_facts [] ≡ Ok []
  pub blank : listed_facts (two (codes " ") (9 ∷ [])) ≡ Ok []
  pub return_dropped : listed_facts (two (codes "a : P" ++ 13 ∷ []) (codes "b:Q"))
      ≡ Ok ((codes "a", prop (codes "P")) ∷ (codes "b", prop (codes "Q")) ∷ [])
  pub return_alone : listed_facts (13 ∷ []) ≡ Err 1
  pub last_return : listed_facts (codes "a: P" ++ 13 ∷ []) ≡ Ok
      ((codes "a", prop (codes "P")) ∷ [])
  pub blank_first : listed_facts (codes " a: P") ≡ Err 1
  pub long_name : listed_facts (codes "A.a: P") ≡ Err 1
  pub command : listed_facts (codes "lemma: P") ≡ Err 1
  pub keyword : listed_facts (codes "imports: P") ≡ Err 1
  pub bad_formula : listed_facts (two [] (codes "a: P &")) ≡ Err 2
