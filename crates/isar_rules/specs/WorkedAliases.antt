-- Commands by their aliases, computed (this project's own).
use Rattle.std.specs.Prelude.{◌≡◌, [], ◌∷◌, codes, None}
use Rattle.report_markup.specs.declared.kind.ReportKind.TheVariants as kind
use Rattle.doc_nodes.specs.declared.inherited.NodeAliases.{NodeAliases}
use Rattle.doc_nodes.specs.Aliases.{no_aliases}
use Rattle.language.specs.declared.made.Imports.TheVariants as imports
use Rattle.isar_rules.specs.declared.state.Place.TheVariants as place
use Rattle.isar_rules.specs.declared.state.State.{State}
use Rattle.isar_rules.specs.Reports.{name_is, theory_is}
use Rattle.isar_rules.specs.Starts.{start_state}
use Rattle.isar_rules.specs.Small.{said, says_word, errors, reports, behind, at_end, outside}

-- `claim` stands for `lemma`
abbrev pub claim : NodeAliases
claim = record { pairs = (codes "claim", codes "lemma") ∷ []; bad = None }

-- a node that imports `A` and has the alias from it
abbrev pub importer : NodeAliases → State
importer aliases = start_state (codes "B")
    (imports.Ordered (record { name = codes "A"; state = at_end } ∷ [])) aliases

-- the alias is in force behind the header
abbrev pub in_b : State
in_b = record {
  place = place.Theory (record { name = codes "B"; facts = [] });
  aliases = claim.pairs;
}

-- an alias acts as its target, and is reported by its own word; in a header it is a name
pub record AnAlias : Type 0 where
  pub header : reports (codes "theory B imports A begin") (importer claim)
      ≡ says_word 6 (codes "theory") ∷ said kind.Theory 7 8 (name_is (codes "B") ∷ []) []
      ∷ said kind.Import 17 18 (name_is (codes "A") ∷ []) [] ∷ []
  pub inside : behind (codes "theory B imports A begin") (importer claim) ≡ in_b.place
  pub claimed : reports (codes "claim l: \"P --> P\"") in_b
      ≡ says_word 5 (codes "claim")
      ∷ said kind.Def 6 7 (theory_is (codes "B") ∷ name_is (codes "l") ∷ []) []
      ∷ said kind.Formula 9 18 [] (codes "P --> P") ∷ []
  pub no_name : errors (codes "axiom claim: \"P\"") in_b ≡ codes "malformed command" ∷ []
  pub in_header : errors (codes "theory claim begin")
      (start_state (codes "claim") (imports.Ordered []) claim) ≡ []

-- without the alias its word is part of the header's command
pub record AMissingAlias : Type 0 where
  pub header : reports (codes "theory B imports A begin claim l: \"P --> P\"") (importer no_aliases)
      ≡ said kind.Error 0 43 [] (codes "malformed command") ∷ says_word 6 (codes "theory") ∷ []
  pub next : reports (codes "by (impI h h)") outside
      ≡ said kind.Error 0 13 [] (codes "not allowed here") ∷ says_word 2 (codes "by") ∷ []
  pub end : reports (codes "end") outside
      ≡ says_word 3 (codes "end") ∷ said kind.Error 0 3 [] (codes "not allowed here") ∷ []
