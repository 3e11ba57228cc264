-- What a language must keep so that an editor can tell from texts and reports what it makes (this
-- project's own).
use Rattle.std.specs.Prelude.{◌≡◌, ◌≢◌, ℕ, List, [], slice_get, Option, Some}
use Rattle.std.specs.List.{AllByRecursion}
use Rattle.symbol_markup.specs.Places.{StandsOnSymbols}
use Rattle.doc_nodes.specs.Imports.{NodeList}
use Rattle.language.specs.Lang.{Lang}
use Rattle.language.specs.Laws.{AreTidy, reports_of}
use Rattle.mirror_rules.specs.Forking.{may_fork, forks_by}
use Rattle.exec_rules.specs.Kept.{BlobList}
use Rattle.core_rules.specs.Settings.{Setting, made_of}
use Rattle.core_rules.specs.Scratch.{scratch_at}
use Rattle.mirror_rules.specs.Parts.{aliases_for}

-- a command forks where its words say that it may and its evaluation reports no error; reports
-- begin and end where symbols do, and have one at least; and they lie in the source
pub record IsTold {S : Type 0} (l : Lang S) : Type 0 where
  pub forks : (nodes : NodeList) (blobs : BlobList) (p i : ℕ) (s : Setting S)
      → slice_get (scratch_at l nodes blobs p) i ≡ Some s
      → (made_of l s).forks ≡ forks_by
      (may_fork (aliases_for nodes p i) s.source) (Some (made_of l s).reports)
  pub placed : (source : List ℕ) (blob : Option (List ℕ)) (state : S) → source ≢ []
      → AllByRecursion (λ r. StandsOnSymbols source r.range) (reports_of l source blob state)
  pub tidy : AreTidy l
