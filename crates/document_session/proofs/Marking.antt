-- What is told of a node whose results the core gives.
use Rattle.std.proofs.Common.{◌≡◌, ℕ, List, Option, Some, None, Ok, sym, subst, ◌∙◌}
use Rattle.text_edits.specs.declared.edit.Edit.{Edit}
use Rattle.doc_nodes.specs.Imports.{place_of}
use Rattle.core_tables.specs.Live.{version_of}
use Rattle.exec_rules.specs.declared.version.Version.{Version}
use Rattle.core_jobs.specs.declared.results.NodeResults.{NodeResults}
use Rattle.language.specs.Lang.{Lang}
use Rattle.buffer_rules.specs.Texts.{edit_all}
use Rattle.core_rules.specs.declared.event.Event.{Event}
use Rattle.core_rules.specs.Doc.{doc}
use Rattle.core_rules.specs.Updates.{node_in}
use Rattle.prover_core.specs.Results.{AreResults, AreResultsIn}
use Rattle.session_rules.specs.Session.{Session}
use Rattle.keeping_rules.specs.session_replies_below.Edited.{PlacesFit}
use Rattle.document_session.specs.Looks.{IsSeen}
use Rattle.document_session.proofs.Looked.{placed}

module _ {S : Type 0} (l : Lang S) (h : List Event) (id : ℕ) (name : List ℕ) (o : Option NodeResults) (so : AreResults l h id name o) where
  no_results : o ≡ None → (version : Version) → version_of (doc l h).live id ≡ Some version → place_of version.nodes name ≡ None
  no_results is = subst (λ (x : Option NodeResults). AreResults l h id name x) is so

  pub results_in : (results : NodeResults) → o ≡ Some results → AreResultsIn l h id name results
  results_in results is = subst (λ (x : Option NodeResults). AreResults l h id name x) is so

module _ {S : Type 0} (l : Lang S) (s : Session) (id : ℕ) (name : List ℕ) (edits : List Edit) (text : List ℕ) (seen : IsSeen l s id name edits text) where
  -- there are some
  pub has_results : (o : Option NodeResults) → AreResults l s.events id name o → o ≡ None → ⊥
  has_results o so is = placed seen.found.version name seen.found.node seen.found.stands
      (no_results l s.events id name o so is seen.found.version seen.found.live)

  module _ (results : NodeResults) (of : AreResultsIn l s.events id name results) where
    same_version : seen.found.version ≡ of.version
    same_version = let same : Some seen.found.version ≡ Some of.version = sym seen.found.live ∙ of.live in cc

    -- they are of the node that was seen
    pub node_there : node_in of.version name ≡ Some seen.found.node
    node_there = subst (λ (v : Version). node_in v name ≡ Some seen.found.node) same_version seen.found.stands

  pub edited_there : edit_all edits seen.found.node.text ≡ Ok text
  edited_there = subst (λ (t : List ℕ). edit_all edits t ≡ Ok text) seen.found.text_is seen.edited

  pub fits_there : PlacesFit edits seen.found.node.text
  fits_there = subst (λ (t : List ℕ). PlacesFit edits t) seen.found.text_is seen.fits
