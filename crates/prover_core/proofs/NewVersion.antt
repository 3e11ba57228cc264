-- What holds of the version that an update makes.
use Rattle.std.proofs.Common.{◌≡◌, ℕ, ◌<◌, ◌≤◌, true, false, List, ◌∷◌, length}
use Rattle.text_words.specs.Members.{has}
use Rattle.pide_base.specs.declared.part.Part.{Part}
use Rattle.doc_nodes.specs.Imports.{NodeList}
use Rattle.exec_rules.specs.declared.version.Version.{Version}
use Rattle.exec_rules.specs.Kept.{BlobList}
use Rattle.exec_rules.specs.Assigning.{Assignment}
use Rattle.language.specs.Lang.{Lang}
use Rattle.core_rules.specs.declared.event.Event.{Event}
use Rattle.core_rules.specs.declared.event.Event.TheVariants.{Update}
use Rattle.core_rules.specs.Assigned.{assigns, is_assigned}
use Rattle.core_rules.specs.Standing.{Free, standing}
use Rattle.core_rules.specs.Doc.{Doc, doc, assignment_of, assigned_version}
use Rattle.core_rules.specs.Sources.{HasHome}

module _ {S : Type 0} (l : Lang S) (h : List Event) (id : ℕ) (nodes : NodeList) (blobs : BlobList) where
  abbrev d : Doc
  d = doc l h

  abbrev more : List Event
  more = Update id nodes blobs ∷ h

  abbrev now : Doc
  now = doc l more

  abbrev made : Assignment
  made = assignment_of d nodes blobs

  abbrev new : Version
  new = assigned_version nodes blobs made

  -- what holds of the new version
  pub record NewLaws : Type 0 where
    pub homes : (e : ℕ) → assigns new e ≡ true → HasHome l now new e
    pub within : (e : ℕ) → is_assigned d.live e ≡ true → e ≤ length d.homes
    pub unmade : (p : Part) → length d.homes < p.exec → standing h p ≡ Free
    pub not_again : (e : ℕ) → has d.cancelled e ≡ true → assigns new e ≡ false
    -- an older execution is one of the tip's, and each new one is assigned
    pub kept : (e : ℕ) → assigns new e ≡ true → e ≤ length d.homes → assigns d.tip e ≡ true
    pub given : (e : ℕ) → length d.homes < e → e ≤ length now.homes → assigns new e ≡ true
