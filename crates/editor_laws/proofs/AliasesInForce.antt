-- The aliases in force at each command of a document that is checked from nothing.
use Rattle.std.proofs.Common.{◌≡◌, ℕ, suc, List, Option, Some, refl, ap, ◌∙◌}
use Rattle.std.specs.Prelude.{slice_get}
use Rattle.doc_nodes.specs.Imports.{NodeList}
use Rattle.doc_nodes.specs.Aliases.{aliases_at as node_aliases}
use Rattle.exec_rules.specs.Kept.{BlobList}
use Rattle.core_rules.specs.Settings.{Setting, made_of, state_behind}
use Rattle.core_rules.specs.Scratch.{scratch_at}
use Rattle.mirror_rules.specs.Forking.{may_fork, forks_by}
use Rattle.isar_rules.specs.declared.state.State.{State}
use Rattle.isar_rules.specs.Isar.{isar}
use Rattle.isar_rules.specs.Steps.{aliases_at, step}
use Rattle.mirror_rules.specs.Parts.{aliases_for}
use Rattle.editor_laws.proofs.ForkedSteps.{step_behind}
use Rattle.editor_laws.proofs.ScratchStates.{each_state}

module _ (nodes : NodeList) (p : ℕ) where
  -- those of the node, and in force but at the first command
  abbrev HasAliases : ℕ → State → Type 0
  HasAliases i state = (aliases_at state.place state.aliases ≡ aliases_for nodes p i)
      × (state.aliases ≡ (node_aliases nodes p).pairs)

  next : (i : ℕ) (s : Setting State) → HasAliases i s.state
      → HasAliases (suc i) (state_behind isar s)
  next i s has =
      let behind = step_behind s.source s.blob s.state in
      let same : (state_behind isar s).aliases ≡ (node_aliases nodes p).pairs = behind.aliases
      ∙ has.1 in
      (behind.place (state_behind isar s).aliases ∙ same, same)

  pub in_force : (blobs : BlobList) (i : ℕ) (s : Setting State)
      → slice_get (scratch_at isar nodes blobs p) i ≡ Some s
      → aliases_at s.state.place s.state.aliases ≡ aliases_for nodes p i
  in_force blobs i s at =
      (each_state isar nodes blobs HasAliases p (λ name imports. (refl, refl)) next i s at).0

-- so commands fork as these tell
pub told_forks :
    (law : (source : List ℕ) (blob : Option (List ℕ)) (before : State)
    → (step source blob before).forks
    ≡ forks_by (may_fork (aliases_at before.place before.aliases) source)
    (Some (step source blob before).reports))
    → (nodes : NodeList) (blobs : BlobList) (p i : ℕ) (s : Setting State)
    → slice_get (scratch_at isar nodes blobs p) i ≡ Some s
    → (made_of isar s).forks
    ≡ forks_by (may_fork (aliases_for nodes p i) s.source) (Some (made_of isar s).reports)
told_forks law nodes blobs p i s at =
    law s.source s.blob s.state
    ∙ ap (λ aliases. forks_by (may_fork aliases s.source) (Some (made_of isar s).reports))
    (in_force nodes p blobs i s at)
