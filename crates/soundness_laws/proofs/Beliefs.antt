-- What an editor may believe at a moment of a legal history.
use Rattle.std.proofs.Common.{◌≡◌, ℕ, ◌<◌, ◌≤◌, ◌↔◌, true, List, [], ◌∷◌, length, Some, sym, subst}
use Rattle.std.specs.Prelude.{slice_get}
use Rattle.std.specs.List.{flat_map}
use Rattle.doc_nodes.specs.declared.node.Node.{Node}
use Rattle.doc_nodes.specs.Imports.{NodeList, is_ordered, place_of}
use Rattle.doc_nodes.specs.Reached.{Reached}
use Rattle.doc_nodes.specs.Wanted.{is_reached, wanted_at}
use Rattle.core_tables.specs.declared.versions.Live.{Live}
use Rattle.core_tables.specs.Live.{version_of}
use Rattle.exec_rules.specs.declared.version.Version.{Version}
use Rattle.exec_rules.specs.Assigning.{entries_in}
use Rattle.exec_rules.proofs.KnownThere.{all_at}
use Rattle.message_values.specs.declared.protocol.Protocol.TheVariants.{Scalars}
use Rattle.core_rules.specs.declared.event.Event.{Event}
use Rattle.core_rules.specs.declared.event.Event.TheVariants.{Update}
use Rattle.core_rules.specs.Doc.{doc}
use Rattle.core_rules.specs.FromScratch.{assigned_to}
use Rattle.core_rules.specs.Legal.{IsLegal as IsLegalList}
use Rattle.core_rules.specs.Shown.{parts_shown, scratch_shown}
use Rattle.core_rules.specs.Updates.{FitsNode}
use Rattle.session_rules.specs.declared.service.Service.{Service}
use Rattle.session_rules.specs.Heard.{Heard}
use Rattle.session_rules.specs.History.{session}
use Rattle.session_rules.specs.Session.{Session, document}
use Rattle.session_rules.specs.Shown.{placed_reports}
use Rattle.session_rules.proofs.KnownWaited.{live_at}
use Rattle.isar_rules.specs.Isar.{isar}
use Rattle.isar_rules.specs.Kept.{errors_in}
use Rattle.soundness_laws.specs.Believed.{IsSoundAt, IsTheoryAt}
use Rattle.soundness_laws.specs.Seen.{HasNoPending, HasSettled, IsQuiet, IsWhole, OfEachNeeded, ShowsNoError, TellsNoError}
use Rattle.soundness_laws.proofs.Believing.{Laws, sound_at}
use Rattle.soundness_laws.proofs.NodeTheories.{theory_at}
use Rattle.soundness_laws.proofs.TextTheories.{Just}
use Rattle.session_rules.proofs.KnownLiveVersions.{each_live}
use Rattle.soundness_laws.proofs.Required.{IsAssigned, whole_from}
use Rattle.soundness_laws.proofs.Resting.{none_pending}
use Rattle.soundness_laws.proofs.Telling.{clean_told, none_told}

-- what holds of live versions holds of one with an id
of_version : (P : Version → Type 0) (lives : List (Live Version)) (id : ℕ) (v : Version) → version_of lives id ≡ Some v
    → ((k : ℕ) (one : Live Version) → slice_get lives k ≡ Some one → P one.version) → P v
of_version P lives id v live each = let at = live_at lives id v live in subst P at.1.2 (each at.0 at.1.0 at.1.1)

-- all commands of a required node and its imports have evaluations
pub whole_required : ((h : List Event) (id : ℕ) (nodes : List (List ℕ × Node)) (blobs : List (List ℕ × List ℕ)) (p : ℕ)
    (pair : List ℕ × Node) → IsLegalList isar (Update id nodes blobs ∷ h) → slice_get nodes p ≡ Some pair
    → wanted_at nodes p ≤ length (assigned_to (doc isar (Update id nodes blobs ∷ h)).tip p).rows)
    → ((nodes : NodeList) (p : ℕ) → (is_reached nodes p ≡ true) ↔ Reached nodes p)
    → (h : List Event) → IsLegalList isar h → (id : ℕ) (v : Version) → version_of (doc isar h).live id ≡ Some v
    → (p : ℕ) (pair : List ℕ × Node) → slice_get v.nodes p ≡ Some pair → pair.1.required ≡ true → is_ordered v.nodes p ≡ true
    → OfEachNeeded (IsWhole v) v p
whole_required covers reaches h legal id v live p pair at required ordered =
    let is : IsAssigned v = of_version IsAssigned (doc isar h).live id v live (each_live isar IsAssigned
    (λ k i nodes blobs may q other there. (
      covers k i nodes blobs q other may there,
      λ none. ((all_at (FitsNode (doc isar k)) nodes q other may.1.1.nodes_fit there).bare none).0,
    )) h legal) in
    whole_from v is (reaches v.nodes) p pair at required ordered

module _ (laws : Laws) (service : Service) (h : List Heard) (legal : IsLegalList isar (session isar service h).events) (id : ℕ) (v : Version)
    (live : version_of (document isar (session isar service h)).live id ≡ Some v) (name : List ℕ) (p : ℕ)
    (place : place_of v.nodes name ≡ Some p) where
  abbrev s : Session
  s = session isar service h

  pub sound_shown : OfEachNeeded (IsQuiet s.events v) v p → IsSoundAt v.nodes v.blobs p
  sound_shown quiet = of_version (λ x. place_of x.nodes name ≡ Some p → OfEachNeeded (IsQuiet s.events x) x p → IsSoundAt x.nodes x.blobs p)
      (document isar s).live id v live
      (λ k one at. sound_at laws s.events legal k one at name p) place quiet

  pub theory_shown : Just → OfEachNeeded (IsQuiet s.events v) v p → 0 < length (entries_in v name) → IsTheoryAt v.nodes v.blobs p
  theory_shown just quiet some = of_version (λ x. place_of x.nodes name ≡ Some p → OfEachNeeded (IsQuiet s.events x) x p → 0 < length (entries_in x name) → IsTheoryAt x.nodes x.blobs p)
      (document isar s).live id v live
      (λ k one at. theory_at laws just s.events legal k one at name p) place quiet some

  pub sound_settled : HasSettled s.events v → OfEachNeeded (IsWhole v) v p → OfEachNeeded (ShowsNoError s.events v) v p → IsSoundAt v.nodes v.blobs p
  sound_settled rest whole clean = sound_shown (λ q n needs at. record {
    whole = whole q n needs at;
    checked = of_version (λ x. HasSettled s.events x → HasNoPending s.events x n) (document isar s).live id v live
        (λ k one is quiet. none_pending laws s.events legal k one is quiet n) rest;
    clean = clean q n needs at;
  })

  pub sound_told : s.protocol ≡ Scalars → OfEachNeeded (IsWhole v) v p → OfEachNeeded (TellsNoError service h id) v p → IsSoundAt v.nodes v.blobs p
  sound_told plain whole tells = sound_shown (λ q n needs at. record {
    whole = whole q n needs at;
    checked = none_told service h id v live plain n (tells q n needs at);
    clean = subst (λ ps. errors_in (flat_map placed_reports ps) ≡ [])
        (sym (of_version (λ x. parts_shown isar s.events (document isar s) x n ≡ scratch_shown isar s.events x n)
        (document isar s).live id v live
        (λ k one is. laws.shown s.events k one n legal is))) (clean_told service h id v live plain n (tells q n needs at));
  })
