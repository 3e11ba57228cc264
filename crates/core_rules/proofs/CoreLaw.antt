-- What holds of each live version after a legal list of events.
use Rattle.std.proofs.Common.{◌≡◌, ℕ, List, [], Option, Some, None, refl, ap, sym, ◌∙◌, ◌≤◌, length, ◌∷◌}
use Rattle.std.specs.Prelude.{slice_get}
use Rattle.std.specs.Option.{option_map_or}
use Rattle.doc_nodes.specs.declared.node.Node.{Node}
use Rattle.doc_nodes.specs.Imports.{NodeList, place_of}
use Rattle.doc_nodes.specs.Wanted.{wanted_at}
use Rattle.core_tables.specs.declared.versions.Live.{Live}
use Rattle.exec_rules.specs.declared.home.Input.TheVariants as input
use Rattle.exec_rules.specs.declared.version.Version.{Version}
use Rattle.exec_rules.specs.Assigning.{entries_at, rows_in}
use Rattle.language.specs.Lang.{Lang}
use Rattle.core_rules.specs.declared.event.Event.{Event}
use Rattle.core_rules.specs.declared.event.Event.TheVariants.{Update}
use Rattle.exec_rules.specs.Kept.{BlobList}
use Rattle.core_rules.proofs.NewVersion.{new_covers}
use Rattle.core_rules.specs.Settings.{Setting}
use Rattle.core_rules.specs.Doc.{Doc, doc}
use Rattle.core_rules.specs.FromScratch.{assigned_to, head_in, AllFromScratch}
use Rattle.core_rules.specs.Legal.{IsLegal}
use Rattle.core_rules.specs.Scratch.{scratch_at}
use Rattle.core_rules.specs.Shown.{commands_parts, parts_shown, scratches_parts, scratch_shown}
use Rattle.core_rules.proofs.Tables.{AreOlder}
use Rattle.core_rules.proofs.Facts.{Facts, NodeFacts}
use Rattle.core_rules.proofs.KnownPlaces.{place_found, rows_found}
use Rattle.core_rules.proofs.AliasesByKey.{entries_found}
use Rattle.core_rules.proofs.Sound.{IsSound}
use Rattle.core_rules.proofs.SoundDoc.{doc_sound}
use Rattle.core_rules.proofs.ScratchDone.{scratch_agrees}
use Rattle.core_rules.proofs.FromScratchLaw.{from_scratch}
use Rattle.core_rules.proofs.ShownLaw.{all_parts}

module _ {S : Type 0} (l : Lang S) (h : List Event) (d : Doc) (older : AreOlder d.homes) (v : Version)
    (facts : NodeFacts v.nodes) (sound : IsSound d.homes v) where
  shown_at : (name : List ℕ) (o : Option ℕ) → place_of v.nodes name ≡ o
      → commands_parts l h d.homes (option_map_or (entries_at v.nodes) o []) (rows_in v name)
      ≡ scratches_parts l h (option_map_or (entries_at v.nodes) o []) (rows_in v name)
      (option_map_or (scratch_at l v.nodes v.blobs) o [])
  shown_at name None e = refl
  shown_at name (Some q) e =
      let found = place_found v.nodes name q e in
      let pair : List ℕ × Node = found.pair in
      let here = sound.each q pair found.stands in
      let ss : List (Setting S) = scratch_at l v.nodes v.blobs q in
      ap (λ es. commands_parts l h d.homes es (rows_in v name)) (entries_found v.nodes q pair found.stands)
      ∙ ap (commands_parts l h d.homes pair.1.entries) (rows_found v name q e)
      ∙ all_parts l h d older v pair pair.1.entries (assigned_to v q).rows ss
      (input.First (head_in v.nodes q pair (assigned_to v q).key)) tt here.stands.homed.evaluate here.stands.homed.print
      (scratch_agrees l d.homes older v facts sound q pair found.stands)
      ∙ sym (ap (λ rows. scratches_parts l h pair.1.entries rows ss) (rows_found v name q e))
      ∙ sym (ap (λ es. scratches_parts l h es (rows_in v name) ss) (entries_found v.nodes q pair found.stands))

  pub shown_same : (name : List ℕ) → parts_shown l h d v name ≡ scratch_shown l h v name
  shown_same name = shown_at name (place_of v.nodes name) refl

module _ {S : Type 0} (facts : Facts) (l : Lang S) (h : List Event) (legal : IsLegal l h) (k : ℕ) (one : Live Version)
    (at : slice_get (doc l h).live k ≡ Some one) where
  pub all_from_scratch : AllFromScratch l (doc l h) one.version
  all_from_scratch =
      let so = doc_sound facts l h legal in
      from_scratch l (doc l h) so.base.older one.version (facts.nodes one.version.nodes) (so.live k one at)

  pub all_shown : (name : List ℕ) → parts_shown l h (doc l h) one.version name ≡ scratch_shown l h one.version name
  all_shown =
      let so = doc_sound facts l h legal in
      shown_same l h (doc l h) so.base.older one.version (facts.nodes one.version.nodes) (so.live k one at)

-- each command that an update wants has an evaluation
pub update_covers : {S : Type 0} (facts : Facts) (l : Lang S) (h : List Event) (id : ℕ) (nodes : NodeList) (blobs : BlobList)
    → IsLegal l (Update id nodes blobs ∷ h) → (p : ℕ) (pair : List ℕ × Node) → slice_get nodes p ≡ Some pair
    → wanted_at nodes p ≤ length (assigned_to (doc l (Update id nodes blobs ∷ h)).tip p).rows
update_covers facts l h id nodes blobs legal p pair at =
    new_covers facts (doc l h) (doc_sound facts l h legal.0).base nodes blobs legal.1.1.nodes_fit p pair at
