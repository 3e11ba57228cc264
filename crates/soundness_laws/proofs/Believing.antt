-- Where all of a node and of its imports is checked, and no error is shown, its theory is sound.
use Rattle.std.proofs.Common.{◌≡◌, ℕ, suc, ◌<◌, ◌↔◌, true, false, List, [], ◌∷◌, ◌++◌, length, find, Some, refl, ap, sym, subst, ◌∙◌, arith}
use Rattle.std.proofs.lemmas.Bool.{eqb-true}
use Rattle.std.proofs.lemmas.List.Quantifiers.{position-Some}
use Rattle.std.specs.Prelude.{◌==◌, slice_get}
use Rattle.std.specs.List.{AllByRecursion, flat_map}
use Rattle.std.specs.Option.{option_map, option_map_or}
use Rattle.text_words.specs.Members.{has}
use Rattle.doc_nodes.specs.declared.node.Entry.{Entry}
use Rattle.doc_nodes.specs.declared.node.Node.{Node}
use Rattle.doc_nodes.specs.Imports.{NodeList, order, place_of}
use Rattle.doc_nodes.specs.Names.{equal}
use Rattle.core_tables.specs.declared.versions.Live.{Live}
use Rattle.exec_rules.specs.declared.row.Row.{Row}
use Rattle.exec_rules.specs.declared.version.Version.{Version}
use Rattle.exec_rules.specs.Assigning.{entries_at, entries_in, rows_in}
use Rattle.exec_rules.specs.Kept.{BlobList}
use Rattle.exec_rules.specs.Listed.{executions}
use Rattle.core_rules.specs.declared.event.Event.{Event}
use Rattle.core_rules.specs.Assigned.{assigns}
use Rattle.core_rules.specs.Doc.{doc}
use Rattle.core_rules.specs.Legal.{IsLegal}
use Rattle.core_rules.specs.Scratch.{Run, final, run_from, scratch, scratch_at, set_in}
use Rattle.core_rules.specs.Settings.{Setting, state_behind}
use Rattle.core_rules.specs.Shown.{parts_shown, scratch_shown}
use Rattle.core_rules.specs.Sources.{HasHome}
use Rattle.session_rules.specs.Shown.{placed_reports}
use Rattle.session_rules.specs.Promises.{are_all_shown}
use Rattle.session_rules.proofs.KnownExact.{all_seen}
use Rattle.isar_rules.specs.declared.state.State.{State}
use Rattle.isar_rules.specs.Isar.{isar}
use Rattle.isar_rules.specs.Kept.{errors_in}
use Rattle.soundness_laws.specs.Clean.{AreClean}
use Rattle.soundness_laws.specs.Facts.{FactsFollow}
use Rattle.soundness_laws.specs.Imports.{AreCleanFrom, IsAxiomFrom, Needs, itself, imports}
use Rattle.soundness_laws.specs.Believed.{IsSoundAt}
use Rattle.soundness_laws.specs.Seen.{HasNoPending, IsQuiet, OfEachNeeded}
use Rattle.soundness_laws.proofs.CleanParts.{commands_clean}
use Rattle.soundness_laws.proofs.KnownFine.{fine}
use Rattle.soundness_laws.proofs.ScratchRuns.{IsRunOf, all_run, each_on, found_of}

-- what holds of documents, of what they show, and of theories
pub record Laws : Type 0 where
  pub every : (nodes : NodeList) (p : ℕ) → (has (order nodes) p ≡ true) ↔ (p < length nodes)
  pub once : (nodes : NodeList) (front rest : List ℕ) (p : ℕ) → order nodes ≡ front ++ p ∷ rest → has front p ≡ false
  pub shown : (h : List Event) (k : ℕ) (one : Live Version) (name : List ℕ) → IsLegal isar h → slice_get (doc isar h).live k ≡ Some one
      → parts_shown isar h (doc isar h) one.version name ≡ scratch_shown isar h one.version name
  pub homed : (h : List Event) (k : ℕ) (one : Live Version) (e : ℕ) → IsLegal isar h → slice_get (doc isar h).live k ≡ Some one
      → assigns one.version e ≡ true → HasHome isar (doc isar h) one.version e
  pub there : (v : Version) (name : List ℕ) (i e : ℕ) (row : Row) → slice_get (rows_in v name) i ≡ Some row
      → has (executions row) e ≡ true → assigns v e ≡ true
  pub sound : (nodes : NodeList) (blobs : BlobList) → AllByRecursion (λ one. AreCleanFrom nodes blobs one.0
      → FactsFollow (IsAxiomFrom nodes blobs one.0) (final isar one.1)) (scratch isar nodes blobs)

pub laws_from : ((nodes : NodeList) (p : ℕ) → (has (order nodes) p ≡ true) ↔ (p < length nodes))
    → ((nodes : NodeList) (front rest : List ℕ) (p : ℕ) → order nodes ≡ front ++ p ∷ rest → has front p ≡ false)
    → ((h : List Event) (k : ℕ) (one : Live Version) (name : List ℕ) → IsLegal isar h → slice_get (doc isar h).live k ≡ Some one
    → parts_shown isar h (doc isar h) one.version name ≡ scratch_shown isar h one.version name)
    → ((h : List Event) (k : ℕ) (one : Live Version) (e : ℕ) → IsLegal isar h → slice_get (doc isar h).live k ≡ Some one
    → assigns one.version e ≡ true → HasHome isar (doc isar h) one.version e)
    → ((v : Version) (name : List ℕ) (i e : ℕ) (row : Row) → slice_get (rows_in v name) i ≡ Some row
    → has (executions row) e ≡ true → assigns v e ≡ true)
    → ((nodes : NodeList) (blobs : BlobList) → AllByRecursion (λ one. AreCleanFrom nodes blobs one.0
    → FactsFollow (IsAxiomFrom nodes blobs one.0) (final isar one.1)) (scratch isar nodes blobs)) → Laws
laws_from every once shown homed there sound =
    record { every = every; once = once; shown = shown; homed = homed; there = there; sound = sound }

-- what is needed has a name
named : {nodes : NodeList} {p q : ℕ} → Needs nodes p q → (name : List ℕ) → place_of nodes name ≡ Some p
    → (other : List ℕ) × (place_of nodes other ≡ Some q)
named itself name at = (name, at)
named (imports pair other is listed place needs) name at = named needs other place

place_within : (nodes : NodeList) (name : List ℕ) (q : ℕ) → place_of nodes name ≡ Some q → q < length nodes
place_within [] name q e = absurd (cc)
place_within (n ∷ ns) name q e = (position-Some (λ (pair : List ℕ × Node). equal pair.0 name) (n ∷ ns) q n e).0

pub length_run : (node : Node) (blobs : BlobList) (es : List Entry) (state : State) → length (run_from isar node blobs es state) ≡ length es
length_run node blobs [] state = refl
length_run node blobs (e ∷ es) state = ap suc (length_run node blobs es (state_behind isar (set_in node blobs e state)))

module _ (laws : Laws) (h : List Event) (legal : IsLegal isar h) (k : ℕ) (live : Live Version) (at : slice_get (doc isar h).live k ≡ Some live) where
  abbrev v : Version
  v = live.version

  abbrev IsRun : ℕ × Run State → Type 0
  IsRun = IsRunOf isar v.nodes v.blobs (order v.nodes) (scratch isar v.nodes v.blobs)

  seen_all : (name : List ℕ) → HasNoPending h v name → are_all_shown (scratch_shown isar h v name) ≡ true
  seen_all name none = subst (λ ps. are_all_shown ps ≡ true) (laws.shown h k live name legal at)
      (all_seen isar laws.homed laws.there h legal k live at name none)

  clean_at : (name : List ℕ) (one : ℕ × Run State) → IsRun one → place_of v.nodes name ≡ Some one.0 → IsQuiet h v name → AreClean one.1.commands
  clean_at name one is place quiet =
      let ss : List (Setting State) = option_map_or (scratch_at isar v.nodes v.blobs) (place_of v.nodes name) [] in
      let commands : ss ≡ one.1.commands =
      ap (λ o. option_map_or (scratch_at isar v.nodes v.blobs) o []) place
      ∙ ap (λ o. option_map_or (λ (x : ℕ × Run State). x.1.commands) o []) is.found in
      let entries : entries_in v name ≡ is.pair.1.entries =
      ap (λ o. option_map_or (entries_at v.nodes) o []) place
      ∙ ap (λ o. option_map_or (λ (pair : List ℕ × Node). pair.1.entries) o []) is.stands in
      let long : length one.1.commands ≡ length is.pair.1.entries =
      ap (λ (r : Run State). length r.commands) is.run ∙ length_run is.pair.1 v.blobs is.pair.1.entries is.begins in
      let within : length ss ≡ length (entries_in v name) = ap length commands ∙ long ∙ sym (ap length entries) in
      let clean : errors_in (flat_map placed_reports (scratch_shown isar h v name)) ≡ [] =
      subst (λ ps. errors_in (flat_map placed_reports ps) ≡ [])
      (laws.shown h k live name legal at) quiet.clean in
      subst AreClean commands (commands_clean h (entries_in v name) (rows_in v name) ss quiet.whole (omega (arith, within))
      (seen_all name quiet.checked) (fine (flat_map placed_reports (scratch_shown isar h v name))
      clean))

  pub clean_from : (name : List ℕ) (p : ℕ) → place_of v.nodes name ≡ Some p → OfEachNeeded (IsQuiet h v) v p → AreCleanFrom v.nodes v.blobs p
  clean_from name p place quiet =
      each_on IsRun (λ one. Needs v.nodes p one.0 → AreClean one.1.commands) (scratch isar v.nodes v.blobs)
      (λ one is needs. let n = named needs name place in clean_at n.0 one is n.1 (quiet one.0 n.0 needs n.1))
      (all_run isar v.nodes v.blobs (laws.every v.nodes) (laws.once v.nodes)).each

  -- the run of the node at a place of a name
  pub run_at : (name : List ℕ) (p : ℕ) → place_of v.nodes name ≡ Some p → (one : ℕ × Run State) × (find (λ o. o.0 == p) (scratch isar v.nodes v.blobs) ≡ Some one)
  run_at name p place =
      (all_run isar v.nodes v.blobs (laws.every v.nodes) (laws.once v.nodes)).there p ((laws.every v.nodes p).1 (place_within v.nodes name p place))

  pub sound_at : (name : List ℕ) (p : ℕ) → place_of v.nodes name ≡ Some p → OfEachNeeded (IsQuiet h v) v p → IsSoundAt v.nodes v.blobs p
  sound_at name p place quiet =
      let here = run_at name p place in
      let good = found_of (λ (one : ℕ × Run State). AreCleanFrom v.nodes v.blobs one.0
      → FactsFollow (IsAxiomFrom v.nodes v.blobs one.0) (final isar one.1)) (λ one. one.0 == p) (scratch isar v.nodes v.blobs) here.0
      (laws.sound v.nodes v.blobs) here.1 in
      let same : here.0.0 ≡ p = eqb-true here.0.0 p good.0 in
      record {
        behind = final isar here.0.1;
        comes_to = ap (option_map (λ (one : ℕ × Run State). final isar one.1)) here.1;
        follows = subst (λ q. FactsFollow (IsAxiomFrom v.nodes v.blobs q) (final isar here.0.1)) same
            (good.1 (subst (AreCleanFrom v.nodes v.blobs) (sym same) (clean_from name p place quiet)));
      }
