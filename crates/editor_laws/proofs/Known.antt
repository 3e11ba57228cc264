-- When what an editor knows of a version is what the prover's session has.
use Rattle.std.proofs.Common.{◌≡◌, ℕ, ◌<◌, ◌≤◌, true, List, [], length, map, Option, Some, None, refl, ap, sym, subst, ◌∙◌, arith}
use Rattle.std.specs.Prelude.{⊤, ◌≢◌, slice_get, if◌then◌else◌}
use Rattle.std.specs.Option.{option_map, option_map_or}
use Rattle.std.specs.List.{sum_by}
use Rattle.text_words.specs.Members.{has}
use Rattle.pide_base.specs.declared.part.Part.{Part}
use Rattle.report_markup.specs.declared.report.Report.{Report}
use Rattle.shared_map.specs.Pairs.{IsSorted, found}
use Rattle.doc_nodes.specs.declared.node.Entry.{Entry}
use Rattle.doc_nodes.specs.declared.node.Node.{Node}
use Rattle.doc_nodes.specs.Names.{in_order}
use Rattle.doc_nodes.specs.Imports.{NodeList, place_of}
use Rattle.doc_nodes.proofs.KnownPlaces.{place_named}
use Rattle.exec_rules.specs.declared.home.Home.{Home}
use Rattle.exec_rules.specs.declared.row.Row.{Row}
use Rattle.exec_rules.specs.declared.version.Version.{Version}
use Rattle.exec_rules.specs.Assigning.{entries_at, entries_in, rows_in}
use Rattle.exec_rules.specs.Listed.{executions, told_commands, told_commands_in}
use Rattle.language.specs.Lang.{Lang}
use Rattle.core_rules.specs.declared.event.Event.{Event}
use Rattle.core_rules.specs.Assigned.{command_ids}
use Rattle.core_rules.specs.Numbered.{grown}
use Rattle.core_rules.specs.Parts.{reports_in, reports_of}
use Rattle.core_rules.specs.Standing.{is_finished}
use Rattle.core_rules.specs.Updates.{AllDiffer, source_in}
use Rattle.core_rules.proofs.KnownPlaces.{place_found}
use Rattle.core_rules.proofs.KnownStays.{setting_grown}
use Rattle.mirror_rules.specs.Images.{Image}
use Rattle.mirror_rules.specs.Parts.{reports_at}
use Rattle.mirror_rules.specs.Rows.{rows_of}
use Rattle.editor_laws.proofs.Named.{found_at, found_by}

-- the same reports, each as often
abbrev pub Same : List Report → List Report → Type 0
Same xs ys = (measure : Report → ℕ) → sum_by measure xs ≡ sum_by measure ys

-- where there are any
abbrev pub SameTold : Option (List Report) → Option (List Report) → Type 0
SameTold None None = ⊤
SameTold (Some xs) (Some ys) = Same xs ys
SameTold a b = ⊥

pub same_none : (a b : Option (List Report)) → a ≡ None → b ≡ None → SameTold a b
same_none None None x y = tt
same_none (Some r) b x y = absurd (cc)
same_none None (Some r) x y = absurd (cc)

-- no command has an empty source
abbrev pub AreFilled : NodeList → Type 0
AreFilled nodes = (p i : ℕ) (pair : List ℕ × Node) (e : Entry) → slice_get nodes p ≡ Some pair
    → slice_get pair.1.entries i ≡ Some e → source_in pair.1 e ≢ []

module _ {S : Type 0} (l : Lang S) (h : List Event) (homes : List Home) where
  -- what a part reported, where it is finished
  abbrev pub reported : Part → Option (List Report)
  reported p = if is_finished h p then reports_of l homes p else None

  -- a version as the editor has it
  pub record ImageOf (v : Version) (im : Image) : Type 0 where
    pub nodes : im.nodes ≡ v.nodes
    pub rows : im.rows ≡ map (λ (pair : List ℕ × Node). (pair.0, told_commands_in v pair.0))
        v.nodes
    pub long : length v.assigned ≡ length v.nodes
    pub sorted : IsSorted in_order v.nodes
    pub differ : AllDiffer (command_ids v.nodes)
    pub filled : AreFilled v.nodes
    pub known : (name : List ℕ) (i : ℕ) (e : Entry) (row : Row) (p : Part) → slice_get (entries_in v name) i ≡ Some e
        → slice_get (rows_in v name) i ≡ Some row → has (executions row) p.exec ≡ true
        → SameTold (reports_at im e.command p) (reported p)
    pub unmade : (c : ℕ) (p : Part) → length homes < p.exec → reports_at im c p ≡ None
    pub made : (name : List ℕ) (i : ℕ) (row : Row) (x : ℕ) → slice_get (rows_in v name) i ≡ Some row
        → has (executions row) x ≡ true → x ≤ length homes

-- the commands of a node are those of its name
pub entries_named : (v : Version) (p : ℕ) (pair : List ℕ × Node) → IsSorted in_order v.nodes → slice_get v.nodes p ≡ Some pair
    → entries_in v pair.0 ≡ pair.1.entries
entries_named v p pair sorted at =
    ap (λ o. option_map_or (entries_at v.nodes) o []) (place_named v.nodes p pair sorted at)
    ∙ ap (λ o. option_map_or (λ (x : List ℕ × Node). x.1.entries) o []) at

-- what is told of a name, by its place
told_none : (v : Version) (name : List ℕ) → place_of v.nodes name ≡ None
    → told_commands_in v name ≡ []
told_none v name none = ap (λ o. told_commands (option_map_or (entries_at v.nodes) o []) (rows_in
    v name)) none

-- the rows of a node in the image of a version
pub rows_named : (v : Version) (im : Image) (name : List ℕ) → im.rows ≡ map (λ (pair : List ℕ × Node). (pair.0, told_commands_in v pair.0)) v.nodes
    → rows_of im name ≡ told_commands_in v name
rows_named v im name rows = go (place_of v.nodes name) refl
  where
    go : (o : Option ℕ) → place_of v.nodes name ≡ o → rows_of im name ≡ told_commands_in v name
    go None is = ap (λ rs. option_map_or (λ (x : List (ℕ × List ℕ)). x) (found in_order name rs) []) rows
        ∙ ap (λ o. option_map_or (λ (x : List (ℕ × List ℕ)). x) o []) (found_by (λ (pair : List ℕ × Node). told_commands_in v pair.0) v.nodes name is) ∙ sym (told_none v name is)
    go (Some q) is =
        let f = place_found v.nodes name q is in
        ap (λ rs. option_map_or (λ (x : List (ℕ × List ℕ)). x) (found in_order name rs) []) rows
        ∙ ap (λ o. option_map_or (λ (x : List (ℕ × List ℕ)). x) o [])
        (subst (λ n. found in_order n (map (λ (pair : List ℕ × Node). (pair.0, told_commands_in v pair.0)) v.nodes) ≡ Some (told_commands_in v n)) f.named
        (found_at (λ (pair : List ℕ × Node). told_commands_in v pair.0) v.nodes q f.pair (λ i other at same. ap (told_commands_in v) same) f.stands))

-- other events and executions leave it so
pub image_on : {S : Type 0} (l : Lang S) (h after : List Event) (homes more : List Home) (v : Version) (im : Image)
    → ImageOf l h homes v im → length homes ≤ length more
    → ((p : Part) → p.exec ≤ length homes → reported l after more p ≡ reported l h homes p) → ImageOf l after more v im
image_on l h after homes more v im is le same = record {
  nodes = is.nodes;
  rows = is.rows;
  long = is.long;
  sorted = is.sorted;
  differ = is.differ;
  filled = is.filled;
  known = λ name i e row p here at among. subst (SameTold (reports_at im e.command p))
      (sym (same p (is.made name i row p.exec at among))) (is.known name i e row p here at among);
  unmade = λ c p late. is.unmade c p (omega (arith, late, le));
  made = λ name i row x at among. let was = is.made name i row x at among in omega (arith, was, le);
}

-- what executions reported that were made before stays
pub reported_on : {S : Type 0} (l : Lang S) (h after : List Event) (homes new : List Home) (p : Part)
    → is_finished after p ≡ is_finished h p → p.exec ≤ length homes → reported l after (grown homes new) p ≡ reported l h homes p
reported_on l h after homes new p same le =
    ap (λ b. if b then reports_of l (grown homes new) p else None) same
    ∙ ap (λ o. if is_finished h p then option_map (reports_in l p.kind) o else None) (setting_grown l homes new p.exec le)
