-- What an update prepares is what may be made of the tip.
use Rattle.std.proofs.Common.{◌≡◌, ℕ, suc, ◌<◌, Bool, true, false, List, [], ◌∷◌, length, map, Result, Ok, Err, refl, ap, sym, subst, ◌∙◌}
use Rattle.std.specs.Prelude.{if◌then◌else◌}
use Rattle.std.specs.List.{AllZip}
use Rattle.std.specs.declared.cmp.Ordering.TheVariants.{Less}
use Rattle.shared_map.specs.Pairs.{Each, IsSorted}
use Rattle.doc_nodes.specs.declared.node.Node.{Node}
use Rattle.doc_nodes.specs.Names.{in_order}
use Rattle.doc_nodes.specs.Imports.{NodeList}
use Rattle.core_rules.specs.Assigned.{command_ids}
use Rattle.core_rules.specs.Updates.{AllDiffer}
use Rattle.buffer_laws.specs.Known.{AreBelow, AreKnown}
use Rattle.buffer_rules.specs.Nodes.{AreKept, Numbered, nodes_after}
use Rattle.buffer_rules.specs.Preparing.{Buffer, prepared, within_limits}
use Rattle.buffer_rules.specs.Sheets.{SheetList}
use Rattle.buffer_rules.specs.Updates.{Asked, document_after}
use Rattle.buffer_rules.specs.declared.sheet.Document.{Document}
use Rattle.message_values.specs.declared.refusal.Refusal.{Refusal}
use Rattle.message_values.specs.declared.refusal.Refusal.TheVariants.{Limit}
use Rattle.buffer_rules.specs.Trying.{◌>>=◌}
use Rattle.mirror_rules.specs.Images.{Mirror}
use Rattle.std.proofs.lemmas.Bool.{lt-ltb}
use Rattle.editor_buffer.specs.Preparation.{Preparation}
use Rattle.message_values.specs.declared.refusal.Refusal.TheVariants.{VersionNotHigher}
use Rattle.pide_mirror.specs.Places.{HaveSources}
use Rattle.pide_mirror.specs.Knowing.{IsDocument, FitsUpdate}
use Rattle.pide_mirror.specs.declared.document.Document.{Document as Knowledge}
use Rattle.pide_mirror.proofs.KnownSources.{sources_kept}

-- lists that go together are of one length
pub zip_length : {A B : Type 0} (P : A → B → Type 0) (xs : List A) (ys : List B) → AllZip P xs ys → length xs ≡ length ys
zip_length P [] [] all = refl
zip_length P [] (y ∷ ys) all = absurd all
zip_length P (x ∷ xs) [] all = absurd all
zip_length P (x ∷ xs) (y ∷ ys) all = ap suc (zip_length P xs ys all.1)

-- names that rise do so in any list that has them
module _ {A B : Type 0} where
  each_named : (name : List ℕ) (xs : List (List ℕ × A)) (ys : List (List ℕ × B)) → map (λ p. p.0) xs ≡ map (λ p. p.0) ys
      → Each (λ other. in_order name other.0 ≡ Less) xs → Each (λ other. in_order name other.0 ≡ Less) ys
  each_named name [] [] same all = tt
  each_named name [] (y ∷ ys) same all = absurd (cc)
  each_named name (x ∷ xs) [] same all = absurd (cc)
  each_named name (x ∷ xs) (y ∷ ys) same all =
      let first : x.0 ≡ y.0 = cc in
      let rest : map (λ (p : List ℕ × A). p.0) xs ≡ map (λ (p : List ℕ × B). p.0) ys = cc in
      (ap (in_order name) (sym first) ∙ all.0, each_named name xs ys rest all.1)

  pub sorted_named : (xs : List (List ℕ × A)) (ys : List (List ℕ × B)) → map (λ p. p.0) xs ≡ map (λ p. p.0) ys → IsSorted in_order xs → IsSorted in_order ys
  sorted_named [] [] same all = tt
  sorted_named [] (y ∷ ys) same all = absurd (cc)
  sorted_named (x ∷ xs) [] same all = absurd (cc)
  sorted_named (x ∷ xs) (y ∷ ys) same all =
      let first : x.0 ≡ y.0 = cc in
      let rest : map (λ (p : List ℕ × A). p.0) xs ≡ map (λ (p : List ℕ × B). p.0) ys = cc in
      (each_named y.0 xs ys rest (subst (λ name. Each (λ other. in_order name other.0 ≡ Less) xs) first all.0), sorted_named xs ys rest all.1)

-- an update that is prepared has the nodes of some sheets
pub record IsOf (before after : Buffer) : Type 0 where
  pub sheets : SheetList
  pub nodes : after.nodes ≡ (nodes_after before.nodes sheets before.next).nodes
  pub next : after.next ≡ (nodes_after before.nodes sheets before.next).next

pub prepared_of : (before after : Buffer) (live : ℕ) (asked : Asked) → prepared before live asked ≡ Ok after → IsOf before after
prepared_of before after live asked is = go (document_after asked before.document) is
  where
    within : (document : Document) (numbered : Numbered) (b : Bool) → numbered ≡ nodes_after before.nodes document.sheets before.next
        → (if b then Err Limit else Ok (record { document = document; nodes = numbered.nodes; next = numbered.next })) ≡ Ok after → IsOf before after
    within document numbered true of at = absurd (cc)
    within document numbered false of at =
        let made : Buffer = record { document = document; nodes = numbered.nodes; next = numbered.next } in
        let same : made ≡ after = cc in record {
          sheets = document.sheets;
          nodes = ap (λ (b : Buffer). b.nodes) (sym same) ∙ ap (λ (n : Numbered). n.nodes) of;
          next = ap (λ (b : Buffer). b.next) (sym same) ∙ ap (λ (n : Numbered). n.next) of;
        }

    go : (r : Result Document Refusal) → (r >>= λ document. within_limits live document (nodes_after before.nodes document.sheets before.next)) ≡ Ok after → IsOf before after
    go (Err reason) at = absurd (cc)
    go (Ok document) at = within document (nodes_after before.nodes document.sheets before.next) _ refl at

-- an update that is prepared is the editor's, and its version can be made of the tip's
pub fits_update : (document : Knowledge) (m : Mirror) (is : IsDocument document m) (id : ℕ) (asked : Asked) (made : Preparation)
    → m.last < id → prepared document.buffer (length document.live.items) asked ≡ Ok made.after
    → AreKept document.buffer.nodes made.untouched made.after.nodes → IsSorted in_order made.after.nodes
    → ((tip : NodeList) (sheets : SheetList) (next : ℕ) → AreKnown tip next (nodes_after tip sheets next).nodes)
    → ((tip : NodeList) (sheets : SheetList) (next : ℕ) → map (λ pair. pair.0) (nodes_after tip sheets next).nodes ≡ map (λ pair. pair.0) sheets)
    → ((tip : NodeList) (sheets : SheetList) (next : ℕ) → IsSorted in_order sheets → AllDiffer (command_ids tip) → AreBelow next (command_ids tip)
    → AllDiffer (command_ids (nodes_after tip sheets next).nodes))
    → ((tip : NodeList) (sheets : SheetList) (next : ℕ) → AreBelow next (command_ids tip)
    → AreBelow (nodes_after tip sheets next).next (command_ids (nodes_after tip sheets next).nodes))
    → FitsUpdate m id asked made
fits_update document m is id asked made later done untouched sorted known names differ below = record {
  prepared = ap (λ b. if b then prepared m.buffer (length m.live) asked else Err VersionNotHigher) (lt-ltb m.last id later) ∙ whole;
  fits = record {
    kept = subst (λ ns. AreKept ns made.untouched made.after.nodes) (ap (λ (b : Buffer). b.nodes) is.buffer ∙ sym is.nodes) untouched;
    sources = subst (λ ns. HaveSources ns made.after.nodes) (sym is.nodes) (sources_kept m.buffer.nodes made.after.nodes m.buffer.next mine is.below
        (subst (λ ns. AreKnown m.buffer.nodes m.buffer.next ns) (sym of.nodes) (known m.buffer.nodes of.sheets m.buffer.next)));
    differ = subst (λ ns. AllDiffer (command_ids ns)) (sym of.nodes) (differ m.buffer.nodes of.sheets m.buffer.next
        (sorted_named made.after.nodes of.sheets (ap (map (λ (p : List ℕ × Node). p.0)) of.nodes ∙ names m.buffer.nodes of.sheets m.buffer.next) sorted) mine is.below);
  };
  below = subst (λ next. AreBelow next (command_ids made.after.nodes)) (sym of.next)
      (subst (λ ns. AreBelow (nodes_after m.buffer.nodes of.sheets m.buffer.next).next (command_ids ns)) (sym of.nodes) (below m.buffer.nodes of.sheets m.buffer.next is.below));
}
  where
    whole : prepared m.buffer (length m.live) asked ≡ Ok made.after
    whole = ap (λ n. prepared m.buffer n asked) (sym (zip_length _ document.live.items m.live is.live))
        ∙ ap (λ b. prepared b (length document.live.items) asked) (sym is.buffer) ∙ done

    of : IsOf m.buffer made.after
    of = prepared_of m.buffer made.after (length m.live) asked whole

    mine : AllDiffer (command_ids m.buffer.nodes)
    mine = subst (λ ns. AllDiffer (command_ids ns)) is.nodes is.tip.differ
