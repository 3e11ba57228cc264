-- From what holds of the nodes that an update makes to what the core asks.
use Rattle.std.proofs.Common.{◌≡◌, ℕ, ◌+◌, ◌<◌, ◌≤◌, Bool, true, false, ◌||◌, List, [], ◌∷◌, length, map, Ok, refl, sym, ap, subst, ◌∙◌, arith}
use Rattle.std.proofs.lemmas.Bool.{or_parts, ltb-false}
use Rattle.std.proofs.lemmas.List.{length-map}
use Rattle.std.specs.Prelude.{if◌then◌else◌, nat_lt}
use Rattle.std.specs.List.{AllByRecursion, list_any}
use Rattle.pide_base.specs.Ids.{id_end}
use Rattle.pide_base.specs.Limits.{most_nodes, most_scalars}
use Rattle.shared_map.specs.Pairs.{IsSorted}
use Rattle.doc_nodes.specs.Names.{in_order}
use Rattle.doc_nodes.specs.Aliases.{aliases_at}
use Rattle.doc_nodes.specs.Imports.{NodeList}
use Rattle.core_rules.specs.exec_rules_below.Assigning.{greater}
use Rattle.core_rules.specs.Assigned.{command_ids}
use Rattle.core_rules.specs.Doc.{Doc, greatest, assignment_of, updated_doc}
use Rattle.core_rules.specs.Updates.{AllDiffer, AreRising, FitsUpdate}
use Rattle.buffer_rules.specs.Numbers.{new_count}
use Rattle.buffer_rules.specs.Sheets.{SheetList}
use Rattle.buffer_rules.specs.Updates.{Asked}
use Rattle.buffer_rules.specs.Nodes.{sources, before_in, nodes_from, uncut_all, nodes_after}
use Rattle.buffer_rules.specs.Preparing.{Buffer, is_long, prepared}
use Rattle.buffer_laws.specs.Fitting.{Agrees}
use Rattle.buffer_laws.specs.Known.{AreBelow, AreKnown, HasOwnHeader, IsBare}
use Rattle.buffer_laws.proofs.Fits.{all_fit}
use Rattle.buffer_laws.proofs.PreparedSheets.{Prepared, taken_apart, same_keys}

-- the laws of the nodes that an update makes
pub record NodeLaws : Type 0 where
  pub names : (tip : NodeList) (sheets : SheetList) (next : ℕ)
      → map (λ pair. pair.0) (nodes_after tip sheets next).nodes ≡ map (λ pair. pair.0) sheets
  pub differ : (tip : NodeList) (sheets : SheetList) (next : ℕ) → IsSorted in_order sheets → AllDiffer (command_ids tip) → AreBelow next (command_ids tip)
      → AllDiffer (command_ids (nodes_after tip sheets next).nodes)
  pub below : (tip : NodeList) (sheets : SheetList) (next : ℕ) → AreBelow next (command_ids tip)
      → AreBelow (nodes_after tip sheets next).next (command_ids (nodes_after tip sheets next).nodes)
  pub rises : (tip : NodeList) (sheets : SheetList) (next : ℕ) → next ≤ (nodes_after tip sheets next).next
  pub known : (tip : NodeList) (sheets : SheetList) (next : ℕ) → AreKnown tip next (nodes_after tip sheets next).nodes
  pub rising : (tip : NodeList) (sheets : SheetList) (next : ℕ)
      → AllByRecursion (λ pair. AreRising 0 (length pair.1.text) pair.1.entries) (nodes_after tip sheets next).nodes
  pub bare : (tip : NodeList) (sheets : SheetList) (next : ℕ) → AllByRecursion (λ pair. IsBare pair.1) (nodes_after tip sheets next).nodes
  pub headers : (tip : NodeList) (sheets : SheetList) (next : ℕ) → AllByRecursion (λ pair. HasOwnHeader pair.1) (nodes_after tip sheets next).nodes

-- no text is too long
short_texts : (tip all : NodeList) (p : ℕ) (pairs : SheetList) (next : ℕ) → list_any (λ pair. is_long pair.1.text) pairs ≡ false
    → AllByRecursion (λ pair. length pair.1.text ≤ most_scalars) (nodes_from tip all p pairs next).nodes
short_texts tip all p [] next none = tt
short_texts tip all p (pair ∷ pairs) next none =
    let parts = or_parts (is_long pair.1.text) (list_any (λ x. is_long x.1.text) pairs) none in (
      ltb-false most_scalars (length pair.1.text) parts.0,
      short_texts tip all (p + 1) pairs (next + new_count (before_in tip pair.0) (sources pair.1 (aliases_at all p).pairs)) parts.1,
    )

greater_below : (b : Bool) (k n m : ℕ) → k < m → n < m → (if b then n else k) < m
greater_below true k n m one other = other
greater_below false k n m one other = one

greatest_below : (m n : ℕ) (xs : List ℕ) → n < m → AreBelow m xs → greatest n xs < m
greatest_below m n [] less all = less
greatest_below m n (x ∷ xs) less all = greatest_below m (greater n x) xs (greater_below (nat_lt n x) n x m less all.0) all.1

module _ (laws : NodeLaws) (b b' : Buffer) (d : Doc) (live id : ℕ) (asked : Asked) (agrees : Agrees b d) (e : prepared b live asked ≡ Ok b') where
  prep : Prepared b b' asked
  prep = taken_apart b b' live asked e

  abbrev sheets : SheetList
  sheets = b'.document.sheets

  abbrev made : NodeList
  made = (nodes_after b.nodes sheets b.next).nodes

  sorted : IsSorted in_order sheets
  sorted = prep.sorted agrees.names

  differ : AllDiffer (command_ids made)
  differ = laws.differ b.nodes sheets b.next sorted agrees.differ agrees.below

  -- an update that is prepared fits
  pub fits : d.last < id → (assignment_of d b'.nodes b'.document.blobs).next ≤ id_end → FitsUpdate d id b'.nodes b'.document.blobs
  fits newer numbers =
      let texts = or_parts ((nat_lt most_nodes (length sheets) || nat_lt most_nodes (length b'.document.blobs)) || list_any (λ x. is_long x.1.text) sheets)
      (list_any (λ x. is_long x.1) b'.document.blobs) prep.small in
      let counts = or_parts (nat_lt most_nodes (length sheets) || nat_lt most_nodes (length b'.document.blobs)) (list_any (λ x. is_long x.1.text) sheets) texts.0 in
      let count = or_parts (nat_lt most_nodes (length sheets)) (nat_lt most_nodes (length b'.document.blobs)) counts.0 in
      let named = laws.names b.nodes sheets b.next in
      let as_many : length made ≡ length sheets =
      sym (length-map made (λ (pair : List ℕ × _). pair.0)) ∙ ap length named ∙ length-map sheets (λ (pair : List ℕ × _). pair.0) in
      let few : length made ≤ most_nodes = omega (arith, as_many, ltb-false most_nodes (length sheets) count.0) in
      let back : made ≡ b'.nodes = sym prep.nodes in
      record {
        newer = newer;
        names = subst (IsSorted in_order) back (same_keys made sheets named sorted);
        count = subst (λ (ns : NodeList). length ns ≤ most_nodes) back few;
        nodes_fit = subst (AllByRecursion _) back (all_fit b d agrees made (laws.known b.nodes sheets b.next) (laws.headers b.nodes sheets b.next)
            (laws.rising b.nodes sheets b.next) (laws.bare b.nodes sheets b.next) (short_texts b.nodes (uncut_all sheets) 0 sheets b.next counts.1));
        commands = subst (λ (ns : NodeList). AllDiffer (command_ids ns)) back differ;
        numbers = numbers;
      }

  -- and both documents agree after it
  pub kept : (opened : ℕ → Bool) → Agrees b' (updated_doc opened d id b'.nodes b'.document.blobs (assignment_of d b'.nodes b'.document.blobs))
  kept opened =
      let back : made ≡ b'.nodes = sym prep.nodes in
      let below : AreBelow b'.next (command_ids b'.nodes) =
      subst (λ n. AreBelow n (command_ids b'.nodes)) (sym prep.next)
      (subst (λ (ns : NodeList). AreBelow (nodes_after b.nodes sheets b.next).next (command_ids ns)) back (laws.below b.nodes sheets b.next agrees.below)) in
      record {
        names = sorted;
        nodes = refl;
        differ = subst (λ (ns : NodeList). AllDiffer (command_ids ns)) back differ;
        below = below;
        first = greatest_below b'.next d.commands (command_ids b'.nodes)
            (omega (arith, agrees.first, laws.rises b.nodes sheets b.next, prep.next)) below;
        headers = subst (AllByRecursion _) back (laws.headers b.nodes sheets b.next);
      }
