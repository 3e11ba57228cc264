-- What cutting one node gives: a node that stays, one that is cut, and a refusal.
use Rattle.std.proofs.Common.{◌≡◌, ℕ, ◌+◌, ◌-◌, ◌<◌, ◌≤◌, List, [], length, map, Option, Some, None, Ok, Err, sym, ap, subst, ◌∙◌, arith}
use Rattle.std.specs.Option.{option_map_or}
use Rattle.std.specs.List.{zip}
use Rattle.std.proofs.lemmas.List.{length-map}
use Rattle.pide_base.specs.Ids.{id_end}
use Rattle.pide_base.specs.declared.range.Range.{Range}
use Rattle.doc_nodes.specs.declared.node.Entry.{Entry}
use Rattle.doc_nodes.specs.declared.node.Node.{Node}
use Rattle.doc_nodes.specs.Imports.{NodeList}
use Rattle.doc_nodes.specs.Needs.{AliasList}
use Rattle.buffer_rules.specs.declared.sheet.Sheet.{Sheet}
use Rattle.buffer_rules.specs.Cuts.{source, commands_of}
use Rattle.buffer_rules.specs.Numbers.{Command, Kept, kept_runs, ids_of, new_count}
use Rattle.buffer_rules.specs.Nodes.{uncut, entry, ranges_in, sources, cut, before_in}
use Rattle.editor_buffer.specs.Commands.{sources_in, commands_in}
use Rattle.editor_buffer.proofs.KnownCommands.{seconds}
use Rattle.editor_buffer.specs.OpenSheet.{OpenSheet}
use Rattle.editor_buffer.specs.declared.fault.PrepareError.{PrepareError}
use Rattle.editor_buffer.specs.declared.fault.PrepareError.TheVariants.{Refused, NoMemory}
use Rattle.editor_buffer.specs.Standing.{bare, IsCutFrom, DraftedUnder}
use Rattle.editor_buffer.specs.CutNodes.{next_after, GivesCut}
use Rattle.editor_buffer.specs.Cutting.{IsCutTo, GivesRemade}
use Rattle.editor_buffer.specs.declared.cut.CutNode.{CutNode}
use Rattle.editor_buffer.proofs.CutLemmas.{kept_cut, cut_so}

module _ (sheet : Sheet) (aliases : AliasList) where
  -- the node of entries that are made of a sheet's ranges
  pub node_so : (node made : Node) (before : List Command) (next : ℕ) (rs : List Range) (es : List Entry)
      → bare node ≡ uncut sheet → rs ≡ ranges_in sheet aliases
      → es ≡ map (entry sheet aliases) (zip (ids_of before (map (source sheet.text) rs) next) rs)
      → made ≡ record node { entries = es } → made ≡ cut sheet aliases before next
  node_so node made before next rs es is places filled e =
      let at : List Range → List Entry = λ qs. map (entry sheet aliases) (zip (ids_of before (map (source sheet.text) qs) next) qs) in
      e ∙ ap (λ (n : Node). let m : Node = record n { entries = es } in m) is
      ∙ ap (λ (xs : List Entry). let m : Node = record (uncut sheet) { entries = xs } in m) (filled ∙ ap at places)

  -- the next id behind those that are new
  pub next_so : (text : List ℕ) (es : List Entry) (rs : List Range) (k : Kept) (next fresh : ℕ)
      → rs ≡ ranges_in sheet aliases → k ≡ kept_runs (sources_in text es) (map (source sheet.text) rs) → fresh ≡ length rs - k.front - k.back
      → next + fresh ≡ next_after sheet aliases (commands_in text es) next
  next_so text es rs k next fresh places is_kept is_fresh =
      let now = map (source sheet.text) rs in
      let j = kept_runs (sources_in text es) now in
      let count : fresh ≡ new_count (commands_in text es) (sources sheet aliases) =
      is_fresh
      ∙ ap (λ (i : Kept). length rs - i.front - i.back) is_kept
      ∙ ap (λ n. n - j.front - j.back) (sym (length-map rs (source sheet.text)))
      ∙ ap (λ olds. length now - (kept_runs olds now).front - (kept_runs olds now).back)
      (sym (seconds text es))
      ∙ ap (λ qs. new_count (commands_in text es) (map (source sheet.text) qs)) places in
      ap (λ n. next + n) count

module _ (tip : NodeList) (name : List ℕ) (opened : OpenSheet) (node : Node) (aliases : AliasList) (next : ℕ) where
  -- a node that was cut under the same aliases stays
  pub stay_so : opened.cut_under ≡ Some aliases → DraftedUnder tip opened.cut_under name opened.sheet node → next ≤ id_end
      → GivesRemade tip name opened node aliases next (Ok None)
  stay_so under drafted most =
      let so : DraftedUnder tip (Some aliases) name opened.sheet node = subst (λ u. DraftedUnder tip u name opened.sheet node) under drafted in
      let commands : before_in tip name ≡ commands_of node = ap (λ (o : Option Node). option_map_or commands_of o []) so.1 in
      let same = kept_cut opened.sheet aliases node next so.0 in
      let none : new_count (before_in tip name) (sources opened.sheet aliases) ≡ 0 =
      ap (λ before. new_count before (sources opened.sheet aliases)) commands ∙ same.1 in
      let to : IsCutTo tip name opened aliases next node next =
      record {
        node_is = sym same.0 ∙ ap (λ before. cut opened.sheet aliases before next) (sym commands);
        next_is = omega (arith, none);
        within = most;
        cut_from = so.0;
      }
      in
      (to, under, so.1)

  -- another is cut
  pub made_so : (before : List Command) (made : CutNode) → GivesCut opened.sheet aliases before next (Ok made) → before ≡ before_in tip name
      → length (ids_of (before_in tip name) (sources opened.sheet aliases) next) ≡ length (sources opened.sheet aliases)
      → IsCutTo tip name opened aliases next made.node made.next
  made_so before made so is counted =
      let node_is : made.node ≡ cut opened.sheet aliases (before_in tip name) next = so.0 ∙ ap (λ b. cut opened.sheet aliases b next) is in
      record {
        node_is = node_is;
        next_is = so.1 ∙ ap (λ b. next_after opened.sheet aliases b next) is;
        within = so.2;
        cut_from = subst (λ n. IsCutFrom opened.sheet aliases n) (sym node_is) (cut_so opened.sheet aliases (before_in tip name) next counted);
      }

  -- what is told where it isn't
  pub refuse_so : (before : List Command) (e : PrepareError) → GivesCut opened.sheet aliases before next (Err e) → before ≡ before_in tip name
      → GivesRemade tip name opened node aliases next (Err e)
  refuse_so before (Refused refusal) so is = (so.0, subst (λ b. id_end < next_after opened.sheet aliases b next) is so.1)
  refuse_so before NoMemory so is = tt
