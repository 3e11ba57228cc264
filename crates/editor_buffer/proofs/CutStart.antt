-- The beginning of cutting.
use Rattle.std.proofs.Common.{◌≡◌, ℕ, ◌≤◌, [], length, refl, ap, arith}
use Rattle.std.specs.List.{AllZip}
use Rattle.shared_map.specs.Pairs.{IsSorted}
use Rattle.pide_base.specs.Ids.{id_end}
use Rattle.doc_nodes.specs.Names.{in_order}
use Rattle.doc_nodes.specs.Imports.{NodeList}
use Rattle.buffer_rules.specs.Nodes.{Numbered, uncut_all, nodes_from}
use Rattle.editor_buffer.specs.Standing.{OpenList, sheets_of, Drafted}
use Rattle.editor_buffer.specs.Cutting.{whole, IsCutUpTo}
use Rattle.editor_buffer.specs.declared.cutting.Cutting.{Cutting}

-- at the beginning none is
pub cut_start : (tip : NodeList) (opened : OpenList) (nodes : NodeList) (first : ℕ) (c : Cutting) → c.opened ≡ opened → c.nodes ≡ nodes → c.next ≡ first
    → c.untouched.items ≡ [] → IsSorted in_order c.opened → IsSorted in_order c.nodes → AllZip (Drafted tip) opened nodes → 1 ≤ first → first ≤ id_end
    → IsCutUpTo tip (sheets_of opened) first 0 c
cut_start tip opened nodes first c opens nodes_are next marks sorted_open sorted all least most =
    let sheets = sheets_of opened in
    let from : nodes_from tip (uncut_all sheets) 0 sheets c.next ≡ whole tip sheets first = ap (nodes_from tip (uncut_all sheets) 0 sheets) next in
    record {
      front_open = [];
      rest_open = opened;
      front = [];
      rest = nodes;
      open_is = opens;
      nodes_is = nodes_are;
      place_is = refl;
      sorted_open = sorted_open;
      sorted = sorted;
      done = tt;
      in_force = tt;
      drafted = all;
      sheets_are = ap sheets_of opens;
      made = ap (λ (m : Numbered). m.nodes) from;
      then = ap (λ (m : Numbered). m.next) from;
      least = omega (arith, next, least);
      most = omega (arith, next, most);
      counted = ap length marks;
      kept = λ p pair mark at. absurd (cc);
    }
