use Rattle.std.proofs.Common.{◌≡◌, true, false, cond, map, drop, Some, sym, ap, ◌∙◌, arith, rules}
use Rattle.std.specs.Option.{is_some}
use Rattle.std.specs.Ordering.{is_eq}
use Rattle.shared_map.specs.Pairs.{found}
use Rattle.doc_nodes.specs.Names.{in_order}
use Rattle.message_values.specs.declared.item.Item.{Item}
use Rattle.editor_buffer.proofs.NameSets.{names_more, twice_here, twice_none, names_before}
use Rattle.editor_buffer.proofs.twice.names_twice.Goals as goal

pub returns-then-is_some : goal.returns-then-is_some
returns-then-is_some c =
    let items = c.args.items.now in
    let item : Item = c.index-items-at.result in
    let there : is_some (found in_order item.node c.back.later) ≡ true = search rules in
    sym (twice_here items c.back.at item (omega arith) c.back.invariant.within c.index-items-at.is (sym (c.back.invariant.names item.node) ∙ there))

pub back-preserved : goal.back-preserved
back-preserved c =
    let items = c.args.items.now in
    let item : Item = c.index-items-at.result in
    let other : is_some (found in_order item.node c.back.later) ≡ false = search rules in
    let key : c.in_ok-clone.field-0 ≡ item.node = search rules in
    record {
      within = omega arith;
      none = twice_none items c.back.at item (omega arith) c.back.invariant.within c.index-items-at.is
          (sym (c.back.invariant.names item.node) ∙ other) c.back.invariant.none;
      names = names_before items c.back.at item c.set.new.self (omega arith) c.back.invariant.within c.index-items-at.is
          (names_more c.back.later c.set.new.self (map (λ (i : Item). i.node) (drop c.back.at items)) item.node c.back.invariant.names
          (λ other. c.in_ok-set.ensures.found other
          ∙ ap (λ k. cond (is_eq (in_order k other)) (Some tt) (found in_order other c.back.later)) key));
    }
