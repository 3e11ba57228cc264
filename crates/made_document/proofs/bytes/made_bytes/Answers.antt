-- Three messages, one after the other.
use Rattle.std.proofs.Common.{length, ◌≤◌, sym, subst, []}
use Rattle.yxml.specs.Normal.{IsNormal}
use Rattle.xml_codec.specs.Data.{list_body}
use Rattle.message_values.specs.declared.editor_message.EditorMessage.TheVariants as asks
use Rattle.message_values.specs.declared.mode.Mode.TheVariants.{Serve}
use Rattle.made_document.specs.Asking.{Adds}
use Rattle.made_document.specs.Messages.{first_items, last_version, second_items}
use Rattle.made_document.proofs.Asked.{three_asked}
use Rattle.made_document.proofs.Fitting.{first_all_fit, second_all_fit}
use Rattle.made_document.proofs.Nesting.{BodyLaws, first_normal, second_normal}
use Rattle.made_document.proofs.Short.{first_short, second_short}
use Rattle.byte_message.specs.Limits.{longest_chunk}
use Rattle.yxml.specs.Spelling.{yxml}
use Rattle.made_document.proofs.bytes.made_bytes.Goals as goal

pub add_update-requires-clause-normal : goal.add_update-requires-clause-normal
add_update-requires-clause-normal c =
    let laws : BodyLaws = record {
      bool = c.bodies_are_normal.ensures.bool;
      string = c.bodies_are_normal.ensures.string;
      pair = c.bodies_are_normal.ensures.pair;
      list = c.bodies_are_normal.ensures.list;
      option = c.bodies_are_normal.ensures.option;
      variant = c.bodies_are_normal.ensures.variant;
      bool_high = c.bodies_nest.ensures.bool;
      string_high = c.bodies_nest.ensures.string;
      pair_high = c.bodies_nest.ensures.pair;
      list_high = c.bodies_nest.ensures.list;
      option_high = c.bodies_nest.ensures.option;
      variant_high = c.bodies_nest.ensures.variant;
    } in
    subst (λ items. IsNormal (list_body items)) (sym c.in_ok-first_items.ensures) (first_normal laws c.args.count c.requires.few)

pub add_update-requires-2-clause-normal : goal.add_update-requires-2-clause-normal
add_update-requires-2-clause-normal c =
    let laws : BodyLaws = record {
      bool = c.bodies_are_normal.ensures.bool;
      string = c.bodies_are_normal.ensures.string;
      pair = c.bodies_are_normal.ensures.pair;
      list = c.bodies_are_normal.ensures.list;
      option = c.bodies_are_normal.ensures.option;
      variant = c.bodies_are_normal.ensures.variant;
      bool_high = c.bodies_nest.ensures.bool;
      string_high = c.bodies_nest.ensures.string;
      pair_high = c.bodies_nest.ensures.pair;
      list_high = c.bodies_nest.ensures.list;
      option_high = c.bodies_nest.ensures.option;
      variant_high = c.bodies_nest.ensures.variant;
    } in
    subst (λ items. IsNormal (list_body items)) (sym c.in_ok-second_items.ensures) (second_normal laws c.args.count c.requires.few)

pub add_update-requires-clause-short : goal.add_update-requires-clause-short
add_update-requires-clause-short c =
    subst (λ items. length (yxml (list_body items)) ≤ longest_chunk) (sym c.in_ok-first_items.ensures) (first_short c.args.count c.requires.few)

pub add_update-requires-2-clause-short : goal.add_update-requires-2-clause-short
add_update-requires-2-clause-short c =
    subst (λ items. length (yxml (list_body items)) ≤ longest_chunk) (sym c.in_ok-second_items.ensures) (second_short c.args.count c.requires.few)

pub returns : goal.returns
returns c =
    let first = c.in_ok-add_update.ensures (first_items c.args.count) c.in_ok-first_items.ensures (first_all_fit c.args.count c.requires.few) in
    three_asked c.written_is_read.ensures.spelled c.add_update.new.out.items c.add_update-2.new.out.items c.add_settle.new.out.items
    (asks.Update 1 (first_items c.args.count) []) (asks.Update last_version (second_items c.args.count) []) (asks.Settle last_version)
    (subst (λ before. Adds Serve before c.add_update.new.out.items (asks.Update 1 (first_items c.args.count) [])) c.new-bytes.ensures.items first)
    (c.in_ok-add_update-2.ensures (second_items c.args.count) c.in_ok-second_items.ensures (second_all_fit c.args.count c.requires.few))
    c.in_ok-add_settle.ensures
