-- One part more.
use Rattle.std.proofs.Common.{arith}
use Rattle.text_words.proofs.KnownLists.{rest_at}
use Rattle.made_document.proofs.Counted.{part_counted}
use Rattle.made_document.proofs.tally.Tally.add_parts.Goals as goal

pub parts-preserved : goal.parts-preserved
parts-preserved c = part_counted c.args.parts.now c.parts.part-index c.part-item.result c.args.self.now c.parts.self c.add.new.self
    (rest_at c.args.parts.now c.parts.part-index c.part-item.result (omega (arith, c.parts-test.true)) c.part-item.is) c.parts.invariant c.in_ok-add.ensures
