use Rattle.std.proofs.Common.{map, ap, ◌∙◌, rules}
use Rattle.snapshots.specs.Seen.{seen}
use Rattle.symbol_markup.specs.Places.{symbol_range}
use Rattle.symbol_markup.proofs.ToldSoFar.{told, told-more}
use Rattle.symbol_markup.proofs.told.in_symbols.Goals as goal

pub loop-shown-preserved : goal.loop-shown-preserved
loop-shown-preserved c =
    told-more c.args.text.now c.args.reports.now c.loop-shown.shown-index c.shown-item.result c.range.result
    (map seen c.loop-shown.told.items) (map seen c.add_filled.new.told.items) (told c.args.text.now c.args.reports.now)
    (search rules) c.shown-item.is (c.range.ensures ∙ ap (λ t. symbol_range t c.shown-item.result.range) c.in_ok-places.ensures) c.in_ok-add_filled.ensures c.loop-shown.invariant
