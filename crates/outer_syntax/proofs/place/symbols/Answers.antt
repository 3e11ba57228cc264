use Rattle.std.proofs.Common.{sym, subst}
use Rattle.outer_syntax.specs.Symbols.{AreSymbolsBetween}
use Rattle.outer_syntax.proofs.SymbolLemmas.{between-push}
use Rattle.outer_syntax.proofs.place.symbols.Goals as goal

pub loop-start-preserved : goal.loop-start-preserved
loop-start-preserved c = (
  c.symbol_end-stop.ensures.within,
  subst (AreSymbolsBetween c.args.text.now 0 c.symbol_end-stop.result) (sym (c.in_ok-push.ensures.items)) (between-push c.args.text.now 0 c.loop-start.start c.symbol_end-stop.result _ c.loop-start.invariant.1 c.symbol_end-stop.ensures.at),
)
