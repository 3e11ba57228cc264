use Rattle.nj_syntax.proofs.ClosedLemmas.{closed_term}
use Rattle.nj_syntax.proofs.parsing.parse_term.Goals as goal

pub without_places-requires : goal.without_places-requires
without_places-requires c = closed_term c.args.text.now c.in-Ok.argument c.in-Ok.ensures
