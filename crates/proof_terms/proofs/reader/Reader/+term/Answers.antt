use Rattle.proof_terms.proofs.GivenLemmas.{start_halts, ruled_term, gives_along}
use Rattle.proof_terms.proofs.reader.Reader.+term.Goals as goal

pub term-returns-in_err-cite : goal.term-returns-in_err-cite
term-returns-in_err-cite t c = start_halts c.args.left _ _ _ c.in_err-cite.field-0.0 c.from_residual.result c.from_residual.ensures.1 c.in_err-cite.ensures

pub term-returns-else-left-eq0 : goal.term-returns-else-left-eq0
term-returns-else-left-eq0 t c =
    gives_along c.ruled.result _ _ _
    (ruled_term c.args.left _ _ c.in_ok-cite.field-0 c.in-Rule.rule c.if-left-eq0.false c.in_ok-cite.ensures c.in-Rule.is)
    c.ruled.ensures
