use Rattle.std.proofs.Common.{arith}
use Rattle.command_spans.proofs.ReadOn.{no_token, boundary-is, boundary-end}
use Rattle.command_spans.proofs.edited.first_from.Goals as goal

pub returns-else-tokens-number-clause-reached : goal.returns-else-tokens-number-clause-reached
returns-else-tokens-number-clause-reached c len within = omega (arith, c.if-tokens-number.false, boundary-is len c.args.tokens.now c.loop-number.number no_token c.loop-number-test.true)

pub returns-after-loop-number-clause-reached : goal.returns-after-loop-number-clause-reached
returns-after-loop-number-clause-reached c len within = omega (arith, within, boundary-end len c.args.tokens.now c.loop-number.number (omega arith))
