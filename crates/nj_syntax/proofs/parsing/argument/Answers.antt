use Rattle.std.proofs.Common.{[], reverse, ap}
use Rattle.nj_syntax.specs.declared.state.Mode.{Mode}
use Rattle.nj_syntax.specs.Answers.{IsTerm}
use Rattle.nj_syntax.specs.Steps.{term_at}
use Rattle.nj_syntax.specs.Seen.{seen_end}
use Rattle.nj_syntax.proofs.Reading.{found_answers, fault_answers}
use Rattle.nj_syntax.proofs.Readers.{term_reader}
use Rattle.nj_syntax.proofs.parsing.argument.Goals as goal

pub returns : goal.returns
returns c = found_answers IsTerm (Mode.Argument, []) term_at term_reader (Mode.Argument, reverse c.new.result) c.args.text.now
    (ap (λ p. (Mode.Argument, reverse p)) c.new.ensures) (seen_end c.in_ok-end.end) c.term.result c.ended.result
    c.in_ok-end.ensures c.term.ensures c.ended.ensures

pub returns-in_err-end : goal.returns-in_err-end
returns-in_err-end c = fault_answers IsTerm (Mode.Argument, []) term_at term_reader (Mode.Argument, reverse c.new.result) c.args.text.now
    (ap (λ p. (Mode.Argument, reverse p)) c.new.ensures) seen_end c.in_err-end.field-0.0 c.from_residual.result
    c.from_residual.ensures.1 c.in_err-end.ensures
