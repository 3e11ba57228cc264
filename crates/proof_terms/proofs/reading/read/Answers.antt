use Rattle.std.proofs.Common.{◌≡◌, length, Err, sym, subst, rules, arith}
use Rattle.std.proofs.lemmas.Grind.{common_steps}
use Rattle.proof_terms.specs.Marks.{marks}
use Rattle.proof_terms.specs.Answers.{Told}
use Rattle.proof_terms.specs.Grammar.{IsTerm}
use Rattle.proof_terms.specs.declared.fault.TermFault.TheVariants.{Malformed}
use Rattle.proof_terms.proofs.AnsweredLemmas.{AnswersTo}
use Rattle.proof_terms.proofs.GivenLemmas.{fault_told, whole_answers, left_answers}
use Rattle.proof_terms.proofs.reading.read.Goals as goal

pub returns-in_err-term : goal.returns-in_err-term
returns-in_err-term c = fault_told c.deepest.result (marks c.args.source.now c.args.tokens.now) _ c.in_err-term.field-0.0 c.from_residual.result c.deepest.ensures c.from_residual.ensures.1 c.in_err-term.ensures

pub returns-then-is_empty : goal.returns-then-is_empty
returns-then-is_empty c =
    let none : length c.term.new.self.rest.now ≡ 0 = search rules in
    subst (λ n. IsTerm n (marks c.args.source.now c.args.tokens.now) c.in_ok-term.term) c.deepest.ensures
    (whole_answers c.deepest.result (marks c.args.source.now c.args.tokens.now) c.in_ok-term.term c.term.new.self.source.now c.term.new.self.rest.now c.in_ok-term.ensures none)

pub returns-else-is_empty : goal.returns-else-is_empty
returns-else-is_empty c =
    let some : length c.term.new.self.rest.now ≡ 0 → ⊥ = λ e. grind (arith, common_steps) in
    subst (λ e. Told (marks c.args.source.now c.args.tokens.now) (Err e)) (sym c.malformed.ensures)
    (subst (λ n. AnswersTo n (marks c.args.source.now c.args.tokens.now) (Err Malformed)) c.deepest.ensures
    (left_answers c.deepest.result (marks c.args.source.now c.args.tokens.now) _ c.term.new.self.source.now c.term.new.self.rest.now c.in_ok-term.ensures some))
