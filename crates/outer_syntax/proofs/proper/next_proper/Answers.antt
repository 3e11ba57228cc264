use Rattle.std.proofs.Common.{sym, ◌∙◌}
use Rattle.outer_syntax.specs.Words.{is_in_force}
use Rattle.outer_syntax.proofs.ProperLemmas.{token-inside, proper-found, proper-passed}
use Rattle.outer_syntax.proofs.proper.next_proper.Goals as goal

pub returns-then-is_proper : goal.returns-then-is_proper
returns-then-is_proper c =
    let is_command = is_in_force c.args.names.now in
    let within = c.loop-token.invariant.0 in (
      token-inside is_command c.args.text.now c.loop-token.place c.in-Some.token within c.in-Some.ensures,
      c.loop-token.invariant.1 ∙ proper-found is_command c.args.text.now c.loop-token.place c.in-Some.token within c.in-Some.ensures (sym c.if-is_proper.ensures),
    )

pub loop-token-preserved : goal.loop-token-preserved
loop-token-preserved c =
    let is_command = is_in_force c.args.names.now in
    let within = c.loop-token.invariant.0 in (
      token-inside is_command c.args.text.now c.loop-token.place c.in-Some.token within c.in-Some.ensures,
      c.loop-token.invariant.1 ∙ proper-passed is_command c.args.text.now c.loop-token.place c.in-Some.token within c.in-Some.ensures (sym c.if-is_proper.ensures),
    )
