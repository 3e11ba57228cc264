use Rattle.std.proofs.Common.{ℕ, nat_eq, ap, ◌∙◌, arith}
use Rattle.command_spans.specs.Reparsing.{moved}
use Rattle.command_spans.proofs.MeetingLemmas.{meeting-told}
use Rattle.command_spans.proofs.edited.meets.Goals as goal

pub returns-clause-told : goal.returns-clause-told
returns-clause-told c =
    let was : ℕ = moved c.args.change.new_end c.args.change.old_end c.args.place in
    ap (λ (b : ℕ). nat_eq b was) c.boundary_at.ensures
    ∙ meeting-told c.args.change.old_end c.args.change.new_end c.args.place 0 c.args.len c.args.kept.now c.first_from.result (omega arith) c.requires.rising c.first_from.ensures.passed (c.first_from.ensures.reached c.args.len c.requires.within)
