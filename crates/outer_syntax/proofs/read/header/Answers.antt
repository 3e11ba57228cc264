use Rattle.std.proofs.Common.{◌≡◌, ◌≤◌, ◌∙◌, length, sym, ap, subst, arith, false, length-drop}
use Rattle.outer_syntax.specs.Stages.{is_ended}
use Rattle.outer_syntax.specs.declared.stage.Stage.TheVariants.{Absent}
use Rattle.outer_syntax.specs.Headers.{HasHeader}
use Rattle.outer_syntax.specs.Reading.{advanced}
use Rattle.outer_syntax.specs.declared.read.Reading.{Reading}
use Rattle.outer_syntax.proofs.ReadLemmas.{IsRead, read-start, read-on, read-header, read-absent, read-end, not-ended}
use Rattle.outer_syntax.proofs.read.header.Goals as goal
use Rattle.outer_syntax.proofs.read.header.Goals.{In_ok-advance}

pub loop-token-init : goal.loop-token-init
loop-token-init c = (omega arith, subst (IsRead c.args.text.now 0) (sym c.new-reading.ensures) (read-start c.args.text.now))

-- the token ends within the text
within : (c : In_ok-advance) → c.in-Some.token.range.stop ≤ length c.args.text.now
within c =
    let at = c.in-Some.ensures in
    omega (arith, at.0, at.1.1, at.1.2.longest.within, length-drop c.in-Some.token.range.start c.args.text.now, c.loop-token.invariant.0)

pub returns-in-Ended : goal.returns-in-Ended
returns-in-Ended c =
    let same = c.in_ok-advance.ensures in
    subst (λ (r : Reading). HasHeader c.args.text.now r.header) (sym same)
    (read-header c.args.text.now c.loop-token.place c.loop-token.reading c.in-Some.token c.loop-token.invariant.1 c.in-Some.ensures (within (goal.at.returns-in-Ended c).In_ok-advance) (ap (λ (r : Reading). r.stage) (sym same) ∙ c.in-Ended.is))

pub returns-in-Absent : goal.returns-in-Absent
returns-in-Absent c =
    let text = c.args.text.now in
    let stage : (advanced text c.in-Some.token c.loop-token.reading).stage ≡ Absent = ap (λ (r : Reading). r.stage) (sym c.in_ok-advance.ensures) ∙ c.in-Absent.is in
    read-absent text c.in-Some.token.range.stop (advanced text c.in-Some.token c.loop-token.reading)
    (read-on text c.loop-token.place c.loop-token.reading c.in-Some.token c.loop-token.invariant.1 c.in-Some.ensures (ap is_ended stage))
    (within (goal.at.returns-in-Absent c).In_ok-advance) stage

pub loop-token-preserved : goal.loop-token-preserved
loop-token-preserved c =
    let text = c.args.text.now in
    let same = c.in_ok-advance.ensures in
    let on : is_ended (advanced text c.in-Some.token c.loop-token.reading).stage ≡ false = ap (λ (r : Reading). is_ended r.stage) (sym same) ∙ not-ended _ c.in_default-stage.not-Ended in (
      within (goal.at.loop-token-preserved c).In_ok-advance,
      subst (IsRead text c.in-Some.token.range.stop) (sym same) (read-on text c.loop-token.place c.loop-token.reading c.in-Some.token c.loop-token.invariant.1 c.in-Some.ensures on),
    )

pub returns : goal.returns
returns c = read-end c.args.text.now c.loop-token.place c.loop-token.reading c.loop-token.invariant.1 c.in_default.ensures
