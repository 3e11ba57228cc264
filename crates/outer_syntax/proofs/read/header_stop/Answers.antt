use Rattle.std.proofs.Common.{◌≡◌, ◌≤◌, ◌∙◌, length, false, refl, sym, ap, arith, length-drop}
use Rattle.outer_syntax.specs.Stages.{after_token, is_ended}
use Rattle.outer_syntax.specs.declared.stage.Stage.{Stage}
use Rattle.outer_syntax.specs.declared.stage.Stage.TheVariants.{Absent}
use Rattle.outer_syntax.specs.Reading.{empty_reading, advanced}
use Rattle.outer_syntax.proofs.ReadLemmas.{read-start, read-on, stage-next, not-ended}
use Rattle.outer_syntax.proofs.StopLemmas.{read-stop, absent-stop, end-stop}
use Rattle.outer_syntax.proofs.read.header_stop.Goals as goal
use Rattle.outer_syntax.proofs.read.header_stop.Goals.{After-after_token-stage}

pub loop-token-init : goal.loop-token-init
loop-token-init c = (omega arith, empty_reading, refl, read-start c.args.text.now)

-- the token ends within the text
within : (c : After-after_token-stage) → c.in-Some.token.range.stop ≤ length c.args.text.now
within c =
    let at = c.in-Some.ensures in
    omega (arith, at.0, at.1.1, at.1.2.longest.within, length-drop c.in-Some.token.range.start c.args.text.now, c.loop-token.invariant.0)

-- the stage is that of what has been read
stage : (c : After-after_token-stage) → after_token c.args.text.now c.loop-token.invariant.1.stage c.in-Some.token ≡ c.after_token-stage.result
stage c = ap (λ (s : Stage). after_token c.args.text.now s c.in-Some.token) c.loop-token.invariant.2 ∙ sym c.after_token-stage.ensures

stage-read : (c : After-after_token-stage) → (advanced c.args.text.now c.in-Some.token c.loop-token.invariant.1).stage ≡ c.after_token-stage.result
stage-read c = stage-next c.args.text.now c.loop-token.place c.loop-token.invariant.1 c.in-Some.token c.loop-token.invariant.3 c.in-Some.ensures ∙ stage c

pub returns-in-Ended : goal.returns-in-Ended
returns-in-Ended c =
    let here = (goal.at.returns-in-Ended c).After-after_token-stage in
    sym (read-stop c.args.text.now c.loop-token.place c.loop-token.invariant.1 c.in-Some.token c.loop-token.invariant.3 c.in-Some.ensures (within here) (stage here ∙ c.in-Ended.is))

pub returns-in-Absent : goal.returns-in-Absent
returns-in-Absent c =
    let text = c.args.text.now in
    let here = (goal.at.returns-in-Absent c).After-after_token-stage in
    let r = advanced text c.in-Some.token c.loop-token.invariant.1 in
    let absent : r.stage ≡ Absent = stage-read here ∙ c.in-Absent.is in
    sym (absent-stop text c.in-Some.token.range.stop r (read-on text c.loop-token.place c.loop-token.invariant.1 c.in-Some.token c.loop-token.invariant.3 c.in-Some.ensures (ap is_ended absent)) (within here) absent)

pub loop-token-preserved : goal.loop-token-preserved
loop-token-preserved c =
    let text = c.args.text.now in
    let here = (goal.at.loop-token-preserved c).After-after_token-stage in
    let r = advanced text c.in-Some.token c.loop-token.invariant.1 in
    let on : is_ended r.stage ≡ false = ap is_ended (stage-read here) ∙ not-ended _ c.in_default-stage.not-Ended in
    (within here, r, stage-read here, read-on text c.loop-token.place c.loop-token.invariant.1 c.in-Some.token c.loop-token.invariant.3 c.in-Some.ensures on)

pub returns : goal.returns
returns c = sym (end-stop c.args.text.now c.loop-token.place c.loop-token.invariant.1 c.loop-token.invariant.3 c.in_default.ensures)
