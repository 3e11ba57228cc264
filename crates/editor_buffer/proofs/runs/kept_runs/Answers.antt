use Rattle.std.proofs.Common.{◌≡◌, ◌∙◌, drop}
use Rattle.buffer_rules.specs.Numbers.{equal_front, equal_back}
use Rattle.editor_buffer.proofs.EqualRuns.{counted_front, counted_back}
use Rattle.editor_buffer.proofs.runs.kept_runs.Goals as goal

pub returns-clause-value : goal.returns-clause-value
returns-clause-value c =
    let before = c.args.before.now in
    let now = c.args.now.now in
    let front = c.equal_front-front.result in
    let longest : front ≡ equal_front before now = c.equal_front-front.ensures.value ∙ counted_front before now in
    let left : c.equal_back-back.result ≡ equal_back (drop front before) (drop front now) =
    c.equal_back-back.ensures.value ∙ counted_back before now front in
    cc (longest, left)
