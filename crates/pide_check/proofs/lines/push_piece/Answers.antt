-- A text that is too short for a piece waits on; another is pushed whole.
use Rattle.std.proofs.Common.{◌≡◌, [], string_bytes, subst, rules}
use Rattle.std.specs.Io.KnownBytes.{Appends}
use Rattle.pide_check.proofs.Pushing.{pushed_all}
use Rattle.pide_check.proofs.lines.push_piece.Goals as goal

pub returns-clause-pushed : goal.returns-clause-pushed
returns-clause-pushed g c done first rest all way =
    let held = g.K.Sink.contents c.args.sink.now in
    let held' = g.K.Sink.contents c.push_whole-pushed.new.sink in
    let empty : string_bytes c.clear.new.self ≡ [] = search rules in
    rw empty (pushed_all first held held' (string_bytes c.args.text.now) rest all way
    (subst (Appends held held') c.as_bytes.ensures.value (c.push_whole-pushed.ensures.pushed done)))
