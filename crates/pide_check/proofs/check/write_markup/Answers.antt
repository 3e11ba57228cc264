-- The lines of a text are those of its reports.
use Rattle.std.proofs.Common.{◌≡◌, [], refl, ap, subst, ◌∙◌}
use Rattle.std.specs.List.{flat_map}
use Rattle.std.specs.Io.KnownBytes.{Appends}
use Rattle.std.proofs.KnownBytes.{Appends-nil}
use Rattle.pide_base.specs.Moves.{AppendsFront}
use Rattle.text_check.specs.Lines.{report_line, lines}
use Rattle.pide_check.proofs.check.write_markup.Goals as goal

pub returns-in_err-reports-clause-front : goal.returns-in_err-reports-clause-front
returns-in_err-reports-clause-front g c =
    ([], lines g.L.Language.lang c.args.text, refl, Appends-nil (g.K.Sink.contents c.args.sink.now))

pub returns-clause-written : goal.returns-clause-written
returns-clause-written g c done =
    let same : flat_map report_line c.deref.result.now ≡ lines g.L.Language.lang c.args.text =
    ap (flat_map report_line) (c.deref.ensures.value ∙ c.in_ok-reports.ensures) ∙ ap (lines g.L.Language.lang) c.as_slice.ensures in
    subst (Appends (g.K.Sink.contents c.args.sink.now) (g.K.Sink.contents c.write_lines.new.sink)) same (c.write_lines.ensures.written done)

pub returns-clause-front : goal.returns-clause-front
returns-clause-front g c =
    let same : flat_map report_line c.deref.result.now ≡ lines g.L.Language.lang c.args.text =
    ap (flat_map report_line) (c.deref.ensures.value ∙ c.in_ok-reports.ensures) ∙ ap (lines g.L.Language.lang) c.as_slice.ensures in
    subst (AppendsFront (g.K.Sink.contents c.args.sink.now) (g.K.Sink.contents c.write_lines.new.sink)) same c.write_lines.ensures.front
