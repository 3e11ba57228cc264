-- What is written goes by what was read.
use Rattle.std.proofs.Common.{◌≤◌, ◌+◌, List, ℕ, [], length, ap, subst, ◌∙◌, Ok, refl, arith}
use Rattle.std.specs.Io.KnownBytes.{Appends}
use Rattle.std.proofs.KnownBytes.{Appends-nil}
use Rattle.pide_base.specs.declared.status.Status.TheVariants as status
use Rattle.pide_base.specs.Moves.{AppendsFront}
use Rattle.text_check.specs.Lines.{lines}
use Rattle.pide_check.specs.Reading.{most_bytes}
use Rattle.pide_check.proofs.KnownErrors.{on_err}
use Rattle.pide_check.specs.Checked.{IsChecked}
use Rattle.pide_check.proofs.WholeText.{whole_read}
use Rattle.pide_check.proofs.check.checked.Goals as goal

pub returns-in_err-text-clause-err : goal.returns-in_err-text-clause-err
returns-in_err-text-clause-err g c =
    let l = g.L.Language.lang in
    let took = c.in_err-text.ensures.err in
    let held = g.K.Sink.contents c.args.sink.now in
    let checked : IsChecked l status.NoMemory (g.S.Source.left c.args.source.now) (g.S.Source.left c.read_text.new.source) held held =
    (took.0, took.1, took.2, ([], _, refl, Appends-nil held)) in
    on_err c.from_residual.result checked

pub returns-in_err-write_markup-in-Whole-clause-err : goal.returns-in_err-write_markup-in-Whole-clause-err
returns-in_err-write_markup-in-Whole-clause-err g c =
    let l = g.L.Language.lang in
    let read = whole_read c.in_ok-text.field-0 c.in-Whole.text _ _ c.in-Whole.is c.in_ok-text.ensures.ok in
    let held = g.K.Sink.contents c.args.sink.now in
    let held' = g.K.Sink.contents c.write_markup.new.sink in
    let few = read.2.0.1 in
    let long : length read.0 ≤ most_bytes + 1 = omega arith in
    let checked : IsChecked l status.NoMemory (g.S.Source.left c.args.source.now) (g.S.Source.left c.read_text.new.source) held held' =
    (read.0, read.1, long, subst (λ (text : List ℕ). AppendsFront held held' (lines l text)) read.2.2 c.in_err-write_markup-in-Whole.ensures.front) in
    on_err c.from_residual-in_err-write_markup-in-Whole.result checked

pub returns-then-branch-clause-ok : goal.returns-then-branch-clause-ok
returns-then-branch-clause-ok g c =
    let l = g.L.Language.lang in
    let read = whole_read c.in_ok-text.field-0 c.in-Whole.text _ _ c.in-Whole.is c.in_ok-text.ensures.ok in
    let held = g.K.Sink.contents c.args.sink.now in
    let held' = g.K.Sink.contents c.write_markup.new.sink in
    let done = c.in_ok-write_markup-in-Whole.was ∙ ap Ok c.if-branch.true in
    (read.0, read.1, (read.2.0, read.2.1), subst (λ (text : List ℕ). Appends held held' (lines l text)) read.2.2 (c.write_markup.ensures.written done))

pub returns-else-branch-clause-ok : goal.returns-else-branch-clause-ok
returns-else-branch-clause-ok g c =
    let l = g.L.Language.lang in
    let read = whole_read c.in_ok-text.field-0 c.in-Whole.text _ _ c.in-Whole.is c.in_ok-text.ensures.ok in
    let held = g.K.Sink.contents c.args.sink.now in
    let held' = g.K.Sink.contents c.write_markup.new.sink in
    (read.0, read.1, (read.2.0, read.2.1), subst (λ (text : List ℕ). AppendsFront held held' (lines l text)) read.2.2 c.write_markup.ensures.front)
