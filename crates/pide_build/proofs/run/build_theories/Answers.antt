-- What came of the input, and of the build behind it.
use Rattle.std.proofs.Common.{sym, subst, ◌∙◌}
use Rattle.pide_base.specs.declared.status.Status.{Status}
use Rattle.message_input.specs.Causes.{HasCause}
use Rattle.message_input.specs.Inputs.{IsAnswered}
use Rattle.message_input.proofs.KnownCompletes.{completes}
use Rattle.pide_build.specs.Runs.{IsBuild}
use Rattle.pide_build.proofs.Builds.{builds, causes, never_long}
use Rattle.pide_build.proofs.Came.{Ends, Goes, Halts, came_whole, fault_rose, never_long as never_answers, unbuilt}
use Rattle.pide_build.proofs.run.build_theories.Goals as goal

pub returns-in_default-clause-built : goal.returns-in_default-clause-built
returns-in_default-clause-built g c =
    unbuilt g.L.Language.lang (λ a. a.theories) (λ a. g.K.Sink.contents a.sink) (λ a. g.K.Sink.faults a.sink)
    (record { alloc = c.args.alloc; theories = c.new-theories.result; sink = c.args.sink }) c.answer_input-status.new.answering c.new-theories.ensures
    (g.S.Source.left c.args.source.now) (g.S.Source.left c.answer_input-status.new.source) c.answer_input-status.result c.in_default.not-Done
    c.answer_input-status.ensures.answered

pub returns-in_default-clause-complete : goal.returns-in_default-clause-complete
returns-in_default-clause-complete g c =
    let left = g.S.Source.left c.args.source.now in let left' = g.S.Source.left c.answer_input-status.new.source in
    completes c.args.limit left left' (g.S.Source.faults c.args.source.now) (g.S.Source.faults c.answer_input-status.new.source)
    (g.K.Sink.faults c.args.sink) (g.K.Sink.faults c.answer_input-status.new.answering.sink) c.answer_input-status.result
    c.answer_input-status.ensures.causes c.answer_input-status.ensures.read_fault
    (λ is. fault_rose g.L.Language.lang (λ a. a.theories) (λ a. g.K.Sink.contents a.sink) (λ a. g.K.Sink.faults a.sink)
    (record { alloc = c.args.alloc; theories = c.new-theories.result; sink = c.args.sink }) c.answer_input-status.new.answering c.new-theories.ensures
    left left' c.answer_input-status.result is c.answer_input-status.ensures.answered)
    (λ len is. never_answers g.L.Language.lang (λ a. a.theories) (λ a. g.K.Sink.contents a.sink) (λ a. g.K.Sink.faults a.sink)
    (record { alloc = c.args.alloc; theories = c.new-theories.result; sink = c.args.sink }) c.answer_input-status.new.answering c.new-theories.ensures
    left left' c.answer_input-status.result len is c.answer_input-status.ensures.answered)

pub returns-in_default-clause-no_reply : goal.returns-in_default-clause-no_reply
returns-in_default-clause-no_reply g c =
    let left = g.S.Source.left c.args.source.now in let left' = g.S.Source.left c.answer_input-status.new.source in
    λ len is. never_answers g.L.Language.lang (λ a. a.theories) (λ a. g.K.Sink.contents a.sink) (λ a. g.K.Sink.faults a.sink)
    (record { alloc = c.args.alloc; theories = c.new-theories.result; sink = c.args.sink }) c.answer_input-status.new.answering c.new-theories.ensures
    left left' c.answer_input-status.result len is c.answer_input-status.ensures.answered

pub returns-in-Done-clause-built : goal.returns-in-Done-clause-built
returns-in-Done-clause-built g c =
    let l = g.L.Language.lang in let last = c.answer_input-status.new.answering in
    let left = g.S.Source.left c.args.source.now in let left' = g.S.Source.left c.answer_input-status.new.source in
    let held = g.K.Sink.contents c.args.sink in let mid = g.K.Sink.contents last.sink in
    let held' = g.K.Sink.contents c.build_all-built.new.sink in
    let answered = subst (λ (s : Status). IsAnswered (Goes l (λ a. a.theories) (λ a. g.K.Sink.contents a.sink) (λ a. g.K.Sink.faults a.sink))
    (Halts l (λ a. a.theories) (λ a. g.K.Sink.contents a.sink) (λ a. g.K.Sink.faults a.sink))
    (Ends l (λ a. a.theories) (λ a. g.K.Sink.contents a.sink) (λ a. g.K.Sink.faults a.sink)) s left left'
    (record { alloc = c.args.alloc; theories = c.new-theories.result; sink = c.args.sink }) last)
    c.in-Done.is c.answer_input-status.ensures.answered in
    let came = came_whole l (λ a. a.theories) (λ a. g.K.Sink.contents a.sink) (λ a. g.K.Sink.faults a.sink)
    (record { alloc = c.args.alloc; theories = c.new-theories.result; sink = c.args.sink }) last c.new-theories.ensures left left' answered in
    let done = c.answer_input-status.ensures.causes.done c.in-Done.is in
    subst (λ s. IsBuild l s left left' held held') (sym c.status_of-status.ensures)
    (builds l left left' held mid held' last.theories came done.2 c.build_all-built.ensures.front (g.K.Sink.faults last.sink)
    (g.K.Sink.faults c.build_all-built.new.sink) c.build_all-built.result c.build_all-built.ensures.ok c.build_all-built.ensures.counts)

pub returns-in-Done-clause-causes : goal.returns-in-Done-clause-causes
returns-in-Done-clause-causes g c =
    let left = g.S.Source.left c.args.source.now in let left' = g.S.Source.left c.answer_input-status.new.source in
    subst (λ s. HasCause c.args.limit s left left') (sym c.status_of-status.ensures)
    (causes c.args.limit left left' (g.K.Sink.faults c.answer_input-status.new.answering.sink) (g.K.Sink.faults c.build_all-built.new.sink)
    c.build_all-built.result c.build_all-built.ensures.counts
    (subst (λ (s : Status). HasCause c.args.limit s left left') c.in-Done.is c.answer_input-status.ensures.causes))

pub returns-in-Done-clause-no_reply : goal.returns-in-Done-clause-no_reply
returns-in-Done-clause-no_reply g c = λ len is. never_long (g.K.Sink.faults c.answer_input-status.new.answering.sink) (g.K.Sink.faults c.build_all-built.new.sink)
    c.build_all-built.result c.build_all-built.ensures.counts len (sym c.status_of-status.ensures ∙ is)
