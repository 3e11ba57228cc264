-- What came of the message, with the sink's count.
use Rattle.std.proofs.Common.{◌∷◌, [], refl}
use Rattle.message_input.specs.Answers.{HaltsAmong}
use Rattle.message_input.specs.declared.answering.Halt.TheVariants as halt
use Rattle.message_input.proofs.KnownHalting.{passed}
use Rattle.mirror_serve.specs.Joins.{short_halts}
use Rattle.mirror_serve.specs.Resting.{Rests}
use Rattle.mirror_serve.proofs.Inputs.{Halts, one_goes, one_halts}
use Rattle.mirror_serve.proofs.mirrored.MirroredAnswering.answer.Goals as goal

pub returns-in-Some-clause-ok : goal.returns-in-Some-clause-ok
returns-in-Some-clause-ok g c = one_goes g.L.Language.lang (λ a. a.session) (λ a. g.K.Sink.contents a.sink) (λ a. g.K.Sink.faults a.sink)
    (λ a. Rests g.L.Language.lang a.session a.ear) c.args.self.now (record c.args.self.now { session = c.show.new.session; sink = c.show.new.sink }) (c.args.message ∷ [])
    c.show.result c.show.ensures.ok c.show.ensures.rests c.show.ensures.steady

pub returns-in-Some-clause-err : goal.returns-in-Some-clause-err
returns-in-Some-clause-err g c = one_halts g.L.Language.lang (λ a. a.session) (λ a. g.K.Sink.contents a.sink) (λ a. g.K.Sink.faults a.sink)
    (λ a. Rests g.L.Language.lang a.session a.ear) c.args.self.now (record c.args.self.now { session = c.show.new.session; sink = c.show.new.sink }) (c.args.message ∷ [])
    c.show.result c.show.ensures.err

pub returns-in-None-clause-ok : goal.returns-in-None-clause-ok
returns-in-None-clause-ok g c = one_goes g.L.Language.lang (λ a. a.session) (λ a. g.K.Sink.contents a.sink) (λ a. g.K.Sink.faults a.sink)
    (λ a. Rests g.L.Language.lang a.session a.ear) c.args.self.now
    (record c.args.self.now { session = c.pass_on.new.session; sink = c.pass_on.new.sink; ear = c.pass_on.new.ear }) (c.args.message ∷ [])
    c.pass_on.result c.pass_on.ensures.ok c.pass_on.ensures.rests c.pass_on.ensures.steady

pub returns-in-None-clause-err : goal.returns-in-None-clause-err
returns-in-None-clause-err g c = one_halts g.L.Language.lang (λ a. a.session) (λ a. g.K.Sink.contents a.sink) (λ a. g.K.Sink.faults a.sink)
    (λ a. Rests g.L.Language.lang a.session a.ear) c.args.self.now
    (record c.args.self.now { session = c.pass_on.new.session; sink = c.pass_on.new.sink; ear = c.pass_on.new.ear }) (c.args.message ∷ [])
    c.pass_on.result c.pass_on.ensures.err

pub returns-in_err-look-clause-err : goal.returns-in_err-look-clause-err
returns-in_err-look-clause-err g c =
    let a = c.args.self.now in
    let held = g.K.Sink.contents a.sink in
    let faults = g.K.Sink.faults a.sink in
    passed c.from_residual.result halt.NoMemory (λ h. HaltsAmong (Halts g.L.Language.lang (λ a. a.session) (λ a. g.K.Sink.contents a.sink)
    (λ a. g.K.Sink.faults a.sink) (λ a. Rests g.L.Language.lang a.session a.ear)) a (c.args.message ∷ []) h a) c.from_residual.ensures.1 (record {
      first = [];
      rest = c.args.message ∷ [];
      parts = refl;
      halts = short_halts g.L.Language.lang held faults a.session (c.args.message ∷ []) c.requires.session;
    })
