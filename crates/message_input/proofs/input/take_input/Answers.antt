-- Each pull is answered in turn.
use Rattle.std.proofs.Common.{◌≤◌, ◌+◌, [], ◌++◌, length, take, arith, rules}
use Rattle.std.proofs.KnownBytes.{Consumes-nil}
use Rattle.std.proofs.lemmas.List.{length-append, length-take}
use Rattle.message_input.specs.Inputs.{IsHalted}
use Rattle.message_input.specs.declared.answering.Halt.TheVariants as halt
use Rattle.message_input.proofs.Ends.{halted_of, long_read}
use Rattle.message_input.proofs.KnownHalting.{nothing_read, passed}
use Rattle.message_input.proofs.Pulling.{keeps_first, step_ends, step_taken}
use Rattle.message_input.proofs.input.take_input.Goals as goal

pub returns-in_err-buffer-clause-err : goal.returns-in_err-buffer-clause-err
returns-in_err-buffer-clause-err g c =
    let left = g.S.Source.left c.args.source.now in
    let a = c.args.answering.now in
    passed c.from_residual.result halt.NoMemory (λ h. IsHalted g.A.Answering.halts c.args.limit h left left a a) c.from_residual.ensures.1
    (halted_of g.A.Answering.halts c.args.limit halt.NoMemory left left [] a a (Consumes-nil left) (omega arith)
    (nothing_read g.A.Answering.halts a halt.NoMemory (g.met.A.Answering.short a [] c.requires)))

pub pulling-init : goal.pulling-init
pulling-init g c =
    let a = c.args.answering.now in (
      (
        [],
        Consumes-nil (g.S.Source.left c.args.source.now),
        omega arith,
        keeps_first g.A.Answering.goes a c.new-frames.result c.new-frames.ensures (g.met.A.Answering.stays a c.requires),
      ),
      omega arith,
      c.requires,
      search rules,
    )

pub returns-in_err-count-clause-err : goal.returns-in_err-count-clause-err
returns-in_err-count-clause-err g c =
    let before = c.pulling.invariant.0 in
    let long = length-take c.min-most.result c.deref_mut.result.now in
    let few : length before.0 + length (take c.min-most.result c.deref_mut.result.now) ≤ c.args.limit = omega arith in
    passed c.from_residual-in_err-count.result c.in_err-count.field-0.0 _ c.from_residual-in_err-count.ensures.1
    (c.in_err-count.ensures.err _ _ before.0 c.args.limit before.1 few before.3)

pub overflow_sub-room : goal.overflow_sub-room
overflow_sub-room g c =
    let before = c.pulling.invariant.0 in
    let long = length-take c.min-most.result c.deref_mut.result.now in
    let few : length before.0 + length (take c.min-most.result c.deref_mut.result.now) ≤ c.args.limit = omega arith in
    let so = step_taken _ _ _ _ _ _ _ _ _ _ (c.in_ok-count.ensures.ok _ _ before.0 c.args.limit before.1 few before.3) c.in-Taken.count c.in-Taken.is in
    let within = so.3 in
    omega arith

pub pulling-smaller : goal.pulling-smaller
pulling-smaller g c =
    let before = c.pulling.invariant.0 in
    let long = length-take c.min-most.result c.deref_mut.result.now in
    let few : length before.0 + length (take c.min-most.result c.deref_mut.result.now) ≤ c.args.limit = omega arith in
    let so = step_taken _ _ _ _ _ _ _ _ _ _ (c.in_ok-count.ensures.ok _ _ before.0 c.args.limit before.1 few before.3) c.in-Taken.count c.in-Taken.is in
    let some = so.2 in
    omega arith

pub pulling-preserved : goal.pulling-preserved
pulling-preserved g c =
    let before = c.pulling.invariant.0 in
    let long = length-take c.min-most.result c.deref_mut.result.now in
    let few : length before.0 + length (take c.min-most.result c.deref_mut.result.now) ≤ c.args.limit = omega arith in
    let so = step_taken _ _ _ _ _ _ _ _ _ _ (c.in_ok-count.ensures.ok _ _ before.0 c.args.limit before.1 few before.3) c.in-Taken.count c.in-Taken.is in
    let within = so.3 in
    let same = so.1 in
    let both = length-append before.0 so.0 in
    ((before.0 ++ so.0, so.4, omega arith, so.5), omega arith, c.in_ok-count.ensures.rests, search rules)

pub returns-in-Ends-clause-ok : goal.returns-in-Ends-clause-ok
returns-in-Ends-clause-ok g c =
    let before = c.pulling.invariant.0 in
    let long = length-take c.min-most.result c.deref_mut.result.now in
    let few : length before.0 + length (take c.min-most.result c.deref_mut.result.now) ≤ c.args.limit = omega arith in
    step_ends _ _ _ _ _ _ _ _ _ _ (c.in_ok-count.ensures.ok _ _ before.0 c.args.limit before.1 few before.3) c.in-Ends.status c.in-Ends.is

pub returns-clause-ok : goal.returns-clause-ok
returns-clause-ok g c =
    let before = c.pulling.invariant.0 in
    let sum = before.2 in
    long_read g.A.Answering.goes c.args.limit _ _ before.0 before.1 c.args.answering.now c.pulling.answering c.pulling.frames before.3 (omega arith)
