-- The messages of the input are those that the reader called, and then it ended all.
use Rattle.std.proofs.Common.{◌≢◌, ℕ, List, sym, subst, rules}
use Rattle.pide_base.specs.declared.status.Status.{Status}
use Rattle.pide_base.specs.declared.status.Status.TheVariants as status
use Rattle.byte_message.specs.Stream.{IsReadAs}
use Rattle.hist_lock.specs.Passes.{view}
use Rattle.message_input.specs.Causes.{HasCause}
use Rattle.thread_serve.specs.Stopped.{HasRead, IsHalt}
use Rattle.thread_serve.proofs.Brought.{long_only, made_first, read_all, read_some, some_so, to_end}
use Rattle.thread_serve.proofs.reading.read_to_end.Goals as goal

pub returns-then-is_halt-clause-mine : goal.returns-then-is_halt-clause-mine
returns-then-is_halt-clause-mine g c =
    let an = c.answer_input-status.ensures.answered in let how = c.answer_input-status.result in
    let is : IsHalt how = search rules in
    let halted = (some_so _ _ _ _ an.0 _ how is an.2).2.halted in
    made_first (view c.args.pass) (view c.answer_input-status.new.answering.pass)
    (view c.end.new.pass) halted.first halted.halts.answers
    (record { same = c.end.ensures.same; mine = c.end.ensures.ended })

pub returns-then-is_halt-clause-read : goal.returns-then-is_halt-clause-read
returns-then-is_halt-clause-read g c =
    let an = c.answer_input-status.ensures.answered in let how = c.answer_input-status.result in let limit = c.args.limit in
    let left = g.S.Source.left c.args.source in let left' = g.S.Source.left c.answer_input-status.new.source in
    let is : IsHalt how = search rules in
    let h = some_so _ _ _ _ an.0 _ how is an.2 in let some = h.2 in let halted = some.halted in let halts = halted.halts in
    let v = view c.args.pass in let u = view c.answer_input-status.new.answering.pass in let w = view c.end.new.pass in
    let so = read_some limit left left' an.0 an.1 v u w halted.first c.requires.rests.stands.reader c.requires.new halts.answers
    (record { same = c.end.ensures.same; mine = c.end.ensures.ended }) h.0 halted.rest some.ending
    (subst (λ (ms : List (List (List ℕ))). IsReadAs an.0 ms some.ending) halted.parts some.read) halts.why c.end.ensures.seen
    (subst (λ (s : Status). HasCause limit s left left') h.1 c.answer_input-status.ensures.causes) in
    subst (λ (s : Status). HasRead limit s left left' w) (sym h.1) so

pub returns-clause-mine : goal.returns-clause-mine
returns-clause-mine g c =
    let an = c.answer_input-status.ensures.answered in let how = c.answer_input-status.result in
    let none : (how ≢ status.WriteFault) × (how ≢ status.NoMemory) = search rules in
    let e = to_end _ _ _ _ an.0 _ how none.0 none.1 (long_only _ _ _ _ an.0 _ how (λ len long. long.halted.halts.why) an.2) an.2 in
    made_first (view c.args.pass) (view e.last.pass)
    (view c.answer_input-status.new.answering.pass) e.answers.messages e.answers.goes.answers
    e.ends.ends

pub returns-clause-read : goal.returns-clause-read
returns-clause-read g c =
    let an = c.answer_input-status.ensures.answered in let how = c.answer_input-status.result in let limit = c.args.limit in
    let left = g.S.Source.left c.args.source in let left' = g.S.Source.left c.answer_input-status.new.source in
    let none : (how ≢ status.WriteFault) × (how ≢ status.NoMemory) = search rules in
    let e = to_end _ _ _ _ an.0 _ how none.0 none.1 (long_only _ _ _ _ an.0 _ how (λ len long. long.halted.halts.why) an.2) an.2 in
    read_all limit left left' an.0 an.1 (view c.args.pass) (view e.last.pass) (view c.answer_input-status.new.answering.pass) e.answers.messages
    c.requires.rests.stands.reader c.requires.new e.answers.goes.answers e.ends.ends how none.0 none.1 (long_only _ _ _ _ an.0 _ how (λ len long. long.halted.halts.why) an.2) e.ending e.answers.read e.tells e.answers.goes.rests.free
    c.answer_input-status.ensures.causes
