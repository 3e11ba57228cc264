use Rattle.std.proofs.Common.{◌≡◌, ◌+◌, ◌≤◌, Ok, None, Some, refl, sym, ap, ◌∙◌, arith}
use Rattle.message_values.specs.Asked.{asked}
use Rattle.message_values.specs.declared.editor_message.EditorMessage.TheVariants as asks
use Rattle.prover_core.specs.Looked.{looked}
use Rattle.session_rules.specs.Services.{mode_of}
use Rattle.session_rules.proofs.KnownScript.{script_finishes}
use Rattle.keeping_rules.specs.session_replies_below.Works.{Work}
use Rattle.keeping_rules.specs.session_replies_below.Spelling.{reply_spelling}
use Rattle.keeping_rules.specs.Turns.{entry_of, finish_reply}
use Rattle.keeping_rules.specs.Works.{IsDoneWorkOf}
use Rattle.document_session.proofs.Holding.{one_held}
use Rattle.document_session.proofs.Idle.{nothing_finished}
use Rattle.document_session.proofs.Inside.{going_on}
use Rattle.document_session.proofs.Rooms.{session_kept, state_kept}
use Rattle.document_session.proofs.Steps.{came_back, finish_read, IsStepAdded, step_added, ended_work, step_finished, step_finish_answered}
use Rattle.document_session.proofs.Still.{asked_inside, still_err, still_going, still_kept, still_taken}
use Rattle.document_session.proofs.Tables.{none_taken, put_back, at_itself}
use Rattle.document_session.proofs.session.Session.step_finish.Given.{Over}
use Rattle.document_session.proofs.session.Session.step_finish.Goals as goal
use Rattle.document_session.proofs.session.Session.step_finish.Goals.{After-take_out, In-Some, In-Done, After-take_in}

-- the message asks the worker of this number to finish
finishes : (g : Over) (c : After-take_out g) → asked (mode_of c.self.inside.service) c.args.message ≡ Ok (asks.Finish c.number_of-who.result)
finishes g c =
    finish_read (mode_of c.self.inside.service) c.args.message c.args.worker c.number_of-who.result
    (asked_inside c.self.inside.service c.self.inside.outbox _ c.self.view_is c.args.message _ c.requires.read) c.number_of-who.ensures.value

-- the worker has the job that is taken out
worked : (g : Over) (c : In-Some g) → looked c.self.inside.jobs c.number_of-who.result ≡ Some c.in-Some.job
worked g c = sym (c.make_step_room.ensures.jobs c.number_of-who.result) ∙ sym c.take_out.ensures.value ∙ c.in-Some.is

-- so a part is held
held_one : (g : Over) (c : In-Some g) → 1 ≤ c.self.inside.held
held_one g c =
    let k = c.self.invariant in
    one_held c.self.inside.core.past c.number_of-who.result c.self.inside.held c.in-Some.job.job.part k.holders_are (k.jobs_are.right c.number_of-who.result c.in-Some.job (worked g c)).holds

-- what came of the job is what the worker may end with
done_work : (g : Over) (c : In-Done g) → IsDoneWorkOf g.L.Language.lang (session_kept c.self.invariant) c.number_of-who.result c.in-Done.done
done_work g c =
    let k = c.self.invariant in
    let has = sym (c.make_step_room.ensures.jobs c.number_of-who.result) ∙ sym c.take_out.ensures.value ∙ c.in-Some.is in
    ended_work g.L.Language.lang c.self.inside.service (state_kept k) k c.number_of-who.result c.in-Some.job has c.in-Done.done c.in-Done.ensures.ran c.job_law.ensures

-- the entries of the message and of its step are added
added : (g : Over) (c : After-take_in g) → IsStepAdded c.self.inside.outbox c.take_in.new.outbox c.args.message
    (entry_of c.take_in.result c.number_of-who.result c.in-Done.done.done.part) (reply_spelling (finish_reply c.take_in.result c.in-Done.done)) (c.self.inside.held + 1)
added g c =
    step_added c.self.inside.outbox c.make_step_room.new.outbox c.add.new.self c.take_in.new.outbox c.args.message
    (entry_of c.take_in.result c.number_of-who.result c.in-Done.done.done.part) _ (reply_spelling (finish_reply c.take_in.result c.in-Done.done)) c.self.inside.held 2 (c.self.inside.held + 1)
    c.make_step_room.ensures.items c.make_step_room.ensures.waiting c.in_ok-make_step_room.ensures.ok (omega arith) c.add.ensures.items c.add.ensures.waiting
    c.add.ensures.free c.take_in.ensures.items c.take_in.ensures.waiting c.take_in.ensures.free refl

pub invariant_of-self : goal.invariant_of-self
invariant_of-self g c = still_kept g.L.Language.lang _ _ c.make_step_room.new.outbox _ _ _ _ _ c.self.invariant c.make_step_room.ensures.items
    c.make_step_room.ensures.waiting c.make_step_room.ensures.free _ refl c.make_step_room.ensures.jobs

pub invariant_of-self-in_default : goal.invariant_of-self-in_default
invariant_of-self-in_default g c = still_kept g.L.Language.lang _ _ c.make_step_room.new.outbox _ _ _ _ _ c.self.invariant c.make_step_room.ensures.items
    c.make_step_room.ensures.waiting c.make_step_room.ensures.free _ refl (λ w. none_taken c.number_of-who.result (λ v. looked c.make_step_room.new.jobs v) (λ v. looked c.take_out.new.table v)
    (sym c.take_out.ensures.value ∙ c.in_default.is) c.take_out.ensures.others w ∙ c.make_step_room.ensures.jobs w)

pub refuse-requires-clause-going : goal.refuse-requires-clause-going
refuse-requires-clause-going g c = still_going g.L.Language.lang c.self.inside.service c.self.inside.outbox c.make_step_room.new.outbox _ c.self.view_is c.make_step_room.ensures.items c.make_step_room.ensures.waiting c.requires.going

pub refuse-requires-clause-refused : goal.refuse-requires-clause-refused
refuse-requires-clause-refused g c =
    let script = script_finishes c.self.inside.service ((c.a_message_is_asked_where_it_is_spelled.ensures (mode_of c.self.inside.service) c.args.message
    (asks.Finish c.args.worker)).0 (asked_inside c.self.inside.service c.self.inside.outbox _ c.self.view_is c.args.message _ c.requires.read)).2 in
    nothing_finished g.L.Language.lang c.self.inside.service c.self.inside.outbox c.make_step_room.new.outbox (session_kept c.self.invariant) c.self.invariant.listed c.make_step_room.ensures.items c.args.message
    c.number_of-who.result (finishes g (goal.at.refuse-requires-clause-refused g c).After-take_out)
    (c.self.invariant.jobs_are.all c.number_of-who.result script c.number_of-who.ensures.range
    (sym (c.make_step_room.ensures.jobs c.number_of-who.result) ∙ sym c.take_out.ensures.value ∙ c.in_default.is))

pub returns-in_default-clause-taken : goal.returns-in_default-clause-taken
returns-in_default-clause-taken g c =
    still_taken g.L.Language.lang c.self.inside.service c.self.inside.outbox c.make_step_room.new.outbox _ c.self.view_is c.make_step_room.ensures.items c.make_step_room.ensures.waiting c.args.message c.refuse.result c.refuse.new.self.items c.refuse.ensures.taken

pub returns-in_default-clause-err : goal.returns-in_default-clause-err
returns-in_default-clause-err g c = still_err c.self.inside.service c.self.inside.outbox c.make_step_room.new.outbox _ c.self.view_is c.make_step_room.ensures.items c.make_step_room.ensures.waiting c.refuse.result c.refuse.new.self c.refuse.ensures.err

pub take_in-requires-clause-holds : goal.take_in-requires-clause-holds
take_in-requires-clause-holds g c = (done_work g (goal.at.take_in-requires-clause-holds g c).In-Done).holds

pub take_in-requires-clause-right : goal.take_in-requires-clause-right
take_in-requires-clause-right g c = (done_work g (goal.at.take_in-requires-clause-right g c).In-Done).right

pub take_in-requires-clause-room : goal.take_in-requires-clause-room
take_in-requires-clause-room g c = omega (arith, c.in_ok-make_step_room.ensures.ok, c.add.ensures.free)

pub overflow_sub-self : goal.overflow_sub-self
overflow_sub-self g c = omega (arith, held_one g (goal.at.overflow_sub-self g c).In-Some)

pub invariant_of-self-in-Done-1 : goal.invariant_of-self-in-Done-1
invariant_of-self-in-Done-1 g c =
    let k = c.self.invariant in
    let here = goal.at.invariant_of-self-in-Done-1 g c in
    step_finished g.L.Language.lang c.self.inside.service (state_kept k) k c.args.message
    c.number_of-who.result (finishes g here.After-take_out) c.in-Some.job (worked g here.In-Some) c.in-Done.done c.in-Done.ensures.ran
    c.job_law.ensures c.take_in.result c.take_in.new.outbox (added g here.After-take_in) c.step_laws.ensures
    (going_on g.L.Language.lang _ _ _ _ c.self.view_is k.listed c.requires.going) _ c.take_in.ensures.finished _
    (omega (arith, held_one g here.In-Some)) (λ w. looked c.make_step_room.new.jobs w) (λ w. looked c.take_out.new.table w) c.make_step_room.ensures.jobs c.take_out.ensures.others

pub returns-in-Done-clause-taken : goal.returns-in-Done-clause-taken
returns-in-Done-clause-taken g c =
    let k = c.self.invariant in
    let here = goal.at.returns-in-Done-clause-taken g c in
    step_finish_answered g.L.Language.lang c.self.inside.service (state_kept k) k c.args.message
    c.number_of-who.result (finishes g here.After-take_out) c.in-Some.job (worked g here.In-Some) c.in-Done.done c.in-Done.ensures.ran
    c.job_law.ensures c.take_in.result c.take_in.new.outbox (added g here.After-take_in) _ c.self.view_is

pub returns-in-Done-clause-legal : goal.returns-in-Done-clause-legal
returns-in-Done-clause-legal g c = (invariant_of-self-in-Done-1 g c).listed.legal

pub put-requires-clause-new : goal.put-requires-clause-new
put-requires-clause-new g c = at_itself c.number_of-who.result None (λ w. looked c.make_step_room.new.jobs w) (λ w. looked c.take_out.new.table w)
    c.take_out.ensures.others

pub put-requires-clause-room : goal.put-requires-clause-room
put-requires-clause-room g c = omega (arith, c.in_ok-make_step_room.ensures.spare, c.take_out.ensures.room)

pub invariant_of-self-in-Stopped : goal.invariant_of-self-in-Stopped
invariant_of-self-in-Stopped g c =
    let back = came_back g.L.Language.lang c.in-Some.job c.in-Stopped.job c.run.result _ _ c.run.ensures.ran c.in-Stopped.is in
    let there = sym c.take_out.ensures.value ∙ c.in-Some.is ∙ ap (λ (j : Work _). Some j) (sym back) in
    still_kept g.L.Language.lang _ _ c.make_step_room.new.outbox _ _ _ _ _ c.self.invariant
    c.make_step_room.ensures.items c.make_step_room.ensures.waiting c.make_step_room.ensures.free _ refl
    (λ w. put_back c.number_of-who.result c.in-Stopped.job (λ v. looked c.make_step_room.new.jobs v) (λ v. looked c.take_out.new.table v)
    (λ v. looked c.put.new.table v) there c.take_out.ensures.others c.put.ensures.things w ∙ c.make_step_room.ensures.jobs w)
