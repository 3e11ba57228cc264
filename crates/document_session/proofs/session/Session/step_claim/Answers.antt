use Rattle.std.proofs.Common.{◌≡◌, ℕ, ◌+◌, Ok, inl, refl, sym, ap, ◌∙◌, arith}
use Rattle.pide_base.specs.declared.part.Part.{Part}
use Rattle.message_values.specs.Asked.{asked}
use Rattle.message_values.specs.declared.editor_message.EditorMessage.TheVariants as asks
use Rattle.prover_core.specs.Looked.{looked}
use Rattle.reply_messages.specs.declared.told.Told.TheVariants as tells
use Rattle.session_rules.specs.declared.entry.Entry.TheVariants as entry
use Rattle.session_rules.specs.Services.{mode_of}
use Rattle.session_rules.proofs.KnownScript.{script_claims}
use Rattle.keeping_rules.specs.session_replies_below.Spelling.{reply_spelling}
use Rattle.document_session.proofs.Claims.{the_part}
use Rattle.document_session.proofs.Idle.{nothing_claimed}
use Rattle.document_session.proofs.Inside.{going_on}
use Rattle.document_session.proofs.Rooms.{session_kept, state_kept}
use Rattle.document_session.proofs.Steps.{claim_read, IsStepAdded, step_added, step_claimed, step_claim_answered}
use Rattle.document_session.proofs.Still.{asked_inside, still_err, still_going, still_kept, still_taken}
use Rattle.document_session.proofs.Tables.{no_job}
use Rattle.document_session.proofs.session.Session.step_claim.Given.{Over}
use Rattle.document_session.proofs.session.Session.step_claim.Goals as goal
use Rattle.document_session.proofs.session.Session.step_claim.Goals.{After-number_of-who, After-add-in-Job}

-- the message asks for a claim of the worker of this number
claims : (g : Over) (c : After-number_of-who g) → asked (mode_of c.self.inside.service) c.args.message ≡ Ok (asks.Claim c.number_of-who.result)
claims g c =
    claim_read (mode_of c.self.inside.service) c.args.message c.args.worker c.number_of-who.result
    (asked_inside c.self.inside.service c.self.inside.outbox _ c.self.view_is c.args.message _ c.requires.read) c.number_of-who.ensures.value

-- the entries of the message and of its claim are added
added : (g : Over) (c : After-add-in-Job g) → IsStepAdded c.self.inside.outbox c.add-in-Job.new.self c.args.message (entry.Claimed c.number_of-who.result c.in-Some.part)
    (reply_spelling (tells.Claimed c.number_of-who.result c.in-Some.part)) (c.self.inside.held + 2)
added g c =
    let told = c.in_ok-claimed.ensures.claimed ∙ ap (λ (n : ℕ). reply_spelling (tells.Claimed n c.in-Some.part)) (sym c.number_of-who.ensures.value) in
    step_added c.self.inside.outbox c.make_step_room.new.outbox c.add.new.self c.add-in-Job.new.self c.args.message
    (entry.Claimed c.number_of-who.result c.in-Some.part) c.in_ok-claimed.claimed.items _ c.self.inside.held 3 (c.self.inside.held + 2) c.make_step_room.ensures.items
    c.make_step_room.ensures.waiting c.in_ok-make_step_room.ensures.ok (omega arith) c.add.ensures.items c.add.ensures.waiting c.add.ensures.free
    c.add-in-Job.ensures.items c.add-in-Job.ensures.waiting c.add-in-Job.ensures.free told

pub invariant_of-self : goal.invariant_of-self
invariant_of-self g c = still_kept g.L.Language.lang _ _ c.make_step_room.new.outbox _ _ _ _ _ c.self.invariant c.make_step_room.ensures.items
    c.make_step_room.ensures.waiting c.make_step_room.ensures.free _ refl c.make_step_room.ensures.jobs

pub invariant_of-self-in_default : goal.invariant_of-self-in_default
invariant_of-self-in_default g c = still_kept g.L.Language.lang _ _ c.make_step_room.new.outbox _ _ _ _ _ c.self.invariant c.make_step_room.ensures.items
    c.make_step_room.ensures.waiting c.make_step_room.ensures.free _ refl c.make_step_room.ensures.jobs

pub refuse-requires-clause-going : goal.refuse-requires-clause-going
refuse-requires-clause-going g c = still_going g.L.Language.lang c.self.inside.service c.self.inside.outbox c.make_step_room.new.outbox _ c.self.view_is c.make_step_room.ensures.items c.make_step_room.ensures.waiting c.requires.going

pub refuse-requires-clause-refused : goal.refuse-requires-clause-refused
refuse-requires-clause-refused g c =
    nothing_claimed g.L.Language.lang c.self.inside.service c.self.inside.outbox c.make_step_room.new.outbox (session_kept c.self.invariant) c.self.invariant.listed c.make_step_room.ensures.items c.args.message
    c.args.worker (asked_inside c.self.inside.service c.self.inside.outbox _ c.self.view_is c.args.message _ c.requires.read)
    (going_on g.L.Language.lang _ _ _ _ c.self.view_is c.self.invariant.listed c.requires.going) (inl (sym c.first.ensures ∙ c.in_default.is))

pub returns-in_default-clause-taken : goal.returns-in_default-clause-taken
returns-in_default-clause-taken g c =
    still_taken g.L.Language.lang c.self.inside.service c.self.inside.outbox c.make_step_room.new.outbox _ c.self.view_is c.make_step_room.ensures.items c.make_step_room.ensures.waiting c.args.message c.refuse.result c.refuse.new.self.items c.refuse.ensures.taken

pub returns-in_default-clause-err : goal.returns-in_default-clause-err
returns-in_default-clause-err g c = still_err c.self.inside.service c.self.inside.outbox c.make_step_room.new.outbox _ c.self.view_is c.make_step_room.ensures.items c.make_step_room.ensures.waiting c.refuse.result c.refuse.new.self c.refuse.ensures.err

pub invariant_of-self-in_err-claimed : goal.invariant_of-self-in_err-claimed
invariant_of-self-in_err-claimed g c = still_kept g.L.Language.lang _ _ c.make_step_room.new.outbox _ _ _ _ _ c.self.invariant c.make_step_room.ensures.items
    c.make_step_room.ensures.waiting c.make_step_room.ensures.free _ refl c.make_step_room.ensures.jobs

pub invariant_of-self-in-Nothing : goal.invariant_of-self-in-Nothing
invariant_of-self-in-Nothing g c = still_kept g.L.Language.lang _ _ c.make_step_room.new.outbox _ _ _ _ _ c.self.invariant c.make_step_room.ensures.items
    c.make_step_room.ensures.waiting c.make_step_room.ensures.free _ c.in-Nothing.ensures.claimed.1 c.make_step_room.ensures.jobs

pub refuse-requires-in-Nothing-clause-going : goal.refuse-requires-in-Nothing-clause-going
refuse-requires-in-Nothing-clause-going g c = still_going g.L.Language.lang c.self.inside.service c.self.inside.outbox c.make_step_room.new.outbox _ c.self.view_is c.make_step_room.ensures.items c.make_step_room.ensures.waiting c.requires.going

pub refuse-requires-in-Nothing-clause-refused : goal.refuse-requires-in-Nothing-clause-refused
refuse-requires-in-Nothing-clause-refused g c =
    nothing_claimed g.L.Language.lang c.self.inside.service c.self.inside.outbox c.make_step_room.new.outbox (session_kept c.self.invariant) c.self.invariant.listed c.make_step_room.ensures.items c.args.message
    c.number_of-who.result (claims g (goal.at.refuse-requires-in-Nothing-clause-refused g c).After-number_of-who)
    (going_on g.L.Language.lang _ _ _ _ c.self.view_is c.self.invariant.listed c.requires.going) c.in-Nothing.ensures.claimed.0

pub returns-in-Nothing-clause-taken : goal.returns-in-Nothing-clause-taken
returns-in-Nothing-clause-taken g c =
    still_taken g.L.Language.lang c.self.inside.service c.self.inside.outbox c.make_step_room.new.outbox _ c.self.view_is c.make_step_room.ensures.items c.make_step_room.ensures.waiting c.args.message c.refuse-in-Nothing.result c.refuse-in-Nothing.new.self.items c.refuse-in-Nothing.ensures.taken

pub returns-in-Nothing-clause-err : goal.returns-in-Nothing-clause-err
returns-in-Nothing-clause-err g c = still_err c.self.inside.service c.self.inside.outbox c.make_step_room.new.outbox _ c.self.view_is c.make_step_room.ensures.items c.make_step_room.ensures.waiting c.refuse-in-Nothing.result c.refuse-in-Nothing.new.self c.refuse-in-Nothing.ensures.err

pub invariant_of-self-in-NoMemory : goal.invariant_of-self-in-NoMemory
invariant_of-self-in-NoMemory g c = still_kept g.L.Language.lang _ _ c.make_step_room.new.outbox _ _ _ _ _ c.self.invariant c.make_step_room.ensures.items
    c.make_step_room.ensures.waiting c.make_step_room.ensures.free _ c.in-NoMemory.ensures.claimed c.make_step_room.ensures.jobs

pub put-requires-clause-new : goal.put-requires-clause-new
put-requires-clause-new g c =
    c.make_step_room.ensures.jobs c.number_of-who.result
    ∙ no_job g.L.Language.lang c.self.inside.service (session_kept c.self.invariant) (λ w. looked c.self.inside.jobs w) c.self.invariant.jobs_are c.number_of-who.result
    c.in-Job.ensures.claimed.0

pub new-requires : goal.new-requires
new-requires g c =
    let found = the_part g.L.Language.lang c.number_of-who.result c.self.inside.core.past _ _ c.in-Job.job (sym c.first.ensures ∙ c.in-Some.is) c.in-Job.ensures.claimed in
    c.in_ok-claimed.ensures.dropped ∙ ap (λ (p : Part). reply_spelling (tells.Dropped p))
    (sym found)

pub overflow_add-self : goal.overflow_add-self
overflow_add-self g c = omega (arith, c.in_ok-make_step_room.ensures.fits)

pub invariant_of-self-in-Job : goal.invariant_of-self-in-Job
invariant_of-self-in-Job g c =
    let k = c.self.invariant in
    let here = goal.at.invariant_of-self-in-Job g c in
    let script = script_claims c.self.inside.service ((c.a_message_is_asked_where_it_is_spelled.ensures (mode_of c.self.inside.service) c.args.message
    (asks.Claim c.args.worker)).0 (asked_inside c.self.inside.service c.self.inside.outbox _ c.self.view_is c.args.message _ c.requires.read)).2 in
    step_claimed g.L.Language.lang c.self.inside.service (state_kept k) k c.args.message c.number_of-who.result (claims g here.After-number_of-who) c.in-Some.part c.in-Job.job _
    (sym c.first.ensures ∙ c.in-Some.is) c.in-Job.ensures.claimed c.add-in-Job.new.self (added g here.After-add-in-Job) c.step_laws.ensures script c.number_of-who.ensures.range
    c.new.result c.new.ensures (λ w. looked c.make_step_room.new.jobs w) (λ w. looked c.put.new.table w) c.make_step_room.ensures.jobs c.put.ensures.things

pub returns-in-Job-clause-taken : goal.returns-in-Job-clause-taken
returns-in-Job-clause-taken g c =
    let k = c.self.invariant in
    let here = goal.at.returns-in-Job-clause-taken g c in
    step_claim_answered g.L.Language.lang c.self.inside.service (state_kept k) k c.args.message c.number_of-who.result (claims g here.After-number_of-who) c.in-Some.part c.in-Job.job _
    (sym c.first.ensures ∙ c.in-Some.is) c.in-Job.ensures.claimed c.add-in-Job.new.self (added g here.After-add-in-Job) _ c.self.view_is

pub returns-in-Job-clause-legal : goal.returns-in-Job-clause-legal
returns-in-Job-clause-legal g c = (invariant_of-self-in-Job g c).listed.legal
