use Rattle.std.proofs.Common.{◌≡◌, List, ◌∷◌, Err, refl, sym, ap, subst, ◌∙◌}
use Rattle.buffer_laws.specs.Fitting.{Agrees}
use Rattle.message_values.specs.declared.refusal.Refusal.TheVariants.{Limit}
use Rattle.message_values.specs.Asked.{asked}
use Rattle.exec_assign.specs.declared.fault.AssignFault.TheVariants as fault
use Rattle.core_rules.specs.declared.event.Event.{Event}
use Rattle.core_rules.specs.declared.event.Event.TheVariants as event
use Rattle.core_rules.specs.Standing.{has_ended}
use Rattle.prover_core.specs.Plans.{PlanState, IsPlanOf}
use Rattle.session_rules.specs.Services.{mode_of}
use Rattle.session_rules.specs.Session.{Session, document}
use Rattle.session_rules.specs.Accepting.{taken}
use Rattle.keeping_rules.specs.Kept.{session_of}
use Rattle.document_session.specs.Makes.{IsMade}
use Rattle.document_session.proofs.Inside.{going_on, known_inside}
use Rattle.document_session.proofs.Making.{plan_fits, plan_changed, plan_commands, plan_limit, made_kept}
use Rattle.document_session.proofs.Refusing.{still_going, still_known}
use Rattle.document_session.proofs.Rooms.{session_kept, room_kept}
use Rattle.document_session.proofs.session.Session.make.Given.{Over}
use Rattle.document_session.proofs.session.Session.make.Goals as goal
use Rattle.document_session.proofs.session.Session.make.Goals.{After-self}

-- what was prepared is made of the session within
made : (g : Over) (c : After-self g) → IsMade g.L.Language.lang (session_kept c.self.invariant) c.args.version (asked (mode_of c.self.inside.service) c.args.message) c.args.made
made g c = known_inside g.L.Language.lang (λ service t. IsMade g.L.Language.lang t c.args.version (asked (mode_of service) c.args.message) c.args.made) _ _ _ _ c.self.view_is
    c.self.invariant.listed c.requires.made

-- the session's buffer agrees with its document
agrees : (g : Over) (c : After-self g) → Agrees (session_kept c.self.invariant).buffer (document g.L.Language.lang (session_kept c.self.invariant))
agrees g c = subst (λ (t : Session). Agrees t.buffer (document g.L.Language.lang t)) c.self.invariant.listed.stands
    (c.history_law.ensures.agree c.self.inside.service c.self.inside.outbox.items c.self.invariant.listed.legal)

pub plan_prepared-requires-clause-going : goal.plan_prepared-requires-clause-going
plan_prepared-requires-clause-going g c = going_on g.L.Language.lang _ _ _ _ c.self.view_is c.self.invariant.listed c.requires.going

pub plan_prepared-requires-clause-fits : goal.plan_prepared-requires-clause-fits
plan_prepared-requires-clause-fits g c =
    let here = (goal.at.plan_prepared-requires-clause-fits g c).After-self in
    plan_fits g.L.Language.lang c.self.inside.service (session_kept c.self.invariant) c.args.version (asked (mode_of c.self.inside.service) c.args.message) c.args.made (made g here)
    c.args.made.after.nodes c.args.made.after.document.blobs refl refl c.fits_law.ensures.fits (agrees g here)

pub plan_prepared-requires-clause-changed : goal.plan_prepared-requires-clause-changed
plan_prepared-requires-clause-changed g c =
    let here = (goal.at.plan_prepared-requires-clause-changed g c).After-self in
    plan_changed g.L.Language.lang c.self.inside.service (session_kept c.self.invariant) c.args.version (asked (mode_of c.self.inside.service) c.args.message) c.args.made (made g here)
    c.args.made.after.nodes c.args.made.after.document.blobs refl refl c.self.invariant.blobs_are c.args.made.changed refl

pub plan_prepared-requires-clause-commands : goal.plan_prepared-requires-clause-commands
plan_prepared-requires-clause-commands g c =
    let here = (goal.at.plan_prepared-requires-clause-commands g c).After-self in
    plan_commands g.L.Language.lang c.self.inside.service (session_kept c.self.invariant) c.args.version (asked (mode_of c.self.inside.service) c.args.message) c.args.made (made g here)
    c.args.made.after.nodes c.args.made.after.document.blobs refl refl (agrees g here) c.args.made.untouched refl

pub invariant_of-self : goal.invariant_of-self
invariant_of-self g c = room_kept g.L.Language.lang _ _ _ _ _ _ c.self.invariant _ _
    c.plan_prepared.ensures.items c.plan_prepared.ensures.waiting c.plan_prepared.ensures.free
    (ap (λ (h : List Event). session_of c.self.inside.buffer h c.self.inside.protocol c.self.inside.called) (sym c.plan_prepared.ensures.past))

pub invariant_of-self-in-Err-Limit : goal.invariant_of-self-in-Err-Limit
invariant_of-self-in-Err-Limit g c = room_kept g.L.Language.lang _ _ _ _ _ _ c.self.invariant _ _
    c.plan_prepared.ensures.items c.plan_prepared.ensures.waiting c.plan_prepared.ensures.free
    (ap (λ (h : List Event). session_of c.self.inside.buffer h c.self.inside.protocol c.self.inside.called) (sym c.plan_prepared.ensures.past))

pub refuse-requires-clause-going : goal.refuse-requires-clause-going
refuse-requires-clause-going g c = still_going g.L.Language.lang _ _ c.self.view_is _ c.plan_prepared.ensures.items c.requires.going

pub refuse-requires-clause-refused : goal.refuse-requires-clause-refused
refuse-requires-clause-refused g c =
    let l = g.L.Language.lang in
    let read = asked (mode_of c.self.inside.service) c.args.message in
    let limit : c.plan_prepared.result ≡ Err fault.Limit = cc in
    still_known l _ _ c.self.view_is _ c.plan_prepared.ensures.items (λ service t. taken l service t read ≡ Err Limit) _ (session_kept c.self.invariant) c.self.invariant.listed
    (plan_limit l c.self.inside.service (session_kept c.self.invariant) c.args.version read c.args.made (made g (goal.at.refuse-requires-clause-refused g c).After-self)
    c.args.made.after.nodes c.args.made.after.document.blobs refl refl (c.plan_prepared.ensures.limit limit))

pub update-requires-clause-going : goal.update-requires-clause-going
update-requires-clause-going g c = ap (λ (h : List Event). has_ended h) c.plan_prepared.ensures.past
    ∙ going_on g.L.Language.lang _ _ _ _ c.self.view_is c.self.invariant.listed c.requires.going

pub invariant_of-self-in-Ok : goal.invariant_of-self-in-Ok
invariant_of-self-in-Ok g c =
    let l = g.L.Language.lang in
    let k = c.self.invariant in
    let p : PlanState = c.in-Ok.plan in
    let planned : IsPlanOf l (session_kept k).events p = subst (λ (h : List Event). IsPlanOf l h p) c.plan_prepared.ensures.past c.in-Ok.ensures.plan in
    made_kept l _ _ _ _ _ _ k c.update_law.ensures
    c.args.message c.args.version c.args.made (made g (goal.at.invariant_of-self-in-Ok g c).After-self) p planned c.in-Ok.ensures.nodes c.in-Ok.ensures.blobs
    _ _ _ _ refl c.in-Ok.ensures.reply (going_on l _ _ _ _ c.self.view_is k.listed c.requires.going)
    c.plan_prepared.ensures.items c.plan_prepared.ensures.waiting c.in-Ok.ensures.entry
    c.add.ensures.items c.add.ensures.waiting c.add.ensures.free
    _ _ _ c.number-self-inside.ensures.value c.commit.ensures c.in-Ok.ensures.version
    (c.update.ensures.past ∙ ap (λ (h : List Event). event.Update p.version p.nodes p.blobs ∷ h) c.plan_prepared.ensures.past)

pub returns-in-Ok-clause-legal : goal.returns-in-Ok-clause-legal
returns-in-Ok-clause-legal g c = (invariant_of-self-in-Ok g c).listed.legal
