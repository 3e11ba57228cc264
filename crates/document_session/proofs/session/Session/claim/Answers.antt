use Rattle.std.proofs.Common.{◌≤◌, ◌∷◌, List, inl, refl, sym, ap, ◌∙◌, arith}
use Rattle.pide_base.specs.declared.part.Part.{Part}
use Rattle.prover_core.proofs.KnownResults.{on_ok}
use Rattle.reply_outbox.specs.declared.item.Item.TheVariants.{Made}
use Rattle.reply_messages.specs.declared.told.Told.TheVariants as tells
use Rattle.session_rules.specs.declared.entry.Entry.TheVariants as entry
use Rattle.session_rules.specs.Services.{free_workers}
use Rattle.keeping_rules.specs.session_replies_below.Spelling.{reply_spelling}
use Rattle.keeping_rules.specs.Items.{SessionItem}
use Rattle.document_session.specs.Answers.{IsIdle}
use Rattle.document_session.specs.Contents.{SessionState}
use Rattle.document_session.proofs.Claims.{the_part, claimed_kept, claimed_so}
use Rattle.document_session.proofs.Inside.{known_inside, known_outside}
use Rattle.document_session.proofs.Rooms.{state_kept}
use Rattle.document_session.proofs.Still.{still_kept}
use Rattle.document_session.proofs.session.Session.claim.Goals as goal

pub returns-in_default-clause-claimed : goal.returns-in_default-clause-claimed
returns-in_default-clause-claimed g c =
    let l = g.L.Language.lang in (
      refl,
      known_outside l (λ service s. IsIdle l s c.args.who) _ _ _ _ c.self.view_is c.self.invariant.listed
          (inl (sym c.first.ensures ∙ c.in_default.is)),
    )

pub overflow_add-self : goal.overflow_add-self
overflow_add-self g c = omega (arith, on_ok c.make_room.result _ (sym c.if-is_err.ensures.value) c.make_room.ensures.fits)

pub new-job-requires : goal.new-job-requires
new-job-requires g c =
    let found = the_part g.L.Language.lang c.args.who c.self.inside.core.past _ _ c.in-Job.job (sym c.first.ensures ∙ c.in-Some.is)
    c.in-Job.ensures.claimed in
    c.in-Ok.ensures ∙ ap (λ (p : Part). reply_spelling (tells.Dropped p)) (sym found)

pub invariant_of-self-in-Nothing : goal.invariant_of-self-in-Nothing
invariant_of-self-in-Nothing g c =
    let inside = c.self.inside in
    still_kept g.L.Language.lang inside.service inside.outbox c.make_room.new.outbox _ inside.last inside.held _ _ c.self.invariant
    c.make_room.ensures.items c.make_room.ensures.waiting c.make_room.ensures.free _ c.in-Nothing.ensures.claimed.1 (λ w. refl)

pub returns-in-Nothing-clause-claimed : goal.returns-in-Nothing-clause-claimed
returns-in-Nothing-clause-claimed g c =
    let l = g.L.Language.lang in (
      c.make_room.ensures.items ∙ ap (λ (x : SessionState). x.items) c.self.view_is,
      known_outside l (λ service s. IsIdle l s c.args.who) _ _ _ _ c.self.view_is c.self.invariant.listed
          c.in-Nothing.ensures.claimed.0,
    )

pub invariant_of-self-in-NoMemory : goal.invariant_of-self-in-NoMemory
invariant_of-self-in-NoMemory g c =
    let inside = c.self.inside in
    still_kept g.L.Language.lang inside.service inside.outbox c.make_room.new.outbox _ inside.last inside.held _ _ c.self.invariant
    c.make_room.ensures.items c.make_room.ensures.waiting c.make_room.ensures.free _ c.in-NoMemory.ensures.claimed (λ w. refl)

pub invariant_of-self-in-Job : goal.invariant_of-self-in-Job
invariant_of-self-in-Job g c =
    let l = g.L.Language.lang in
    let k = c.self.invariant in
    claimed_kept l c.self.inside.service (state_kept k) c.args.who _ c.in-Job.job _
    (sym c.first.ensures ∙ c.in-Some.is) c.in-Job.ensures.claimed c.free_laws.ensures k
    (known_inside l (λ service t. c.args.who ≤ free_workers service) _ _ _ _ c.self.view_is k.listed c.requires.who)
    c.make_room.new.outbox c.add.new.self c.make_room.ensures.items c.make_room.ensures.waiting
    (on_ok c.make_room.result _ (sym c.if-is_err.ensures.value) c.make_room.ensures.ok)
    c.add.ensures.items c.add.ensures.waiting c.add.ensures.free

pub returns-in-Job-clause-claimed : goal.returns-in-Job-clause-claimed
returns-in-Job-clause-claimed g c =
    claimed_so g.L.Language.lang c.self.inside.service (state_kept c.self.invariant) c.args.who _ c.in-Job.job _
    (sym c.first.ensures ∙ c.in-Some.is) c.in-Job.ensures.claimed c.add.new.self _ c.self.view_is (invariant_of-self-in-Job g c)
    (c.add.ensures.items ∙ ap (λ (is : List SessionItem). Made (entry.Claimed c.args.who c.in-Some.first) ∷ is)
    c.make_room.ensures.items) c.new-job.result c.new-job.ensures

pub returns-in-Job-clause-legal : goal.returns-in-Job-clause-legal
returns-in-Job-clause-legal g c = (invariant_of-self-in-Job g c).listed.legal
