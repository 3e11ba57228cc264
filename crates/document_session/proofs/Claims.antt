-- The first ready part, as a worker took it that works as it finds parts ready.
use Rattle.std.proofs.Common.{◌≡◌, ℕ, ◌+◌, ◌≤◌, List, [], ◌∷◌, ◌++◌, Some, sym, ap, subst, ◌∙◌, arith}
use Rattle.pide_base.specs.declared.part.Part.{Part}
use Rattle.language.specs.Lang.{Lang}
use Rattle.core_jobs.specs.Fits.{IsJobOf}
use Rattle.core_jobs.specs.Jobs.{JobContent}
use Rattle.core_rules.specs.declared.event.Event.{Event}
use Rattle.core_rules.specs.declared.event.Event.TheVariants as event
use Rattle.core_rules.specs.Ready.{first_ready}
use Rattle.prover_core.specs.Claims.{IsClaimed as CoreIsClaimed}
use Rattle.reply_outbox.specs.declared.item.Item.TheVariants.{Made}
use Rattle.reply_outbox.specs.Waiting.{Log}
use Rattle.session_rules.specs.declared.entry.Entry.{Entry}
use Rattle.session_rules.specs.declared.entry.Entry.TheVariants as entry
use Rattle.session_rules.specs.declared.service.Service.{Service}
use Rattle.session_rules.specs.Services.{free_workers}
use Rattle.session_rules.specs.Session.{document}
use Rattle.keeping_rules.specs.session_replies_below.Works.{Work}
use Rattle.keeping_rules.specs.Items.{SessionItem, session_in}
use Rattle.keeping_rules.specs.Kept.{IsKept}
use Rattle.keeping_rules.specs.States.{State, IsSound, with_past}
use Rattle.keeping_rules.specs.Workers.{FreeLaws}
use Rattle.document_session.specs.Answers.{IsClaimed}
use Rattle.document_session.specs.Contents.{SessionState}
use Rattle.document_session.proofs.Still.{seen}
use Rattle.document_session.proofs.Worked.{work_taken}

-- the job's part is the one that was found ready
pub the_part : {S : Type 0} (l : Lang S) (who : ℕ) (h past : List Event) (part : Part) (job : JobContent S)
    → first_ready l h ≡ Some part → CoreIsClaimed l who h job past → job.part ≡ part
the_part l who h past part job first told = let same : Some job.part ≡ Some part = sym told.2 ∙ first in cc

module _ {S : Type 0} (l : Lang S) (service : Service) (st : State S) (who : ℕ) (part : Part) (job : JobContent S) (past : List Event)
    (first : first_ready l st.session.events ≡ Some part) (told : CoreIsClaimed l who st.session.events job past) where
  happened : past ≡ event.Claimed who part ∷ st.session.events
  happened = told.4 ∙ ap (λ (p : Part). event.Claimed who p ∷ st.session.events) (the_part l who st.session.events past part job first told)

  -- what is kept then
  pub claimed_kept : FreeLaws l → IsSound l service st → who ≤ free_workers service → (mid new : Log Service Entry) → mid.items ≡ st.log.items
      → mid.waiting ≡ st.log.waiting → st.holding + 1 + 2 ≤ mid.free → new.items ≡ Made (entry.Claimed who part) ∷ mid.items
      → new.waiting ≡ mid.waiting ++ [] → new.free + 1 ≡ mid.free
      → IsKept l service new (with_past st.session past) st.last (st.holding + 1) st.jobs
  claimed_kept laws k free mid new items waiting room more says less =
      subst (λ (h : List Event). IsKept l service new (with_past st.session h) st.last (st.holding + 1) st.jobs) (sym happened)
      (laws.claimed service st who part new k free told.1 told.0 first
      (more ∙ ap (λ (is : List SessionItem). Made (entry.Claimed who part) ∷ is) items)
      (says ∙ ap (λ (ws : List (List ℕ)). ws ++ []) waiting) (omega (arith, room, less)))

  -- what is answered, by what is kept
  pub claimed_so : (new : Log Service Entry) (now : SessionState) → seen service st.log ≡ now
      → IsKept l service new (with_past st.session past) st.last (st.holding + 1) st.jobs
      → new.items ≡ Made (entry.Claimed who part) ∷ st.log.items → (work : Work S)
      → work ≡ record { job = job; protocol = st.session.protocol } → IsClaimed l now.service who now.items work new.items
  claimed_so new now same kept items work is =
      let jobs : work.job ≡ job = ap (λ (w : Work S). w.job) is in
      let parts : work.job.part ≡ job.part = ap (λ (j : JobContent S). j.part) jobs in
      let found : work.job.part ≡ part = parts ∙ the_part l who st.session.events past part job first told in
      let after : past ≡ event.Claimed who work.job.part ∷ st.session.events =
      told.4 ∙ ap (λ (p : Part). event.Claimed who p ∷ st.session.events) (sym parts) in
      subst (λ (x : SessionState). IsClaimed l x.service who x.items work new.items) same (
        items ∙ ap (λ (p : Part). Made (entry.Claimed who p) ∷ st.log.items) (sym found),
        work_taken l st.session (session_in l service new.items) who work
            (kept.listed.stands ∙ ap (λ (h : List Event). with_past st.session h) after)
            (subst (λ (j : JobContent S). IsJobOf l (document l st.session).homes j) (sym jobs) told.3)
            (ap (λ (w : Work S). w.protocol) is),
      )
