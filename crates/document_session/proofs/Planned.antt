-- What a plan of an update tells, and what a session keeps once it was carried out.
use Rattle.std.proofs.Common.{◌≡◌, ℕ, true, List, ◌∷◌, Option, sym, ap, subst, ◌∙◌}
use Rattle.std.specs.Prelude.{◌≤◌}
use Rattle.pide_base.specs.Ids.{id_end}
use Rattle.exec_rules.specs.Kept.{BlobList}
use Rattle.exec_rules.specs.Listed.{Told, listed}
use Rattle.exec_rules.specs.declared.version.Version.{Version}
use Rattle.doc_nodes.specs.Imports.{NodeList}
use Rattle.language.specs.Lang.{Lang}
use Rattle.buffer_rules.specs.Preparing.{Buffer}
use Rattle.core_rules.specs.declared.event.Event.{Event}
use Rattle.core_rules.specs.declared.event.Event.TheVariants as event
use Rattle.core_rules.specs.Doc.{assignment_of, assigned_version}
use Rattle.prover_core.specs.Plans.{PlanState, IsPlanOf, made_version}
use Rattle.reply_outbox.specs.Waiting.{Log}
use Rattle.session_rules.specs.declared.entry.Entry.{Entry}
use Rattle.session_rules.specs.declared.service.Service.{Service}
use Rattle.session_rules.specs.Session.{Session, document}
use Rattle.session_rules.specs.Updating.{with_buffer}
use Rattle.session_rules.specs.Replies.{rows_told}
use Rattle.keeping_rules.specs.session_replies_below.Assigned.{nodes_told}
use Rattle.keeping_rules.specs.session_replies_below.Works.{Work}
use Rattle.keeping_rules.specs.Kept.{session_of, IsKept}

module _ {S : Type 0} (l : Lang S) (s : Session) (version : ℕ) (b : Buffer) (p : PlanState) (is : IsPlanOf l s.events p)
    (nodes : p.nodes ≡ b.nodes) (blobs : p.blobs ≡ b.document.blobs) where
  new_tip : made_version p ≡ (document l (with_buffer s version b)).tip
  new_tip = ap (assigned_version p.nodes p.blobs) is.assigned
      ∙ ap (λ (ns : NodeList). assigned_version ns p.blobs
      (assignment_of (document l s) ns p.blobs)) nodes
      ∙ ap (λ (bs : BlobList). assigned_version b.nodes bs
      (assignment_of (document l s) b.nodes bs)) blobs

  -- the rows that are told
  pub plan_told : (told : List (List ℕ × List Told)) → told ≡ p.told
      → nodes_told told ≡ rows_told (document l s).tip (document l (with_buffer s version b)).tip
  plan_told told same = ap nodes_told (same ∙ is.tells ∙ ap (λ (v : Version). listed (document l s).tip v) new_tip)

  -- ids suffice
  pub ids_suffice : (assignment_of (document l s) b.nodes b.document.blobs).next ≤ id_end
  ids_suffice = subst (λ (bs : BlobList). (assignment_of (document l s) b.nodes bs).next ≤ id_end) blobs
      (subst (λ (ns : NodeList). (assignment_of (document l s) ns p.blobs).next ≤ id_end) nodes is.fits.numbers)

-- the version was made
pub updated_kept : {S : Type 0} (l : Lang S) (service : Service) (log : Log Service Entry) (s : Session) (version newest holding : ℕ) (b now : Buffer)
    (past : List Event) (jobs : ℕ → Option (Work S)) → IsKept l service log (record (with_buffer s version b) { called = true }) version holding jobs
    → past ≡ event.Update version b.nodes b.document.blobs ∷ s.events → now ≡ b → newest ≡ version
    → IsKept l service log (session_of now past s.protocol true) newest holding jobs
updated_kept l service log s version newest holding b now past jobs k past_is buffer_is newest_is =
    subst (λ (n : ℕ). IsKept l service log (session_of now past s.protocol true) n holding jobs) (sym newest_is)
    (subst (λ (x : Buffer). IsKept l service log (session_of x past s.protocol true) version holding jobs) (sym buffer_is)
    (subst (λ (h : List Event). IsKept l service log (session_of b h s.protocol true) version holding jobs) (sym past_is) k))
