-- Replies that are expected, and what they make of a mirror.
use Rattle.std.proofs.Common.{◌≡◌, ℕ, Bool, true, false, List, ◌∷◌, Option, Some, None, Ok, Err, refl, ap, sym, subst, ◌∙◌}
use Rattle.std.proofs.lemmas.Bool.{eq-eqb}
use Rattle.std.specs.Prelude.{slice_get, not, ◌||◌, if◌then◌else◌}
use Rattle.pide_base.specs.declared.part.Part.{Part}
use Rattle.report_markup.specs.declared.report.Report.{Report}
use Rattle.message_values.specs.declared.editor_message.EditorMessage.TheVariants as asks
use Rattle.message_values.specs.declared.item.Item.{Item}
use Rattle.message_values.specs.declared.item.BlobChange.{BlobChange}
use Rattle.message_values.specs.declared.mode.Mode.{Mode}
use Rattle.message_values.specs.declared.protocol.Protocol.{Protocol}
use Rattle.message_values.specs.declared.refusal.Refusal.{Refusal}
use Rattle.text_edits.specs.declared.edit.Edit.{Edit}
use Rattle.buffer_rules.specs.Preparing.{Buffer}
use Rattle.reply_messages.specs.declared.told.NodeRows.{NodeRows}
use Rattle.reply_messages.specs.declared.told.Told.{Told}
use Rattle.reply_messages.specs.declared.told.Told.TheVariants as tells
use Rattle.mirror_rules.specs.Answers.{Read}
use Rattle.mirror_rules.specs.Images.{Mirror}
use Rattle.mirror_rules.specs.Replies.{after_reply, after_answer, after_first_answer, mirror_after}
use Rattle.mirror_rules.specs.Unexpected.{answers_nothing, answers_another, differ, names_another, belongs_nowhere, is_refused, assigns_refused, lists_unknown, assigns_unknown}
use Rattle.mirror_rules.specs.Updates.{buffer_after}

-- none of the reasons holds
pub record IsFine (m : Mirror) (first : Option Read) (told : Told) : Type 0 where
  pub nothing : answers_nothing first told ≡ false
  pub another : answers_another first told ≡ false
  pub version : names_another first told ≡ false
  pub nowhere : belongs_nowhere m told ≡ false
  pub refused : assigns_refused m first told ≡ false
  pub unknown : assigns_unknown m first told ≡ false

none_of : (a b c d e f : Bool) → a ≡ false → b ≡ false → c ≡ false → d ≡ false → e ≡ false → f ≡ false → (a || b || c || d || e || f) ≡ false
none_of false false false false false false p q r s t u = refl
none_of true b c d e f p q r s t u = absurd (cc)
none_of false true c d e f p q r s t u = absurd (cc)
none_of false false true d e f p q r s t u = absurd (cc)
none_of false false false true e f p q r s t u = absurd (cc)
none_of false false false false true f p q r s t u = absurd (cc)
none_of false false false false false true p q r s t u = absurd (cc)

-- then it is heard
pub is_heard : (mode : Mode) (m : Mirror) (told : Told) → IsFine m (slice_get m.unanswered 0) told → mirror_after mode m (Some told) ≡ Some (after_reply mode m told)
is_heard mode m told fine = ap (λ b. if b then None else Some (after_reply mode m told))
    (none_of (answers_nothing (slice_get m.unanswered 0) told) (answers_another (slice_get m.unanswered 0) told)
    (names_another (slice_get m.unanswered 0) told) (belongs_nowhere m told)
    (assigns_refused m (slice_get m.unanswered 0) told) (assigns_unknown m (slice_get m.unanswered 0) told)
    fine.nothing fine.another fine.version fine.nowhere fine.refused fine.unknown)

-- an answer for the first message
pub answer_heard : (mode : Mode) (m : Mirror) (read : Read) (more : List Read) (told : Told) → m.unanswered ≡ read ∷ more
    → IsFine m (Some read) told → after_reply mode m told ≡ after_first_answer m m.unanswered told
    → mirror_after mode m (Some told) ≡ Some (after_answer (record m { unanswered = more }) read told)
answer_heard mode m read more told waits fine is =
    is_heard mode m told (subst (λ (rs : List Read). IsFine m (slice_get rs 0) told) (sym waits) fine)
    ∙ ap (λ x. Some x) (is ∙ ap (λ rs. after_first_answer m rs told) waits)

same_id : (n : ℕ) → differ (Some n) (Some n) ≡ false
same_id n = ap not (eq-eqb n n refl)

module _ (m : Mirror) where
  pub refusal_fine : (read : Read) (reason : Refusal) → IsFine m (Some read) (tells.Refused reason)
  refusal_fine (Err bad) reason = record { nothing = refl; another = refl; version = refl; nowhere = refl; refused = refl; unknown = refl }
  refusal_fine (Ok (asks.Update v items blobs)) reason = record { nothing = refl; another = refl; version = refl; nowhere = refl; refused = refl; unknown = refl }
  refusal_fine (Ok (asks.Snapshot v node edits)) reason = record { nothing = refl; another = refl; version = refl; nowhere = refl; refused = refl; unknown = refl }
  refusal_fine (Ok (asks.Cancel e)) reason = record { nothing = refl; another = refl; version = refl; nowhere = refl; refused = refl; unknown = refl }
  refusal_fine (Ok (asks.RemoveVersions vs)) reason = record { nothing = refl; another = refl; version = refl; nowhere = refl; refused = refl; unknown = refl }
  refusal_fine (Ok (asks.Settle v)) reason = record { nothing = refl; another = refl; version = refl; nowhere = refl; refused = refl; unknown = refl }
  refusal_fine (Ok (asks.Protocol p)) reason = record { nothing = refl; another = refl; version = refl; nowhere = refl; refused = refl; unknown = refl }
  refusal_fine (Ok (asks.Claim w)) reason = record { nothing = refl; another = refl; version = refl; nowhere = refl; refused = refl; unknown = refl }
  refusal_fine (Ok (asks.Finish w)) reason = record { nothing = refl; another = refl; version = refl; nowhere = refl; refused = refl; unknown = refl }
  refusal_fine (Ok (asks.Theory node text)) reason = record { nothing = refl; another = refl; version = refl; nowhere = refl; refused = refl; unknown = refl }

  -- a refusal changes nothing
  pub refusal_after : (read : Read) (reason : Refusal) → after_answer m read (tells.Refused reason) ≡ m
  refusal_after (Err bad) reason = refl
  refusal_after (Ok (asks.Update v items blobs)) reason = refl
  refusal_after (Ok (asks.Snapshot v node edits)) reason = refl
  refusal_after (Ok (asks.Cancel e)) reason = refl
  refusal_after (Ok (asks.RemoveVersions vs)) reason = refl
  refusal_after (Ok (asks.Settle v)) reason = refl
  refusal_after (Ok (asks.Protocol p)) reason = refl
  refusal_after (Ok (asks.Claim w)) reason = refl
  refusal_after (Ok (asks.Finish w)) reason = refl
  refusal_after (Ok (asks.Theory node text)) reason = refl

  pub snapshot_fine : (v : ℕ) (node : List ℕ) (edits : List Edit) (reports : List Report) (pending : List ℕ) (outdated : Bool)
      → IsFine m (Some (Ok (asks.Snapshot v node edits))) (tells.Markup v node reports pending outdated)
  snapshot_fine v node edits reports pending outdated =
      record { nothing = refl; another = refl; version = same_id v; nowhere = refl; refused = refl; unknown = refl }

  pub cancelled_fine : (e : ℕ) → IsFine m (Some (Ok (asks.Cancel e))) (tells.Cancelled e)
  cancelled_fine e = record { nothing = refl; another = refl; version = refl; nowhere = refl; refused = refl; unknown = refl }

  pub idle_fine : (e : ℕ) → IsFine m (Some (Ok (asks.Cancel e))) (tells.Idle e)
  idle_fine e = record { nothing = refl; another = refl; version = refl; nowhere = refl; refused = refl; unknown = refl }

  pub removed_fine : (vs ids : List ℕ) → IsFine m (Some (Ok (asks.RemoveVersions vs))) (tells.Removed ids)
  removed_fine vs ids = record { nothing = refl; another = refl; version = refl; nowhere = refl; refused = refl; unknown = refl }

  pub settled_fine : (v : ℕ) (stuck : List ℕ) → IsFine m (Some (Ok (asks.Settle v))) (tells.Settled v stuck)
  settled_fine v stuck = record { nothing = refl; another = refl; version = same_id v; nowhere = refl; refused = refl; unknown = refl }

  pub protocol_fine : (p : Protocol) → IsFine m (Some (Ok (asks.Protocol p))) (tells.Protocol p)
  protocol_fine p = record { nothing = refl; another = refl; version = refl; nowhere = refl; refused = refl; unknown = refl }

  pub claimed_fine : (w : ℕ) (part : Part) → IsFine m (Some (Ok (asks.Claim w))) (tells.Claimed w part)
  claimed_fine w part = record { nothing = refl; another = refl; version = refl; nowhere = refl; refused = refl; unknown = refl }

  -- rows for an update that the editor's document takes
  pub assigned_fine : (v : ℕ) (items : List Item) (blobs : List BlobChange) (listed : List NodeRows) (buffer : Buffer)
      → buffer_after m v (record { items = items; blobs = blobs }) ≡ Ok buffer → lists_unknown listed (Ok buffer) ≡ false
      → IsFine m (Some (Ok (asks.Update v items blobs))) (tells.Assign v listed)
  assigned_fine v items blobs listed buffer takes known = record {
    nothing = refl;
    another = refl;
    version = same_id v;
    nowhere = refl;
    refused = ap is_refused takes;
    unknown = ap (lists_unknown listed) takes ∙ known;
  }

  -- what is no answer, whatever waits
  pub dropped_fine : (first : Option Read) (part : Part) → IsFine m first (tells.Dropped part)
  dropped_fine None part = record { nothing = refl; another = refl; version = refl; nowhere = refl; refused = refl; unknown = refl }
  dropped_fine (Some (Err bad)) part = record { nothing = refl; another = refl; version = refl; nowhere = refl; refused = refl; unknown = refl }
  dropped_fine (Some (Ok (asks.Update v items blobs))) part = record { nothing = refl; another = refl; version = refl; nowhere = refl; refused = refl; unknown = refl }
  dropped_fine (Some (Ok (asks.Snapshot v node edits))) part = record { nothing = refl; another = refl; version = refl; nowhere = refl; refused = refl; unknown = refl }
  dropped_fine (Some (Ok (asks.Cancel e))) part = record { nothing = refl; another = refl; version = refl; nowhere = refl; refused = refl; unknown = refl }
  dropped_fine (Some (Ok (asks.RemoveVersions vs))) part = record { nothing = refl; another = refl; version = refl; nowhere = refl; refused = refl; unknown = refl }
  dropped_fine (Some (Ok (asks.Settle v))) part = record { nothing = refl; another = refl; version = refl; nowhere = refl; refused = refl; unknown = refl }
  dropped_fine (Some (Ok (asks.Protocol p))) part = record { nothing = refl; another = refl; version = refl; nowhere = refl; refused = refl; unknown = refl }
  dropped_fine (Some (Ok (asks.Claim w))) part = record { nothing = refl; another = refl; version = refl; nowhere = refl; refused = refl; unknown = refl }
  dropped_fine (Some (Ok (asks.Finish w))) part = record { nothing = refl; another = refl; version = refl; nowhere = refl; refused = refl; unknown = refl }
  dropped_fine (Some (Ok (asks.Theory node text))) part = record { nothing = refl; another = refl; version = refl; nowhere = refl; refused = refl; unknown = refl }

  pub report_fine : (first : Option Read) (part : Part) (reports : List Report) → belongs_nowhere m (tells.Report part reports) ≡ false
      → IsFine m first (tells.Report part reports)
  report_fine None part reports there = record { nothing = refl; another = refl; version = refl; nowhere = there; refused = refl; unknown = refl }
  report_fine (Some (Err bad)) part reports there = record { nothing = refl; another = refl; version = refl; nowhere = there; refused = refl; unknown = refl }
  report_fine (Some (Ok (asks.Update v items blobs))) part reports there = record { nothing = refl; another = refl; version = refl; nowhere = there; refused = refl; unknown = refl }
  report_fine (Some (Ok (asks.Snapshot v node edits))) part reports there = record { nothing = refl; another = refl; version = refl; nowhere = there; refused = refl; unknown = refl }
  report_fine (Some (Ok (asks.Cancel e))) part reports there = record { nothing = refl; another = refl; version = refl; nowhere = there; refused = refl; unknown = refl }
  report_fine (Some (Ok (asks.RemoveVersions vs))) part reports there = record { nothing = refl; another = refl; version = refl; nowhere = there; refused = refl; unknown = refl }
  report_fine (Some (Ok (asks.Settle v))) part reports there = record { nothing = refl; another = refl; version = refl; nowhere = there; refused = refl; unknown = refl }
  report_fine (Some (Ok (asks.Protocol p))) part reports there = record { nothing = refl; another = refl; version = refl; nowhere = there; refused = refl; unknown = refl }
  report_fine (Some (Ok (asks.Claim w))) part reports there = record { nothing = refl; another = refl; version = refl; nowhere = there; refused = refl; unknown = refl }
  report_fine (Some (Ok (asks.Finish w))) part reports there = record { nothing = refl; another = refl; version = refl; nowhere = there; refused = refl; unknown = refl }
  report_fine (Some (Ok (asks.Theory node text))) part reports there = record { nothing = refl; another = refl; version = refl; nowhere = there; refused = refl; unknown = refl }
