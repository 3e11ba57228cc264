-- What becomes of a reply is what it makes of what is known.
use Rattle.std.proofs.Common.{◌≡◌, Bool, true, false, not, ◌||◌, List, [], ◌∷◌, Some, None, refl, ap, sym, subst, ◌∙◌}
use Rattle.std.specs.Prelude.{if◌then◌else◌}
use Rattle.std.specs.List.{list_any}
use Rattle.pide_base.specs.declared.part.Part.{Part}
use Rattle.report_markup.specs.declared.report.Report.{Report}
use Rattle.message_values.specs.declared.mode.Mode.{Mode}
use Rattle.reply_messages.specs.declared.told.Told.{Told}
use Rattle.reply_messages.specs.declared.told.Told.TheVariants as tells
use Rattle.mirror_rules.specs.Answers.{Read, is_answer, can_answer}
use Rattle.mirror_rules.specs.Images.{Mirror}
use Rattle.mirror_rules.specs.Replies.{after_answer, after_first_answer, after_reply, after_report, mirror_after, without_finish}
use Rattle.mirror_rules.specs.Reports.{belongs_in}
use Rattle.mirror_rules.specs.Unexpected.{names_another}
use Rattle.pide_mirror.specs.Knowing.{IsDocument, IsGoing, is_wrong, part_report}
use Rattle.pide_mirror.specs.Taking.{TakenSo}
use Rattle.pide_mirror.specs.declared.document.Document.{Document}
use Rattle.pide_mirror.specs.declared.going.Going.{Going}
use Rattle.pide_mirror.proofs.Replying.{unexpected_report, unexpected_dropped, unexpected_alone, unexpected_answer}
use Rattle.pide_mirror.proofs.Unanswered.{after_answers, unanswered_stay}

-- a document stands for what is known whatever is unanswered
pub other_unanswered : (document : Document) (m : Mirror) (reads : List Read) → IsDocument document m → IsDocument document (record m { unanswered = reads })
other_unanswered document m reads is = record {
  buffer = is.buffer;
  live = is.live;
  tip = is.tip;
  last = is.last;
  protocol = is.protocol;
  nodes = is.nodes;
  below = is.below;
}

taken_by : (b : Bool) (after : Mirror) (going : Going) (expected : Bool) → b ≡ not expected → (expected ≡ true → IsGoing going after)
    → TakenSo (if b then None else Some after) going expected
taken_by b after going true is known = subst (λ c. TakenSo (if c then None else Some after) going true) (sym is) (refl, known refl)
taken_by b after going false is known = subst (λ c. TakenSo (if c then None else Some after) going false) (sym is) refl

module _ (mode : Mode) (m : Mirror) (old new : Going) (going : IsGoing old m) where
  -- a report that belongs to a command, or to none
  pub report_taken : (part : Part) (reports : List Report) (taken : Bool)
      → taken ≡ list_any (λ one. belongs_in (part_report m part reports) one.version) m.live
      → (taken ≡ true → IsDocument new.document (after_report m part reports))
      → (taken ≡ true → new.unanswered.items ≡ without_finish mode old.unanswered.items)
      → TakenSo (mirror_after mode m (Some (tells.Report part reports))) new taken
  report_taken part reports taken is known rest = taken_by _ _ new taken (unexpected_report m part reports ∙ ap not (sym is)) (λ yes. record {
    document = other_unanswered new.document (after_report m part reports) _ (known yes);
    unanswered = rest yes ∙ ap (without_finish mode) going.unanswered;
  })

  -- a dropped part
  pub dropped_taken : (part : Part) → new.document ≡ old.document → new.unanswered.items ≡ without_finish mode old.unanswered.items
      → TakenSo (mirror_after mode m (Some (tells.Dropped part))) new true
  dropped_taken part document rest = taken_by _ _ new true (unexpected_dropped m part) (λ yes. record {
    document = subst (λ d. IsDocument d (record m { unanswered = without_finish mode m.unanswered })) (sym document)
        (other_unanswered old.document m (without_finish mode m.unanswered) going.document);
    unanswered = rest ∙ ap (without_finish mode) going.unanswered;
  })

  module _ (told : Told) (answers : is_answer told ≡ true) where
    -- an answer to nothing
    pub alone_taken : old.unanswered.items ≡ [] → TakenSo (mirror_after mode m (Some told)) new false
    alone_taken none = taken_by _ _ new false (unexpected_alone m told answers (sym going.unanswered ∙ none)) (λ yes. absurd (cc))

    -- an answer of another kind or version
    pub other_taken : (read : Read) (more : List Read) → old.unanswered.items ≡ read ∷ more
        → (not (can_answer read told) || names_another (Some read) told) ≡ true → TakenSo (mirror_after mode m (Some told)) new false
    other_taken read more first other = taken_by _ _ new false
        (unexpected_answer m read more told answers (sym going.unanswered ∙ first) ∙ over (not (can_answer read told)) (names_another (Some read) told) (is_wrong m read told) other) (λ yes. absurd (cc))
      where
        over : (a b w : Bool) → (a || b) ≡ true → (a || (b || w)) ≡ true
        over true b w is = refl
        over false true w is = refl
        over false false w is = absurd (cc)

    -- one that is the message's own
    pub answer_taken : (read : Read) (more : List Read) → old.unanswered.items ≡ read ∷ more → new.unanswered.items ≡ more
        → can_answer read told ≡ true → names_another (Some read) told ≡ false
        → (expected : Bool) → expected ≡ not (is_wrong m read told)
        → ((n : Mirror) → IsDocument old.document n → expected ≡ true → IsDocument new.document (after_answer n read told))
        → TakenSo (mirror_after mode m (Some told)) new expected
    answer_taken read more first rest kind same expected is known = taken_by _ _ new expected
        (unexpected_answer m read more told answers unanswered ∙ ap (λ b. not b || (names_another (Some read) told || is_wrong m read told)) kind
        ∙ ap (λ b. b || is_wrong m read told) same ∙ turned (is_wrong m read told) expected is)
        (λ yes. subst (IsGoing new) (sym after_is) (record {
          document = known left (other_unanswered old.document m more going.document) yes;
          unanswered = rest ∙ sym (unanswered_stay left read told);
        }))
      where
        left : Mirror
        left = record m { unanswered = more }

        unanswered : m.unanswered ≡ read ∷ more
        unanswered = sym going.unanswered ∙ first

        after_is : after_reply mode m told ≡ after_answer left read told
        after_is = after_answers mode m told answers ∙ ap (λ reads. after_first_answer m reads told) unanswered

        turned : (w e : Bool) → e ≡ not w → w ≡ not e
        turned true false is = refl
        turned false true is = refl
        turned true true is = absurd (cc)
        turned false false is = absurd (cc)
