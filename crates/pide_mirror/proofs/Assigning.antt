-- What an update is assigned is expected, or not.
use Rattle.std.proofs.Common.{◌≡◌, ℕ, Bool, true, false, not, ◌||◌, List, Result, Ok, ap, sym, subst, ◌∙◌}
use Rattle.buffer_rules.specs.Preparing.{Buffer}
use Rattle.buffer_rules.specs.Updates.{Asked}
use Rattle.message_values.specs.declared.refusal.Refusal.{Refusal}
use Rattle.reply_messages.specs.declared.told.NodeRows.{NodeRows}
use Rattle.mirror_rules.specs.Images.{Mirror}
use Rattle.mirror_rules.specs.Unexpected.{is_refused, lists_unknown}
use Rattle.mirror_rules.specs.Updates.{after_update, buffer_after, image_after, with_tip}
use Rattle.pide_mirror.specs.Knowing.{IsDocument, AssignsSo}
use Rattle.pide_mirror.specs.declared.document.Document.{Document}

module _ (m : Mirror) (id : ℕ) (asked : Asked) (listed : List NodeRows) (new : Document) where
  abbrev after : Result Buffer Refusal
  after = buffer_after m id asked

  abbrev wrong : Result Buffer Refusal → Bool
  wrong result = not (is_refused result || lists_unknown listed result)

  -- a refused update isn't assigned
  pub refused_assigns : is_refused after ≡ true → AssignsSo m id asked listed false new
  refused_assigns is = record {
    expected_is = sym (ap (λ b. not (b || lists_unknown listed after)) is);
    known = λ yes. absurd (cc);
  }

  -- nor are rows of what isn't there
  pub unknown_assigns : (buffer : Buffer) → after ≡ Ok buffer → lists_unknown listed (Ok buffer) ≡ true → AssignsSo m id asked listed false new
  unknown_assigns buffer made is = record {
    expected_is = sym (ap wrong made ∙ ap not is);
    known = λ yes. absurd (cc);
  }

  -- others are
  pub taken_assigns : (buffer : Buffer) → after ≡ Ok buffer → lists_unknown listed (Ok buffer) ≡ false
      → IsDocument new (with_tip m id buffer (image_after m.tip listed buffer)) → AssignsSo m id asked listed true new
  taken_assigns buffer made is known = record {
    expected_is = sym (ap wrong made ∙ ap not is);
    known = λ yes. subst (λ r. IsDocument new (after_update m id listed r)) (sym made) known;
  }
