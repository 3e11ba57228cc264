-- Memory that is short while a message is served.
use Rattle.std.proofs.Common.{◌≡◌, ℕ, ◌≤◌, List, [], ◌∷◌, ◌++◌, Option, inl, inr, sym, ap, subst, ◌∙◌, append-nil, arith, length, map}
use Rattle.std.specs.Io.KnownBytes.{Appends}
use Rattle.pide_base.specs.declared.part.Part.{Part}
use Rattle.language.specs.Lang.{Lang}
use Rattle.reply_outbox.specs.declared.item.Item.TheVariants.{Made}
use Rattle.reply_outbox.specs.Items.{entries, is_lost}
use Rattle.session_rules.specs.declared.entry.Entry.TheVariants as entry
use Rattle.session_rules.specs.declared.service.Service.{Service}
use Rattle.session_rules.specs.Heard.{Heard}
use Rattle.session_rules.specs.Alone.{IsAlone}
use Rattle.session_rules.specs.Legal.{IsTurn}
use Rattle.session_rules.specs.Replies.{claim_told}
use Rattle.session_rules.specs.Steps.{Due, Nothing, Claims, due}
use Rattle.document_session.specs.keeping_rules_below.Items.{SessionItem, heard_in}
use Rattle.document_session.specs.keeping_rules_below.Legal.{AreLegal}
use Rattle.document_session.specs.session_replies_below.Spelling.{reply_spelling}
use Rattle.document_session.specs.keeping_rules_below.Pieces.{pieces}
use Rattle.document_session.specs.Answers.{IsWaiting}
use Rattle.document_session.specs.Contents.{SessionState}
use Rattle.document_serve.specs.Served.{AllSent, calls_in, sent_in}
use Rattle.document_serve.specs.Going.{IsBegunFor, IsTaken, awaited_by}
use Rattle.document_serve.specs.Runs.{RunsShort}
use Rattle.session_rules.proofs.KnownNamed.{AskedLaw, due_named}
use Rattle.document_serve.proofs.KnownSent.{sent_made}
use Rattle.document_serve.specs.Laws.{WorkLaws}
use Rattle.document_serve.proofs.Waiting.{waiting_alone}
use Rattle.document_serve.proofs.Worked.{legal_made}
use Rattle.document_serve.proofs.At.{IsAt, at_kept}
use Rattle.document_serve.specs.Steps.{IsLeftOff}

module _ {S : Type 0} (l : Lang S) (laws : WorkLaws l) (law : AskedLaw)
    (held now : Option (List ℕ)) (old s : SessionState) (came message : List (List ℕ)) (a : IsAt l held now old s came message) where
  -- memory is short
  pub short : RunsShort l held now old s [] (came ∷ [])
  short = record {
    service = a.service;
    legal = a.going.legal;
    called = a.called ∙ sym (append-nil (calls_in old.items));
    alone = inl (subst (λ (m : List (List ℕ)). IsAlone l s.service (awaited_by l s.service (heard_in s.service s.items) m) (heard_in s.service s.items)) a.same a.going.alone);
    writes = a.writes;
    kept = a.going.kept;
    all = a.sent;
  }

  -- memory is short while the reader holds a part
  module _ (w : IsWaiting l s.service s.items message) (new : SessionState) (service : new.service ≡ s.service) (part : Part)
      (is : new.items ≡ Made (entry.Claimed 0 part) ∷ s.items) (legal : AreLegal l new.service new.items) where
    abbrev claimed : List SessionItem
    claimed = Made (entry.Claimed 0 part) ∷ s.items

    abbrev past : List Heard
    past = heard_in s.service s.items

    at_claimed : (P : Service → List SessionItem → Type 0) → P s.service claimed → P new.service new.items
    at_claimed P p = subst (λ (v : Service). P v new.items) (sym service) (subst (P s.service) (sym is) p)

    claimed_legal : AreLegal l s.service claimed
    claimed_legal = subst (λ (v : Service). AreLegal l v claimed) service (subst (AreLegal l new.service) is legal)

    not_due : IsTurn s.service (due l s.service past) 0 (Claims 0) → due l s.service past ≡ Nothing
    not_due (inr other) = other.0
    not_due (inl called) =
        let named = due_named l s.service law a.going.nobody (entries s.items) 0 called in
        let one : 1 ≤ 0 = named.1.0 in absurd (omega (arith, one))

    same_pieces : pieces l s.service (heard_in s.service claimed) ≡ pieces l s.service past
    same_pieces = ap (λ (d : Due). pieces l s.service past ++ map reply_spelling (claim_told part
        d))
        (not_due (legal_made l s.service (entry.Claimed 0 part) s.items claimed_legal).1.1) ∙ append-nil (pieces l s.service past)

    pub left_off : RunsShort l held now old new [] (came ∷ [])
    left_off = record {
      service = service ∙ a.service;
      legal = legal;
      called = ap (λ (xs : List SessionItem). calls_in xs) is ∙ a.called ∙ sym (append-nil (calls_in old.items));
      alone = inr (at_claimed (λ v is. IsBegunFor l v (came ∷ []) (heard_in v is)) (subst (λ (m : List (List ℕ)). IsTaken l s.service m past) a.same (record {
        version = w.version;
        waits_for = w.waits_for;
        unsettled = w.unsettled;
        alone = waiting_alone l laws law s message a.going w;
      })));
      writes = λ first first_held. subst (Appends first now) (at_claimed (λ v is. sent_in l s.service s.items ≡ sent_in l v is)
          (sym (sent_made l s.service s.items (entry.Claimed 0 part) (laws.lists.sends s.service s.items a.going.legal)))) (a.writes first first_held);
      kept = ap (λ (xs : List SessionItem). is_lost xs) is ∙ a.going.kept;
      all = at_claimed (λ v is. AllSent l v is) (a.sent ∙ ap (λ (ts : List (List ℕ)). length ts) (sym same_pieces));
    }

-- whatever the reader left off at
module _ {S : Type 0} (l : Lang S) (laws : WorkLaws l) (law : AskedLaw)
    (held now : Option (List ℕ)) (old s : SessionState) (came message : List (List ℕ)) (a : IsAt l held now old s came message)
    (w : IsWaiting l s.service s.items message) (new : SessionState) (service : new.service ≡ s.service) (legal : AreLegal l new.service new.items) where
  pub work_short : IsLeftOff s.items new.items → RunsShort l held now old new [] (came ∷ [])
  work_short (inl same) = short l laws law held now old new came message (at_kept l held now old s new came message service same a)
  work_short (inr (part, is)) = left_off l laws law held now old s came message a w new service part is legal
