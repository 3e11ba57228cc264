-- A session whose waiting replies are written.
use Rattle.std.proofs.Common.{◌≡◌, ◌⊎◌, ℕ, true, false, List, [], ◌∷◌, ◌++◌, length, Option, inl, inr, refl, sym, ap, subst, ◌∙◌, append_assoc}
use Rattle.std.specs.Io.KnownBytes.{Appends}
use Rattle.std.proofs.KnownBytes.{Appends-trans}
use Rattle.pide_base.specs.Moves.{AppendsFront}
use Rattle.pide_base.proofs.Known.{AppendsFront-after, front_more}
use Rattle.language.specs.Lang.{Lang}
use Rattle.reply_outbox.specs.declared.item.Item.TheVariants as item
use Rattle.reply_outbox.specs.Items.{entries, is_lost}
use Rattle.session_rules.specs.declared.entry.Entry.{Entry}
use Rattle.session_rules.specs.declared.service.Service.{Service}
use Rattle.session_rules.specs.Heard.{Heard, all_heard}
use Rattle.session_rules.specs.Replies.{replies}
use Rattle.document_session.specs.keeping_rules_below.Items.{SessionItem, heard_in, writer_of}
use Rattle.document_session.specs.keeping_rules_below.Legal.{AreLegal}
use Rattle.document_session.specs.keeping_rules_below.Pieces.{pieces, AreWaiting}
use Rattle.document_session.specs.Contents.{SessionState}
use Rattle.document_serve.specs.Served.{AllSent, IsLostLast, WritesFront, WritesOn, WritesSome, replies_in, sent_in}
use Rattle.document_serve.specs.Runs.{IsSame}
use Rattle.document_serve.proofs.KnownSent.{joined, none_waits, sent_front, sent_next}

-- the replies of a session that wait
abbrev pub Waits : {S : Type 0} → Lang S → SessionState → List (List ℕ) → Type 0
Waits l s waiting = AreWaiting (pieces l s.service (heard_in s.service s.items)) s.items waiting

-- nothing was done yet
pub same_first : {S : Type 0} (l : Lang S) (s : SessionState) → AreLegal l s.service s.items → IsSame l s s
same_first l s legal = record { service = refl; entries_are = refl; legal = legal }

-- what is written so far
pub record Goes {S : Type 0} (l : Lang S) (held held' : Option (List ℕ)) (old new : SessionState) : Type 0 where
  pub same : IsSame l old new
  pub kept : is_lost new.items ≡ false
  pub writes : WritesOn l held held' old new

module _ {S : Type 0} (l : Lang S) (held now : Option (List ℕ)) (old s : SessionState) (goes : Goes l held now old s) where
  -- no more waits
  pub all_written : (waiting : List (List ℕ)) → Waits l s waiting → (waiting ≡ []) ⊎ (is_lost s.items ≡ true) → AllSent l s.service s.items
  all_written waiting waits (inl none) = none_waits l s.service s.items (subst (Waits l s) none waits)
  all_written waiting waits (inr lost) = let kept = goes.kept in absurd (cc)

  module _ (next : SessionState) (bytes : List ℕ) (service : next.service ≡ s.service)
      (items : next.items ≡ item.Sent (writer_of s.service) (length bytes) ∷ s.items) (waits : Waits l s (bytes ∷ next.waiting)) where
    same_service : next.service ≡ old.service
    same_service = service ∙ goes.same.service

    same_entries : entries next.items ≡ entries old.items
    same_entries = ap (λ (is : List SessionItem). entries is) items ∙ goes.same.entries_are

    sent_is : sent_in l next.service next.items ≡ sent_in l s.service s.items ++ bytes
    sent_is = ap (λ (v : Service). sent_in l v next.items) service ∙ ap (sent_in l s.service) items
        ∙ sent_next l s.service s.items (writer_of s.service) (length bytes) bytes next.waiting waits

    -- one more is written
    pub next_written : (then : Option (List ℕ)) → AreLegal l next.service next.items → Appends now then bytes → Goes l held then old next
    next_written then legal pushed = record {
      same = record { service = same_service; entries_are = same_entries; legal = legal };
      kept = ap (λ (is : List SessionItem). is_lost is) items ∙ goes.kept;
      writes = λ first w. subst (Appends first then) (sym sent_is)
          (Appends-trans first now then (sent_in l s.service s.items) bytes (goes.writes first w) pushed);
    }

    same_replies : (lost : SessionState) → lost.service ≡ next.service → entries lost.items ≡ entries next.items
        → replies_in l lost.service lost.items ≡ replies_in l s.service s.items
    same_replies lost same are = ap (λ (v : Service). replies l v (all_heard v (entries lost.items))) (same ∙ service)
        ∙ ap (λ (es : List Entry). replies l s.service (all_heard s.service es)) (are ∙ ap (λ (is : List SessionItem). entries is) items)

    module _ (lost : SessionState) (same : lost.service ≡ next.service) (are : lost.items ≡ item.Lost (writer_of next.service) ∷ next.items)
        (legal : AreLegal l lost.service lost.items) where
      lost_entries : entries lost.items ≡ entries next.items
      lost_entries = ap (λ (is : List SessionItem). entries is) are

      -- the sink fails
      pub lost_same : IsSame l old lost
      lost_same = record { service = same ∙ same_service; entries_are = lost_entries ∙ same_entries; legal = legal }

      lost_sent : sent_in l lost.service lost.items ≡ sent_in l s.service s.items ++ bytes
      lost_sent = ap (λ (v : Service). sent_in l v lost.items) same ∙ ap (sent_in l next.service) are ∙ sent_is

      -- nothing is done since then
      pub lost_last : IsLostLast lost
      lost_last = record {
        before = next.items;
        is = are ∙ ap (λ (v : Service). item.Lost (writer_of v) ∷ next.items) (sym same);
        kept = ap (λ (is : List SessionItem). is_lost is) items ∙ goes.kept;
      }

      pub lost_some : (then : Option (List ℕ)) → AppendsFront now then bytes → WritesSome l held then old lost
      lost_some then failed first w = subst (AppendsFront first then) (sym lost_sent)
          (AppendsFront-after first now then (sent_in l s.service s.items) bytes (goes.writes first w) failed)

      pub lost_written : (then : Option (List ℕ)) → ((v : Service) (h : List Heard) → joined (pieces l v h) ≡ replies l v h)
          → AppendsFront now then bytes → WritesFront l held then old lost
      lost_written then law failed first w =
          let front : AppendsFront first then (sent_in l s.service s.items ++ bytes) =
          AppendsFront-after first now then (sent_in l s.service s.items) bytes (goes.writes first w) failed in
          let whole : replies_in l s.service s.items ≡ (sent_in l s.service s.items ++ bytes) ++ joined next.waiting =
          sent_front l s.service s.items (law s.service) (bytes ∷ next.waiting) waits
          ∙ sym (append_assoc (sent_in l s.service s.items) bytes (joined next.waiting)) in
          subst (AppendsFront first then) (sym (same_replies lost same lost_entries ∙ whole))
          (front_more first then (sent_in l s.service s.items ++ bytes) (joined next.waiting) front)
