-- Who listens has heard what is sent.
use Rattle.std.proofs.Common.{◌≡◌, ℕ, List, [], ◌∷◌, ◌++◌, length, Result, Ok, Err, OnOk, refl, sym, ap, ◌∙◌, append-nil, append_assoc}
use Rattle.language.specs.Lang.{Lang}
use Rattle.reply_outbox.specs.declared.item.Item.TheVariants as item
use Rattle.session_rules.specs.declared.service.Service.{Service}
use Rattle.document_session.specs.keeping_rules_below.Items.{SessionItem, writer_of}
use Rattle.document_session.specs.Contents.{SessionState}
use Rattle.document_serve.specs.Listening.{HearsOn, replies_sent}
use Rattle.document_serve.proofs.KnownSent.{reply_next}
use Rattle.document_serve.proofs.Wrote.{Waits}

module _ {S A : Type 0} (l : Lang S) (Hears : A → List (List ℕ) → A → Type 0) where
  -- nothing was heard yet
  pub hears_first : (s : SessionState) (a : A) → Hears a [] a → HearsOn l Hears s s a a
  hears_first s a none = record { heard = []; sent = sym (append-nil (replies_sent l s.service s.items)); hears = none }

  module _ (on : (a b c : A) (first then : List (List ℕ)) → Hears a first b → Hears b then c → Hears a (first ++ then) c) where
    -- one reply more
    pub hears_next : (old s next : SessionState) (a b c : A) (bytes : List ℕ) → HearsOn l Hears old s a b → next.service ≡ s.service
        → next.items ≡ item.Sent (writer_of s.service) (length bytes) ∷ s.items → Waits l s (bytes ∷ next.waiting) → Hears b (bytes ∷ []) c
        → HearsOn l Hears old next a c
    hears_next old s next a b c bytes h service items waits hears = record {
      heard = h.heard ++ bytes ∷ [];
      sent = ap (λ (v : Service). replies_sent l v next.items) service ∙ ap (replies_sent l s.service) items
          ∙ reply_next l s.service s.items (writer_of s.service) (length bytes) bytes next.waiting waits
          ∙ ap (λ (ts : List (List ℕ)). ts ++ bytes ∷ []) h.sent
          ∙ append_assoc (replies_sent l old.service old.items) h.heard (bytes ∷ []);
      hears = on a b c h.heard (bytes ∷ []) h.hears hears;
    }

    -- those of more entries, behind which no more is told as sent
    pub hears_later : (old s mid new : SessionState) (a b c : A) → HearsOn l Hears old s a b
        → replies_sent l mid.service mid.items ≡ replies_sent l s.service s.items → HearsOn l Hears mid new b c → HearsOn l Hears old new a c
    hears_later old s mid new a b c h same more = record {
      heard = h.heard ++ more.heard;
      sent = more.sent ∙ ap (λ (ts : List (List ℕ)). ts ++ more.heard) (same ∙ h.sent)
          ∙ append_assoc (replies_sent l old.service old.items) h.heard more.heard;
      hears = on a b c h.heard more.heard h.hears more.hears;
    }

    pub all_heard : {T E : Type 0} (r : Result T E) (old s mid new : SessionState) (a b c : A) → HearsOn l Hears old s a b
        → replies_sent l mid.service mid.items ≡ replies_sent l s.service s.items → OnOk r (HearsOn l Hears mid new b c)
        → OnOk r (HearsOn l Hears old new a c)
    all_heard (Ok done) old s mid new a b c h same more = hears_later old s mid new a b c h same more
    all_heard (Err error) old s mid new a b c h same more = tt
