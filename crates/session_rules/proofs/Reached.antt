-- What two updates made stays, whoever works.
use Rattle.std.proofs.Common.{◌≡◌, ℕ, List, [], ◌∷◌, refl}
use Rattle.language.specs.Lang.{Lang}
use Rattle.session_rules.specs.declared.service.Service.TheVariants.{Workers}
use Rattle.session_rules.specs.Heard.{Heard, Message, Claimed, Finished, Dropped, Ended}
use Rattle.session_rules.specs.Session.{Session}
use Rattle.session_rules.specs.History.{session}
use Rattle.session_rules.specs.Legal.{IsLegal}
use Rattle.session_rules.specs.OneThread.{reads}
use Rattle.session_rules.specs.Updates.{Updates, update_read, updates_read}
use Rattle.session_rules.proofs.Sessions.{HasBoth, HasFirst, IsBegun, first_comes, second_comes}
use Rattle.session_rules.proofs.Histories.{IsQuiet, after_message, at_first}

module _ {S : Type 0} (l : Lang S) (u : Updates) (count : ℕ) where
  abbrev pub now : List Heard → Session
  now h = session l (Workers count) h

  begun_stays : (e : Heard) (h : List Heard) → IsQuiet e → IsLegal l (Workers count) (e ∷ h) → IsBegun l u (now h) → IsBegun l u (now (e ∷ h))
  begun_stays (Message read) h quiet legal b = absurd (quiet)
  begun_stays (Claimed who part) h quiet legal b = record { buffer_is = b.buffer_is; doc_is = b.doc_is }
  begun_stays (Finished who part) h quiet legal b = record { buffer_is = b.buffer_is; doc_is = b.doc_is }
  begun_stays (Dropped who part) h quiet legal b = record { buffer_is = b.buffer_is; doc_is = b.doc_is }
  begun_stays Ended h quiet legal b = record { buffer_is = b.buffer_is; doc_is = b.doc_is }

  first_stays : (e : Heard) (h : List Heard) → IsQuiet e → IsLegal l (Workers count) (e ∷ h) → HasFirst l u (now h) → HasFirst l u (now (e ∷ h))
  first_stays (Message read) h quiet legal b = absurd (quiet)
  first_stays (Claimed who part) h quiet legal b = record { buffer_is = b.buffer_is; doc_is = b.doc_is }
  first_stays (Finished who part) h quiet legal b = record { buffer_is = b.buffer_is; doc_is = b.doc_is }
  first_stays (Dropped who part) h quiet legal b = record { buffer_is = b.buffer_is; doc_is = b.doc_is }
  first_stays Ended h quiet legal b = record { buffer_is = b.buffer_is; doc_is = b.doc_is }

  pub both_stays : (e : Heard) (h : List Heard) → IsQuiet e → IsLegal l (Workers count) (e ∷ h) → HasBoth l u (now h) → HasBoth l u (now (e ∷ h))
  both_stays (Message read) h quiet legal b = absurd (quiet)
  both_stays (Claimed who part) h quiet legal b = record { opened = b.opened; doc_is = b.doc_is }
  both_stays (Finished who part) h quiet legal b = record { opened = b.opened; doc_is = b.doc_is }
  both_stays (Dropped who part) h quiet legal b = record { opened = b.opened; doc_is = b.doc_is }
  both_stays Ended h quiet legal b = record { opened = b.opened; doc_is = b.doc_is }

  -- up to the second update
  pub with_first : (h : List Heard) → IsLegal l (Workers count) h → reads h ≡ update_read u.first u.first_asked ∷ [] → HasFirst l u (now h)
  with_first = after_message l (Workers count) (λ h. HasFirst l u (now h)) first_stays (update_read u.first u.first_asked) []
      (λ h legal none. first_comes l u (now h) (at_first l (Workers count) (λ k. IsBegun l u (now k)) begun_stays (record { buffer_is = refl; doc_is = refl }) h legal.0 none))

  pub with_both : (h : List Heard) → IsLegal l (Workers count) h → reads h ≡ updates_read u → HasBoth l u (now h)
  with_both = after_message l (Workers count) (λ h. HasBoth l u (now h)) both_stays (update_read u.second u.second_asked) (update_read u.first u.first_asked ∷ [])
      (λ h legal is. second_comes l u (now h) (with_first h legal.0 is))
