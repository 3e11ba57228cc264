-- Each reply of a legal history can be read.
use Rattle.std.proofs.Common.{◌≡◌, List, ◌∷◌, Result, Ok, Err, refl}
use Rattle.std.proofs.lemmas.Bool.{and_parts}
use Rattle.std.specs.Prelude.{◌&&◌}
use Rattle.std.specs.List.{AllByRecursion}
use Rattle.language.specs.Lang.{Lang}
use Rattle.message_values.specs.declared.refusal.Refusal.{Refusal}
use Rattle.buffer_rules.specs.Trying.{◌>>=◌}
use Rattle.core_rules.specs.Ready.{has_inputs, is_part, is_wanted}
use Rattle.core_rules.specs.Standing.{is_unclaimed, standing}
use Rattle.session_rules.specs.declared.service.Service.{Service}
use Rattle.session_rules.specs.Heard.{Heard, Message, Claimed, Finished, Dropped, Ended}
use Rattle.session_rules.specs.Session.{Session, document}
use Rattle.session_rules.specs.Accepting.{accepted}
use Rattle.session_rules.specs.History.{session}
use Rattle.session_rules.specs.Legal.{IsLegal}
use Rattle.session_rules.specs.Replies.{or_refusal, entry_replies, message_replies}
use Rattle.session_rules.specs.Steps.{due}
use Rattle.editor_laws.proofs.KnownReported.{held_part}
use Rattle.editor_laws.proofs.ReadCalls.{IsSound}
use Rattle.editor_laws.proofs.HistoryLaws.{HistoryLaws, Readable, fine_after, part_fits}
use Rattle.editor_laws.proofs.PartReplies.{claim_readable, due_worker, finished_told}
use Rattle.editor_laws.proofs.MessageReplies.{message_readable}

module _ {S : Type 0} (l : Lang S) (laws : HistoryLaws l) (service : Service) where
  pub told_readable : (e : Heard) (h : List Heard) → IsLegal l service (e ∷ h)
      → AllByRecursion IsSound (e ∷ h) → Readable (entry_replies l service h e)
  told_readable (Message (Err reason)) h legal sound = (record { fits = tt; form = tt }, tt)
  told_readable (Message (Ok m)) h legal sound = go (accepted l service
      (session l service h) m) refl
    where
      go : (r : Result Session Refusal) → accepted l service (session l service h) m ≡ r
          → Readable (or_refusal (r >>= λ after. message_replies l service (session l service h)
          after m))
      go (Err reason) e = (record { fits = tt; form = tt }, tt)
      go (Ok after) e = message_readable l laws service h m after sound legal e
  told_readable (Claimed who p) h legal sound =
      let s = session l service h in
      let real = (and_parts (is_part l (document l s).homes p) (is_wanted (document l s) p.exec
      && (is_unclaimed (standing s.events p) && has_inputs s.events (document l s).homes p))
      legal.1.0.2.ready).0 in
      claim_readable l laws service p (part_fits l s p (fine_after l laws service h legal.0 sound.1)
      real) (due l service h) (λ w is. due_worker l laws service h w sound.1 is)
  told_readable (Finished who p) h legal sound = (
    finished_told l laws service h who p legal
        sound.1,
    tt,
  )
  told_readable (Dropped who p) h legal sound =
      let s = session l service h in (
        record {
          fits = part_fits l s p (fine_after l laws service h legal.0 sound.1)
              (held_part l s.events who p (laws.legal service h legal.0) legal.1.0.0);
          form = tt;
        },
        tt,
      )
  told_readable Ended h legal sound = tt
