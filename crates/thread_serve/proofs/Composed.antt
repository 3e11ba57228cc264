-- What each of those who took part tells comes to what is promised of the run.
use Rattle.std.proofs.Common.{◌≡◌, ◌≢◌, ℕ, true, false, List, Option, refl}
use Rattle.std.specs.Io.KnownBytes.{Appends}
use Rattle.pide_base.specs.declared.status.Status.{Status}
use Rattle.pide_base.specs.declared.status.Status.TheVariants as status
use Rattle.language.specs.Lang.{Lang}
use Rattle.core_rules.specs.Standing.{has_ended}
use Rattle.reply_outbox.specs.Items.{is_lost}
use Rattle.document_session.specs.keeping_rules_below.Items.{session_in}
use Rattle.document_session.specs.Contents.{SessionState}
use Rattle.document_serve.specs.Served.{AllSent, replies_in, sent_in}
use Rattle.document_serve.specs.Headline.{BytesSent, BytesWritten, Closed}
use Rattle.thread_serve.specs.Promises.{LosesOnly}

-- what is so of a run that isn't lost, whatever its status
module _ {S : Type 0} (l : Lang S) (held now : Option (List ℕ)) (t : SessionState) where
  pub record Ends (how : Status) : Type 0 where
    pub written : BytesWritten l how held now t
    pub sent : BytesSent l how held now t
    pub lost : LosesOnly l how t

  module _ (written : Appends held now (replies_in l t.service t.items)) (sent : Appends held now (sent_in l t.service t.items))
      (kept : is_lost t.items ≡ false) (all : AllSent l t.service t.items) where
    pub ends_kept : (how : Status) → how ≢ status.WriteFault → Ends how
    ends_kept status.Done other = record { written = written; sent = sent; lost = (kept, all) }
    ends_kept status.Usage other = record { written = written; sent = sent; lost = (kept, all) }
    ends_kept status.ReadFault other = record { written = written; sent = sent; lost = (kept, all) }
    ends_kept status.WriteFault other = absurd (other refl)
    ends_kept (status.BadFrame at) other = record { written = written; sent = sent; lost = (kept, all) }
    ends_kept (status.Truncated at) other = record { written = written; sent = sent; lost = (kept, all) }
    ends_kept status.LongInput other = record { written = written; sent = sent; lost = (kept, all) }
    ends_kept (status.BadText at) other = record { written = written; sent = sent; lost = (kept, all) }
    ends_kept status.NoMemory other = record { written = written; sent = sent; lost = (kept, all) }
    ends_kept (status.BadReply len) other = record { written = written; sent = sent; lost = (kept, all) }

-- a session that has ended is closed
pub closed_so : {S : Type 0} (l : Lang S) (t : SessionState) → has_ended (session_in l t.service t.items).events ≡ true → (how : Status) → Closed l how t
closed_so l t ended status.Done = ended
closed_so l t ended status.Usage = ended
closed_so l t ended status.ReadFault = ended
closed_so l t ended status.WriteFault = tt
closed_so l t ended (status.BadFrame at) = ended
closed_so l t ended (status.Truncated at) = ended
closed_so l t ended status.LongInput = ended
closed_so l t ended (status.BadText at) = ended
closed_so l t ended status.NoMemory = tt
closed_so l t ended (status.BadReply len) = ended
