-- What the writer brings back.
use Rattle.std.specs.Prelude.{◌≡◌, ℕ, List, [], ◌∷◌, ◌++◌, Option, None, Some}
use Rattle.std.specs.Io.KnownBytes.{Appends}
use Rattle.pide_base.specs.Faults.{Rose}
use Rattle.pide_base.specs.Moves.{AppendsFront}
use Rattle.hist_lock.specs.declared.view.View.{View}
use Rattle.worker_loop.specs.declared.said.Said.{Said}
use Rattle.worker_loop.specs.declared.said.Said.TheVariants as said
use Rattle.worker_loop.specs.declared.writer.Written.{Written}
use Rattle.worker_loop.specs.declared.writer.Written.TheVariants as written
use Rattle.worker_loop.specs.Rounds.{HasSeen}
use Rattle.worker_loop.specs.Sending.{AreSent, Handed}

module _ {E : Type 0} (says : E → Said) where
  -- the caller made entries for pieces alone
  abbrev pub Sends : View E → View E → Type 0
  Sends v w = (news : List E) × (w.mine ≡ v.mine ++ news) × AreSent says news

  -- the caller made entries for pieces, and then told that its sink failed
  abbrev pub SendsAndLoses : View E → View E → Type 0
  SendsAndLoses v w =
      (news : List E) × (lost : E) × (w.mine ≡ (v.mine ++ news) ++ lost ∷ []) × AreSent says news
      × (says lost ≡ said.Lost)

-- the contents of a sink, where it tells them, and its count of faults
pub record Holding : Type 0 where
  pub contents : Option (List ℕ)
  pub faults : ℕ

module _ {E : Type 0} (says : E → Said) (sent : List E → List ℕ) where
  -- all bytes that were handed to the caller were pushed, in order
  abbrev pub WritesOn : View E → Holding → View E → Holding → Type 0
  WritesOn v k w l =
      (bytes : List ℕ)
      × Handed sent v bytes w × Appends k.contents l.contents bytes × Sends says v w

  -- the writer has stopped: it has pushed all that it was handed, and all has ended; or the sink
  -- failed in this call, and holds a front of it
  abbrev pub WrittenSo : View E → Holding → Written → View E → Holding → Type 0
  WrittenSo v k written.Ended w l = WritesOn v k w l × HasSeen says w said.Ended
  WrittenSo v k written.WriteFault w l =
      (bytes : List ℕ) × Handed sent v bytes w × AppendsFront k.contents l.contents bytes
      × SendsAndLoses says v w × Rose k.faults l.faults

  -- the writer has stopped, or it goes on
  abbrev pub SentSo : View E → Holding → Option Written → View E → Holding → Type 0
  SentSo v k (Some why) w l = WrittenSo v k why w l
  SentSo v k None w l = WritesOn v k w l
