-- What is kept stands for what the moves come to, one move further.
use Rattle.std.proofs.Common.{◌≡◌, ℕ, ◌<◌, ◌^◌, true, false, List, [], ◌∷◌, ◌++◌, Option, Some, None, refl, ap, sym, subst, arith}
use Rattle.byte_message.specs.Stream.{told_place}
use Rattle.byte_message.specs.declared.frame_fault.FrameFault.{FrameFault}
use Rattle.message_values.specs.Asked.{asked}
use Rattle.message_values.specs.declared.mode.Mode.{Mode}
use Rattle.reply_messages.specs.declared.told.Told.{Told}
use Rattle.mirror_rules.specs.Answers.{Read}
use Rattle.mirror_rules.specs.Events.{MirrorEvent, Given}
use Rattle.mirror_rules.specs.Images.{Mirror}
use Rattle.mirror_rules.specs.Moves.{Reflection, Move, Sent, Heard, Broken, next_reflection, reflection_by}
use Rattle.mirror_rules.specs.Moves as reflection
use Rattle.mirror_rules.specs.Replies.{mirror_after}
use Rattle.mirror_rules.specs.declared.fault.MirrorFault.TheVariants.{Frame, Unexpected}
use Rattle.pide_mirror.specs.Hearing.{Hearing, HasHeard}
use Rattle.pide_mirror.specs.Knowing.{IsGoing}
use Rattle.pide_mirror.specs.Mirroring.{KnowsSo}
use Rattle.pide_mirror.specs.Taking.{TakenSo}
use Rattle.pide_mirror.specs.declared.error.MirrorError.{MirrorError}
use Rattle.pide_mirror.specs.declared.error.MirrorError.TheVariants.{Fault, NoMemory}
use Rattle.pide_mirror.specs.declared.going.Going.{Going}

-- a place of 64 bits is told as it is
told_itself : (at : ℕ) → at < 2 ^ 64 → told_place at ≡ at
told_itself at small = omega (arith, small)

module _ (mode : Mode) (old new : Going) (at : ℕ) (reply : Option Told) where
  -- an expected reply
  pub knows_heard : (known : Reflection) → KnowsSo None old known → ((m : Mirror) → IsGoing old m → TakenSo (mirror_after mode m reply) new true)
      → KnowsSo None new (next_reflection mode known (Heard at reply))
  knows_heard (reflection.Faulted fault) knows taken = absurd knows
  knows_heard (reflection.Going m) knows taken = go (mirror_after mode m reply) (taken m knows)
    where
      go : (o : Option Mirror) → TakenSo o new true → KnowsSo None new (reflection_by at o)
      go None is = absurd (cc)
      go (Some n) is = is.1

  -- one that isn't
  pub knows_unexpected : (known : Reflection) → at < 2 ^ 64 → KnowsSo None old known → ((m : Mirror) → IsGoing old m → TakenSo (mirror_after mode m reply) new false)
      → KnowsSo (Some (Fault (Unexpected at))) new (next_reflection mode known (Heard at reply))
  knows_unexpected (reflection.Faulted fault) small knows taken = absurd knows
  knows_unexpected (reflection.Going m) small knows taken = go (mirror_after mode m reply) (taken m knows)
    where
      go : (o : Option Mirror) → TakenSo o new false → reflection_by at o ≡ reflection.Faulted (Unexpected at)
      go None is = ap (λ n. reflection.Faulted (Unexpected n)) (told_itself at small)
      go (Some n) is = absurd (cc)

-- a line that isn't fit
pub knows_broken : (mode : Mode) (old new : Going) (fault : FrameFault) (known : Reflection) → KnowsSo None old known
    → KnowsSo (Some (Fault (Frame fault))) new (next_reflection mode known (Broken fault))
knows_broken mode old new fault (reflection.Faulted other) knows = absurd knows
knows_broken mode old new fault (reflection.Going m) knows = refl

-- want of memory
pub knows_stopped : (old new : Going) (known : Reflection) → KnowsSo None old known → ((m : Mirror) → IsGoing old m → IsGoing new m)
    → KnowsSo (Some NoMemory) new known
knows_stopped old new (reflection.Faulted fault) knows same = absurd knows
knows_stopped old new (reflection.Going m) knows same = same m knows

-- a message that is sent
pub knows_sent : (mode : Mode) (old new : Going) (read : Read) (ended : Option MirrorError) (known : Reflection) → KnowsSo ended old known
    → ((m : Mirror) → IsGoing old m → IsGoing new (record m { unanswered = m.unanswered ++ read ∷ [] }))
    → KnowsSo ended new (next_reflection mode known (Sent read))
knows_sent mode old new read (Some (Fault fault)) known knows same = ap (λ r. next_reflection mode r (Sent read)) knows
knows_sent mode old new read (Some NoMemory) (reflection.Going m) knows same = same m knows
knows_sent mode old new read (Some NoMemory) (reflection.Faulted fault) knows same = absurd knows
knows_sent mode old new read None (reflection.Going m) knows same = same m knows
knows_sent mode old new read None (reflection.Faulted fault) knows same = absurd knows

-- what is kept otherwise stands for the same
pub knows_same : (old new : Going) (ended : Option MirrorError) (known : Reflection) → KnowsSo ended old known
    → ((m : Mirror) → IsGoing old m → IsGoing new m) → KnowsSo ended new known
knows_same old new (Some (Fault fault)) known knows same = knows
knows_same old new (Some NoMemory) (reflection.Going m) knows same = same m knows
knows_same old new (Some NoMemory) (reflection.Faulted fault) knows same = absurd knows
knows_same old new None (reflection.Going m) knows same = same m knows
knows_same old new None (reflection.Faulted fault) knows same = absurd knows

-- it comes behind the moves before
pub has_sent : (events : List MirrorEvent) (old new : Hearing) (chunks : List (List ℕ)) → new ≡ record old { moves = Sent (asked old.mode chunks) ∷ old.moves }
    → HasHeard events old → HasHeard (Given chunks ∷ events) new
has_sent events old new chunks is h = subst (HasHeard (Given chunks ∷ events)) (sym is) (record {
  moves = Sent (asked old.mode chunks) ∷ h.moves;
  come = (h.moves, refl, h.come);
  noted = ap (λ ms. Sent (asked old.mode chunks) ∷ ms) h.noted;
  kept = h.kept;
})
