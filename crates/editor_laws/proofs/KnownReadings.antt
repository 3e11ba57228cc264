-- What a front of a history's replies is read as, for crates above.
use Rattle.std.proofs.Common.{◌≡◌, ◌⊎◌, inl, inr, ℕ, List, [], ◌∷◌, ◌++◌, length, map, Option, Some, refl, ap, sym, subst, ◌∙◌, append_assoc, append-nil, arith}
use Rattle.std.specs.List.{AllByRecursion}
use Rattle.byte_message.specs.Stream.{AreSpelled, Ending, EndsAs, IsMessage, IsReadAs, IsShort, IsSpelling, plain_spelling, told_place}
use Rattle.byte_message.specs.Stream.Ending.{Whole, Bad, Short}
use Rattle.byte_message.specs.declared.frame_fault.FrameFault.{FrameFault}
use Rattle.reply_messages.specs.declared.told.Told.{Told}
use Rattle.reply_messages.specs.Replies.{reply_chunks}
use Rattle.reply_messages.specs.FoundReplies.{FindsReply, IsReply}
use Rattle.session_rules.specs.Replies.{bytes_of}
use Rattle.mirror_rules.specs.Events as events
use Rattle.mirror_rules.specs.Moves.{Move, Sent, Heard, Broken}
use Rattle.editor_laws.specs.Streams.{CanBeHeard}

-- how streams are read
pub record StreamLaws : Type 0 where
  pub one : (stream : List ℕ) (messages others : List (List (List ℕ))) (ending end : Ending) → IsReadAs stream messages ending
      → IsReadAs stream others end → (messages ≡ others) × (ending ≡ end)
  pub spelled : (message : List (List ℕ)) → IsMessage message → IsSpelling (plain_spelling message) message
  pub longer : (stream after : List ℕ) (messages : List (List (List ℕ))) (ending : Ending) → IsReadAs stream messages ending
      → (more : List (List (List ℕ))) × (end : Ending) × IsReadAs (stream ++ after) (messages ++ more) end
  pub bad : (stream after : List ℕ) (messages : List (List (List ℕ))) (fault : FrameFault) → IsReadAs stream messages (Bad fault)
      → IsReadAs (stream ++ after) messages (Bad fault)
  pub back : (told : Told) (found : Option Told) → IsReply told → FindsReply (reply_chunks told) found → found ≡ Some told

module _ (laws : StreamLaws) where
  spelled_all : (ts : List Told) → AllByRecursion CanBeHeard ts → AreSpelled (bytes_of ts) (map reply_chunks ts)
  spelled_all [] all = refl
  spelled_all (t ∷ ts) all = (plain_spelling (reply_chunks t), bytes_of ts, refl, laws.spelled (reply_chunks t) all.0.message, spelled_all ts all.1)

  -- replies are read as they are told
  pub read_all : (ts : List Told) → AllByRecursion CanBeHeard ts → IsReadAs (bytes_of ts) (map reply_chunks ts) Whole
  read_all ts all = record { front = bytes_of ts; rest = []; whole = sym (append-nil (bytes_of ts)); spelled = spelled_all ts all; ends = refl }

  module _ (ts : List Told) (all : AllByRecursion CanBeHeard ts) (stream rest : List ℕ) (front : bytes_of ts ≡ stream ++ rest) where
    -- a front of them is read as the first of them
    pub first_read : (messages : List (List (List ℕ))) (ending : Ending) → IsReadAs stream messages ending
        → (more : List (List (List ℕ))) × (map reply_chunks ts ≡ messages ++ more)
    first_read messages ending read =
        let l = laws.longer stream rest messages ending read in (
          l.0,
          (laws.one (stream ++ rest) (map reply_chunks ts) (messages ++ l.0) Whole l.1
              (subst (λ s. IsReadAs s (map reply_chunks ts) Whole) front (read_all ts all)) l.2).0,
        )

    -- and never as a fault
    pub never_bad : (messages : List (List (List ℕ))) (fault : FrameFault) → IsReadAs stream messages (Bad fault) → ⊥
    never_bad messages fault read =
        let same : Whole ≡ Bad fault = (laws.one (stream ++ rest) (map reply_chunks ts) messages Whole (Bad fault)
        (subst (λ s. IsReadAs s (map reply_chunks ts) Whole) front (read_all ts all)) (laws.bad stream rest messages fault read)).1 in
        cc

-- one message more at the end
pub spelled_more : (front last : List ℕ) (messages : List (List (List ℕ))) (m : List (List ℕ)) → AreSpelled front messages → IsSpelling last m
    → AreSpelled (front ++ last) (messages ++ m ∷ [])
spelled_more front last [] m are is = (last, [], ap (λ f. f ++ last) are ∙ sym (append-nil last), is, refl)
spelled_more front last (n ∷ messages) m (first, rest, split, one, more) is =
    (first, rest ++ last, ap (λ f. f ++ last) split ∙ append_assoc first rest last, one, spelled_more rest last messages m more is)

-- the messages that moves heard, the oldest first
abbrev pub HeardAs : List Move → List (List (List ℕ)) → Type 0
HeardAs [] messages = messages ≡ []
HeardAs (Heard at reply ∷ moves) messages = (before : List (List (List ℕ))) × (message : List (List ℕ)) × (messages ≡ before ++ message ∷ [])
    × FindsReply message reply × HeardAs moves before
HeardAs (move ∷ moves) messages = ⊥

-- the bytes that moves spell
abbrev pub spelled_moves : (bytes : List ℕ) (moves : List Move) → events.AreSpelled bytes moves
    → (messages : List (List (List ℕ))) × AreSpelled bytes messages × HeardAs moves messages
spelled_moves bytes [] are = ([], are, refl)
spelled_moves bytes (Sent read ∷ moves) are = absurd are
spelled_moves bytes (Broken fault ∷ moves) are = absurd are
spelled_moves bytes (Heard at reply ∷ moves) (before, front, message, split, is, finds, place, more) =
    let r = spelled_moves before moves more in (
      r.0 ++ message ∷ [],
      subst (λ b. AreSpelled b (r.0 ++ message ∷ [])) (sym split) (spelled_more before front r.0 message r.1 is),
      (r.0, message, refl, finds, r.2),
    )

abbrev pub ends_short : (place : ℕ) (rest : List ℕ) → IsShort rest → (ending : Ending) × EndsAs place rest ending
ends_short place [] short = (Whole, refl)
ends_short place (b ∷ rest) short = (Short (told_place place), (omega arith, short, refl))

-- what is heard is what is read, or the stream is at fault
pub heard_read : (bytes : List ℕ) (moves : List Move) → events.AreHeard bytes moves
    → ((messages : List (List (List ℕ))) × (ending : Ending) × IsReadAs bytes messages ending × HeardAs moves messages)
    ⊎ ((messages : List (List (List ℕ))) × (fault : FrameFault) × IsReadAs bytes messages (Bad fault))
heard_read bytes (Broken fault ∷ moves) (before, rest, split, ends, spelled) =
    let r = spelled_moves before moves spelled in
    inr (r.0, fault, record { front = before; rest = rest; whole = split; spelled = r.1; ends = ends })
heard_read bytes [] (before, rest, split, ends, spelled) =
    let r = spelled_moves before [] spelled in
    let e = ends_short (length before) rest ends in
    inl (r.0, e.0, record { front = before; rest = rest; whole = split; spelled = r.1; ends = e.1 }, r.2)
heard_read bytes (Sent read ∷ moves) (before, rest, split, ends, spelled) = absurd spelled
heard_read bytes (Heard at reply ∷ moves) (before, rest, split, ends, spelled) =
    let r = spelled_moves before (Heard at reply ∷ moves) spelled in
    let e = ends_short (length before) rest ends in
    inl (r.0, e.0, record { front = before; rest = rest; whole = split; spelled = r.1; ends = e.1 }, r.2)
