-- What an editor sends and hears comes to one list of moves.
use Rattle.std.proofs.Common.{◌≡◌, ℕ, List, [], ◌∷◌, ◌++◌, length, refl, ap, sym, ◌∙◌}
use Rattle.std.proofs.lemmas.List.{append_cancel_right}
use Rattle.byte_message.specs.Stream.{Ending, EndsAs, IsReadAs, IsShort}
use Rattle.byte_message.specs.Stream.Ending.{Bad}
use Rattle.message_values.specs.declared.mode.Mode.{Mode}
use Rattle.message_values.specs.Asked.{asked}
use Rattle.mirror_rules.specs.Events.{AreHeard, AreMoves, AreSpelled, MirrorEvent, Given, Fed, heard_moves, stream}
use Rattle.mirror_rules.specs.Moves.{Move, Sent, Heard, Broken}
use Rattle.mirror_rules.proofs.KnownMoves.{heard_both}
use Rattle.editor_laws.proofs.OneHearing.{HearingLaws, one_spelling}
use Rattle.editor_laws.proofs.KnownReadings.{ends_short, spelled_moves}

-- a fault as the newest move, where there is one
abbrev with_fault : Ending → List Move → List Move
with_fault (Bad fault) moves = Broken fault ∷ moves
with_fault ending moves = moves

-- what is heard: whole messages, and how what follows them ends
record Hearing (bytes : List ℕ) (moves : List Move) : Type 0 where
  pub before : List ℕ
  pub rest : List ℕ
  pub replies : List Move
  pub ending : Ending
  pub split : bytes ≡ before ++ rest
  pub spelled : AreSpelled before replies
  pub ends : EndsAs (length before) rest ending
  pub is : moves ≡ with_fault ending replies

short_is : (place : ℕ) (rest : List ℕ) (short : IsShort rest) (moves : List Move) → moves ≡ with_fault (ends_short place rest short).0 moves
short_is place [] short moves = refl
short_is place (b ∷ rest) short moves = refl

hearing : (bytes : List ℕ) (moves : List Move) → AreHeard bytes moves → Hearing bytes moves
hearing bytes (Broken fault ∷ moves) (before, rest, split, ends, spelled) =
    record { before = before; rest = rest; replies = moves; ending = Bad fault; split = split; spelled = spelled; ends = ends; is = refl }
hearing bytes [] (before, rest, split, short, spelled) =
    record {
      before = before;
      rest = rest;
      replies = [];
      ending = (ends_short (length before) rest short).0;
      split = split;
      spelled = spelled;
      ends = (ends_short (length before) rest short).1;
      is = short_is (length before) rest short [];
    }
hearing bytes (Sent read ∷ moves) (before, rest, split, short, spelled) = absurd spelled
hearing bytes (Heard at reply ∷ moves) (before, rest, split, short, spelled) =
    record {
      before = before;
      rest = rest;
      replies = Heard at reply ∷ moves;
      ending = (ends_short (length before) rest short).0;
      split = split;
      spelled = spelled;
      ends = (ends_short (length before) rest short).1;
      is = short_is (length before) rest short (Heard at reply ∷ moves);
    }

module _ (laws : HearingLaws) where
  read_as : (bytes : List ℕ) (moves : List Move) (h : Hearing bytes moves) → IsReadAs bytes (spelled_moves h.before h.replies h.spelled).0 h.ending
  read_as bytes moves h =
      record { front = h.before; rest = h.rest; whole = h.split; spelled = (spelled_moves h.before h.replies h.spelled).1; ends = h.ends }

  one_hearing : (bytes : List ℕ) (xs ys : List Move) → AreHeard bytes xs → AreHeard bytes ys → xs ≡ ys
  one_hearing bytes xs ys x y =
      let h : Hearing bytes xs = hearing bytes xs x in
      let k : Hearing bytes ys = hearing bytes ys y in
      let both = laws.one bytes (spelled_moves h.before h.replies h.spelled).0 (spelled_moves k.before k.replies k.spelled).0 h.ending k.ending
      (read_as bytes xs h) (read_as bytes ys k) in
      h.is ∙ ap (λ e. with_fault e h.replies) both.1
      ∙ ap (with_fault k.ending) (one_spelling laws h.before k.before h.rest k.rest h.replies k.replies (sym h.split ∙ k.split) h.spelled k.spelled both.0)
      ∙ sym k.is

  -- one list of moves
  pub one_way : (mode : Mode) (events : List MirrorEvent) (xs ys : List Move) → AreMoves mode events xs → AreMoves mode events ys → xs ≡ ys
  one_way mode [] xs ys x y = x ∙ sym y
  one_way mode (Given chunks ∷ events) xs ys (a, p, x) (b, q, y) =
      p ∙ ap (λ ms. Sent (asked mode chunks) ∷ ms) (one_way mode events a b x y) ∙ sym q
  one_way mode (Fed piece ∷ events) xs ys (a, new, p, n, x, s) (b, more, q, k, y, t) =
      let older : a ≡ b = one_way mode events a b x y in
      let all : heard_moves xs ≡ heard_moves ys = one_hearing (stream events ++ piece) (heard_moves xs) (heard_moves ys) s t in
      let mine : new ++ heard_moves b ≡ more ++ heard_moves b =
      ap (λ ms. ms ++ heard_moves b) (sym n) ∙ ap (λ ms. heard_moves new ++ heard_moves ms) (sym older) ∙ sym (heard_both new a)
      ∙ ap heard_moves (sym p) ∙ all ∙ ap heard_moves q ∙ heard_both more b ∙ ap (λ ms. ms ++ heard_moves b) k in
      p ∙ ap (λ ms. ms ++ a) (append_cancel_right new more (heard_moves b) mine) ∙ ap (λ ms. more ++ ms) older ∙ sym q
