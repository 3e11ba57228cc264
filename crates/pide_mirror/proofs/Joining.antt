-- What is heard of one piece and then of another is heard of both joined.
use Rattle.std.proofs.Common.{◌≡◌, ℕ, ◌+◌, inl, List, [], ◌∷◌, ◌++◌, None, refl, ap, sym, subst, ◌∙◌, arith, append_assoc}
use Rattle.std.proofs.lemmas.List.{append-nil, length-append}
use Rattle.byte_message.specs.Kept.{Framing}
use Rattle.byte_message.specs.Stream.{IsShort}
use Rattle.message_values.specs.declared.mode.Mode.{Mode}
use Rattle.mirror_rules.specs.Events.{AreHeard, AreMoves, AreSpelled, MirrorEvent, Fed, Given, heard_moves, stream}
use Rattle.mirror_rules.specs.Moves.{Move, Sent, Heard, Broken}
use Rattle.mirror_rules.proofs.KnownMoves.{heard_both}
use Rattle.pide_mirror.specs.Feeding.{Hears, HearsFront}
use Rattle.pide_mirror.specs.Hearing.{Hearing, HasHeard}

-- whole messages, and less than one, are heard
pub heard_all : (front rest : List ℕ) (moves : List Move) → AreSpelled front moves → IsShort rest → AreHeard (front ++ rest) moves
heard_all front rest [] spelled short = (front, rest, refl, short, spelled)
heard_all front rest (Sent read ∷ moves) spelled short = absurd spelled
heard_all front rest (Broken fault ∷ moves) spelled short = absurd spelled
heard_all front rest (Heard at reply ∷ moves) spelled short = (front, rest, refl, short, spelled)

-- the moves that two pieces come to are those of both joined
pub moves_joined : (mode : Mode) (events : List MirrorEvent) (a b : List ℕ) (moves : List Move)
    → AreMoves mode (Fed b ∷ Fed a ∷ events) moves → AreMoves mode (Fed (a ++ b) ∷ events) moves
moves_joined mode events a b moves (before, new, is, new_is, (older, newer, before_is, newer_is, come, heard), all) = (
  older,
  new ++ newer,
  is ∙ ap (λ ms. new ++ ms) before_is ∙ sym (append_assoc new newer older),
  heard_both new newer ∙ ap (λ ms. ms ++ heard_moves newer) new_is ∙ ap (λ ms. new ++ ms) newer_is,
  come,
  subst (λ bytes. AreHeard bytes (heard_moves moves)) (append_assoc (stream events) a b) all,
)

pub has_joined : (events : List MirrorEvent) (a b : List ℕ) (now : Hearing) → HasHeard (Fed b ∷ Fed a ∷ events) now → HasHeard (Fed (a ++ b) ∷ events) now
has_joined events a b now h = record {
  moves = h.moves;
  come = moves_joined now.mode events a b h.moves h.come;
  noted = h.noted;
  kept = λ going. let k = h.kept going in record {
    front = k.front;
    whole = sym (append_assoc (stream events) a b) ∙ k.whole;
    spelled = k.spelled;
    short = k.short;
    at = k.at;
  };
}

pub hears_joined : (old mid new : Hearing) (a b : List ℕ) (n m : ℕ) → Hears old a n mid → Hears mid b m new → Hears old (a ++ b) (n + m) new
hears_joined old mid new a b n m one two = record {
  mode = two.mode ∙ one.mode;
  newer = two.newer ++ one.newer;
  count = length-append two.newer one.newer ∙ omega (arith, one.count, two.count);
  moves = two.moves ∙ ap (λ ms. two.newer ++ ms) one.moves ∙ sym (append_assoc two.newer one.newer old.moves);
  heard = λ events h. has_joined events a b new (two.heard (Fed a ∷ events) (one.heard events h));
}

pub front_joined : (old mid new : Hearing) (a b : List ℕ) (n : ℕ) → Hears old a n mid → HearsFront mid b new → HearsFront old (a ++ b) new
front_joined old mid new a b n one two = record {
  front = a ++ two.front;
  rest = two.rest;
  whole = ap (λ bs. a ++ bs) two.whole ∙ sym (append_assoc a two.front two.rest);
  count = n + two.count;
  hears = hears_joined old mid new a two.front n two.count one two.hears;
}

-- nothing is heard of no bytes
pub hears_nothing : (old new : Hearing) → old.ended ≡ None → new.mode ≡ old.mode → new.moves ≡ old.moves
    → (new.ended ≡ None → new.frames ≡ old.frames) → Hears old [] 0 new
hears_nothing old new going mode moves frames = record {
  mode = mode;
  newer = [];
  count = refl;
  moves = moves;
  heard = λ events h. let k = h.kept going in record {
    moves = h.moves;
    come = (
      h.moves,
      [],
      refl,
      refl,
      subst (λ m. AreMoves m events h.moves) (sym mode) h.come,
      subst (λ bytes. AreHeard bytes (heard_moves h.moves)) (sym (append-nil (stream events) ∙ k.whole)) (heard_all k.front old.frames.rest (heard_moves h.moves) k.spelled k.short),
    );
    noted = moves ∙ h.noted;
    kept = λ still. let same = frames still in record {
      front = k.front;
      whole = append-nil (stream events) ∙ k.whole ∙ ap (λ (f : Framing). k.front ++ f.rest) (sym same);
      spelled = k.spelled;
      short = subst (λ (f : Framing). IsShort f.rest) (sym same) k.short;
      at = ap (λ (f : Framing). f.at) same ∙ k.at;
    };
  };
}

-- whatever events come to is heard
heard_so_far : (mode : Mode) (events : List MirrorEvent) (moves : List Move) → AreMoves mode events moves → AreHeard (stream events) (heard_moves moves)
heard_so_far mode [] moves is = subst (λ (ms : List Move). AreHeard [] (heard_moves ms)) (sym is) ([], [], refl, inl refl, refl)
heard_so_far mode (Given chunks ∷ events) moves (before, is, come) =
    subst (λ (ms : List Move). AreHeard (stream events) (heard_moves ms)) (sym is) (heard_so_far mode events before come)
heard_so_far mode (Fed piece ∷ events) moves come = come.5

-- so nothing more is heard of no bytes, also behind a fault
pub hears_same : (now : Hearing) → Hears now [] 0 now
hears_same now = record {
  mode = refl;
  newer = [];
  count = refl;
  moves = refl;
  heard = λ events h. record {
    moves = h.moves;
    come = (
      h.moves,
      [],
      refl,
      refl,
      h.come,
      subst (λ bytes. AreHeard bytes (heard_moves h.moves)) (sym (append-nil (stream events))) (heard_so_far now.mode events h.moves h.come),
    );
    noted = h.noted;
    kept = λ going. let k = h.kept going in record {
      front = k.front;
      whole = append-nil (stream events) ∙ k.whole;
      spelled = k.spelled;
      short = k.short;
      at = k.at;
    };
  };
}
