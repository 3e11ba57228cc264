-- A piece leads a decoder on.
use Rattle.std.proofs.Common.{◌≡◌, ℕ, ◌+◌, List, [], ◌∷◌, ◌++◌, length, Option, Some, None, Result, Ok, Err, ◌<◌, ◌^◌, refl, ap, sym, ◌∙◌, append_assoc}
use Rattle.std.proofs.lemmas.List.{append-nil}
use Rattle.std.specs.Prelude.{OnOk}
use Rattle.byte_message.specs.Heading.{heading}
use Rattle.byte_message.specs.Heading.Heading.{Faulty}
use Rattle.byte_message.specs.Stream.{IsSpelling, IsShort, told_place, placed_fault}
use Rattle.byte_message.specs.Feeding.{Continues}
use Rattle.byte_message.specs.declared.line_fault.LineFault.{LineFault}
use Rattle.byte_message.specs.declared.frame_fault.FrameFault.{FrameFault}
use Rattle.byte_message.proofs.Headings.{faulty-more}
use Rattle.byte_message.specs.Kept.{Framing, Reached, KeepsRest, Stands, Advances}
use Rattle.byte_message.proofs.Reaching.{reached-same, reached-one, reached-then, reached-longer, reached-after}

-- the same of a rest that is kept
kept_same : (old : Framing) (at : ℕ) (rest : List ℕ) → old.fault ≡ None → KeepsRest old.fault at rest old.rest → rest ≡ old.rest
kept_same old at rest e k = (rw e at k).0

pub advanced : (old new : Framing) (piece stream : List ℕ) (taken : List (List (List ℕ))) → old.fault ≡ None → Stands stream taken old → Advances old piece new → Stands (stream ++ piece) taken new
advanced old new piece stream taken e s a =
    let same = kept_same old old.at s.rest e s.kept in
    let before = reached-longer piece s.reached in
    let here : Reached [] 0 (stream ++ piece) (taken ++ old.waiting) old.at (old.rest ++ piece) = rw same at before in
    let after = reached-after (taken ++ old.waiting) a.reached in
    let named : Reached (taken ++ old.waiting) old.at (old.rest ++ piece) ((taken ++ old.waiting) ++ a.made) new.at a.rest = rw (append-nil (taken ++ old.waiting)) at after in
    let all : (taken ++ old.waiting) ++ a.made ≡ taken ++ new.waiting = append_assoc taken old.waiting a.made ∙ ap (λ x. taken ++ x) (sym a.waiting) in
    record { rest = a.rest; reached = rw all at (reached-then here named); kept = a.kept }

-- the piece is kept
pub keeps-all : (old : Framing) (piece rest : List ℕ) → old.at < 2 ^ 64 → old.rest ++ piece ≡ rest → IsShort rest
    → Advances old piece (record { waiting = old.waiting; at = old.at; rest = rest; fault = None })
keeps-all old piece rest n e short = record {
  made = [];
  rest = rest;
  reached = rw e (reached-same [] old.at rest n);
  waiting = sym (append-nil old.waiting);
  kept = (refl, short);
}

-- a line is at fault
pub turns-bad : (old : Framing) (piece : List ℕ) (wrong : LineFault) (fault : FrameFault) → old.at < 2 ^ 64 → heading (old.rest ++ piece) ≡ Faulty wrong → fault ≡ placed_fault old.at wrong
    → Advances old piece (record { waiting = old.waiting; at = old.at; rest = []; fault = Some fault })
turns-bad old piece wrong fault n bad at = record {
  made = [];
  rest = old.rest ++ piece;
  reached = reached-same [] old.at (old.rest ++ piece) n;
  waiting = sym (append-nil old.waiting);
  kept = (wrong, bad, at);
}

-- the message in progress is whole, and what follows was read
pub reads-on : (old new : Framing) (piece front after rest : List ℕ) (m : List (List ℕ)) (before made : List (List (List ℕ))) (from to : ℕ) (kept : List ℕ) (fault : Option FrameFault)
    → old.rest ++ piece ≡ front ++ after → IsSpelling front m
    → from ≡ told_place (old.at + length front) → before ≡ m ∷ []
    → Reached before from after made to rest → KeepsRest fault to rest kept
    → new.waiting ≡ old.waiting ++ made → new.at ≡ to → new.rest ≡ kept → new.fault ≡ fault
    → Advances old piece new
reads-on old new piece front after rest m before made from to kept fault split one place first reached keeps waiting at same bad =
    let step : Reached [] old.at (front ++ after) (m ∷ []) (told_place (old.at + length front)) after = reached-one [] old.at front after m one in
    let here : Reached [] old.at (old.rest ++ piece) (m ∷ []) from after = rw (split, place) step in
    let there : Reached (m ∷ []) from after made new.at rest = rw at (rw first at reached) in
    record {
      made = made;
      rest = rest;
      reached = reached-then here there;
      waiting = waiting;
      kept = rw (bad, at, same) keeps;
    }

-- a fault stays the first
pub stays-bad : (old : Framing) (fault : FrameFault) (piece : List ℕ) → old.fault ≡ Some fault → Continues old piece old
stays-bad old fault piece e = λ stream taken s.
    let k : KeepsRest (Some fault) old.at s.rest old.rest = rw e at s.kept in
    let still : KeepsRest (Some fault) old.at (s.rest ++ piece) old.rest = (k.0, faulty-more s.rest piece k.0 k.1, k.2) in
    record { rest = s.rest ++ piece; reached = reached-longer piece s.reached; kept = rw e still }

pub continues : (old new : Framing) (piece : List ℕ) → old.fault ≡ None → Advances old piece new → Continues old piece new
continues old new piece e a = λ stream taken s. advanced old new piece stream taken e s a

-- the same bytes, cut where the message ends
pub cut_there : (r l b t d piece : List ℕ) → r ≡ l ++ b → t ++ d ≡ piece → r ++ piece ≡ (l ++ (b ++ t)) ++ d
cut_there r l b t d piece e f =
    ap (λ x. x ++ piece) e ∙ append_assoc l b piece ∙ ap (λ x. l ++ (b ++ x)) (sym f)
    ∙ ap (λ x. l ++ x) (sym (append_assoc b t d)) ∙ sym (append_assoc l (b ++ t) d)
