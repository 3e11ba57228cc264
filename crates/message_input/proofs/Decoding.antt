-- What a decoder hands out, and how its stream ends.
use Rattle.std.proofs.Common.{◌≡◌, [], ◌∷◌, ◌++◌, List, ℕ, Option, None, Some, refl, sym, ap, ◌∙◌, subst, append-nil}
use Rattle.text_words.proofs.KnownLists.{no_parts}
use Rattle.byte_message.proofs.KnownEndings.{reads}
use Rattle.byte_message.specs.Feeding.{ending_by, ending_of}
use Rattle.byte_message.specs.Heading.{heading}
use Rattle.byte_message.specs.Heading.Heading.{Faulty, Unended}
use Rattle.byte_message.specs.Kept.{Framing, KeepsRest, Stands}
use Rattle.byte_message.specs.Stream.{AreSpelled, IsReadAs, IsSpelling}
use Rattle.byte_message.specs.Stream.Ending.{Bad}
use Rattle.byte_message.specs.declared.frame_fault.FrameFault.{FrameFault}

-- the next one was handed out
pub waiting_next : (front : List (List (List ℕ))) (old new : Framing) (message : List (List ℕ)) → old ≡ record new { waiting = message ∷ new.waiting }
    → front ++ old.waiting ≡ front ++ ((message ∷ []) ++ new.waiting)
waiting_next front old new message e = ap (λ (f : Framing). front ++ f.waiting) e

-- nothing else of the decoder changes
pub left_over : (first old new : Framing) (message : List (List ℕ)) → old ≡ record first { waiting = old.waiting } → old ≡ record new { waiting = message ∷ new.waiting }
    → new ≡ record first { waiting = new.waiting }
left_over first old new message kept e = ap (λ (f : Framing). record f { waiting = new.waiting }) (sym e ∙ kept)

-- all that waited were handed out
pub all_out : (stream : List ℕ) (taken : List (List (List ℕ))) (now : Framing) → Stands stream taken now → Stands stream (taken ++ now.waiting) (record now { waiting = [] })
all_out stream taken now s = record {
  rest = s.rest;
  reached = rw (append-nil (taken ++ now.waiting)) s.reached;
  kept = s.kept;
}

-- where nothing waits, the messages that were taken are those of the stream
pub all_read : (stream : List ℕ) (taken : List (List (List ℕ))) (now : Framing) → Stands stream taken now → now.waiting ≡ [] → IsReadAs stream taken (ending_of now)
all_read stream taken now s none =
    subst (λ (ms : List (List (List ℕ))). IsReadAs stream ms (ending_of now)) (ap (λ (ms : List (List (List ℕ))). taken ++ ms) none ∙ append-nil taken) (reads stream taken now s)

-- a fault is how the stream ends, and else it ends at none
pub ends_bad : (now : Framing) (fault : FrameFault) → now.fault ≡ Some fault → ending_of now ≡ Bad fault
ends_bad now fault e = ap (λ (f : Option FrameFault). ending_by f now.at now.rest) e

never_bad : (at : ℕ) (rest : List ℕ) (fault : FrameFault) → ending_by None at rest ≡ Bad fault → ⊥
never_bad at [] fault e = absurd (let no : ⊥ = cc in no)
never_bad at (b ∷ rest) fault e = absurd (let no : ⊥ = cc in no)

pub ends_fine : (now : Framing) (fault : FrameFault) → now.fault ≡ None → ending_of now ≡ Bad fault → ⊥
ends_fine now fault e bad = never_bad now.at now.rest fault (sym (ap (λ (f : Option FrameFault). ending_by f now.at now.rest) e) ∙ bad)

-- nothing is spelled by no bytes
none_spelled : (front : List ℕ) (messages : List (List (List ℕ))) → front ≡ [] → AreSpelled front messages → messages ≡ []
none_spelled front [] e s = refl
none_spelled front (m ∷ ms) e (first, rest, parts, one, others) = absurd (never first (sym e ∙ parts) one)
  where
    never : (first : List ℕ) → [] ≡ first ++ rest → IsSpelling first m → ⊥
    never [] p i = absurd (let no : ⊥ = cc in no)
    never (b ∷ bytes) p i = absurd (let no : ⊥ = cc in no)

none_faulty : (fault : Option FrameFault) (at : ℕ) (rest kept : List ℕ) → rest ≡ [] → KeepsRest fault at rest kept → fault ≡ None
none_faulty None at rest kept e k = refl
none_faulty (Some fault) at rest kept e (wrong, bad, p) =
    absurd (let same : Unended ≡ Faulty wrong = sym (ap heading e) ∙ bad in let no : ⊥ = cc in no)

-- at the beginning nothing waits and nothing is at fault
pub begins : (now : Framing) → Stands [] [] now → (now.waiting ≡ []) × (now.fault ≡ None)
begins now s =
    let parts = no_parts s.reached.front s.rest s.reached.whole in
    (s.reached.made ∙ none_spelled s.reached.front s.reached.more parts.0 s.reached.spelled, none_faulty now.fault now.at s.rest now.rest parts.1 s.kept)
