-- Before anything was heard.
use Rattle.std.proofs.Common.{◌≡◌, ℕ, ◌+◌, inl, List, [], ◌∷◌, ◌++◌, length, Option, Some, None, refl, ap, sym, subst, ◌∙◌}
use Rattle.text_words.proofs.KnownLists.{no_parts}
use Rattle.byte_message.specs.Heading.Heading.{Faulty, Unended}
use Rattle.byte_message.specs.Kept.{Framing, KeepsRest, Stands}
use Rattle.byte_message.specs.Stream.{IsShort, told_place}
use Rattle.byte_message.specs.declared.frame_fault.FrameFault.{FrameFault}
use Rattle.byte_message.proofs.KnownEndings.{same-read}
use Rattle.pide_mirror.specs.Hearing.{Hearing, HasHeard}

-- nothing is kept, and nothing waits
abbrev none_read : Framing
none_read = record { waiting = []; at = told_place 0; rest = []; fault = None }

stands_first : Stands [] [] none_read
stands_first = record {
  rest = [];
  reached = record { front = []; more = []; whole = refl; spelled = refl; made = refl; place = refl };
  kept = (refl, inl refl);
}

kept_first : (fault : Option FrameFault) (at : ℕ) (kept : List ℕ) → KeepsRest fault at [] kept → (kept ≡ []) × (fault ≡ None)
kept_first None at kept is = (sym is.0, refl)
kept_first (Some fault) at kept is = let both : Unended ≡ Faulty is.0 = is.1 in absurd (cc)

-- so where no bytes were read
pub at_first : (frames : Framing) → Stands [] [] frames
    → (frames.waiting ≡ []) × (frames.at ≡ told_place 0) × (frames.rest ≡ []) × (frames.fault ≡ None)
at_first frames stands =
    let r = stands.reached in
    let none = no_parts r.front stands.rest r.whole in
    let kept = kept_first frames.fault frames.at frames.rest (subst (λ bytes. KeepsRest frames.fault frames.at bytes frames.rest) none.1 stands.kept) in (
      (same-read [] [] frames none_read stands stands_first).0,
      r.place ∙ ap (λ (bytes : List ℕ). told_place (0 + length bytes)) none.0,
      kept.0,
      kept.1,
    )

-- so nothing is heard of no events
pub heard_first : (now : Hearing) → now.moves ≡ [] → Stands [] [] now.frames → HasHeard [] now
heard_first now none stands =
    let first = at_first now.frames stands in record {
      moves = [];
      come = refl;
      noted = none;
      kept = λ going. record {
        front = [];
        whole = sym first.2;
        spelled = refl;
        short = subst IsShort (sym first.2) (inl refl);
        at = first.1;
      };
    }
