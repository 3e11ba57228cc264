-- An input that nothing hinders is done.
use Rattle.std.proofs.Common.{◌≡◌, ◌≢◌, ◌⊎◌, [], ◌++◌, List, ℕ, Option, None, Some, length, refl, sym, ap, ◌∙◌, subst, inl, inr, arith, append-nil, ◌+◌}
use Rattle.std.proofs.lemmas.List.{length-append}
use Rattle.std.specs.Io.KnownBytes.{Consumes, IsAtEnd}
use Rattle.pide_base.specs.Faults.{Rose}
use Rattle.pide_base.specs.declared.status.Status.{Status}
use Rattle.pide_base.specs.declared.status.Status.TheVariants as status
use Rattle.byte_message.proofs.KnownEndings.{one-reading}
use Rattle.byte_message.proofs.KnownLonger.{bad-reading}
use Rattle.byte_message.specs.Stream.{IsReadAs}
use Rattle.byte_message.specs.Stream.Ending.{Whole, Bad, Short}
use Rattle.byte_message.specs.declared.frame_fault.FrameFault.{FrameFault}
use Rattle.message_input.specs.Causes.{CompleteSo, HasCause, HasEnding, TakesSo}

-- what is taken of known bytes is a front of them
known_front : (left left' : Option (List ℕ)) (bytes taken : List ℕ) → left ≡ Some bytes → Consumes left left' taken → (rest : List ℕ) × (bytes ≡ taken ++ rest) × (left' ≡ Some rest)
known_front left left' bytes taken known took = after left' (subst (λ (l : Option (List ℕ)). Consumes l left' taken) known took)
  where
    after : (l : Option (List ℕ)) → Consumes (Some bytes) l taken → (rest : List ℕ) × (bytes ≡ taken ++ rest) × (l ≡ Some rest)
    after None p = absurd p
    after (Some rest) p = (rest, p, refl)

-- bytes that end between messages end neither at a fault nor within a message
never_faulty : (bytes taken rest : List ℕ) (fault : FrameFault) → bytes ≡ taken ++ rest → HasEnding bytes Whole → HasEnding taken (Bad fault) → ⊥
never_faulty bytes taken rest fault parts has bad =
    let all : IsReadAs bytes bad.0 (Bad fault) = subst (λ (b : List ℕ). IsReadAs b bad.0 (Bad fault)) (sym parts) (bad-reading taken rest bad.0 fault bad.1) in
    let same : Whole ≡ Bad fault = (one-reading bytes has.0 bad.0 Whole (Bad fault) has.1 all).1 in
    absurd (let no : ⊥ = cc in no)

never_short : (bytes taken rest : List ℕ) (at : ℕ) → bytes ≡ taken ++ rest → rest ≡ [] → HasEnding bytes Whole → HasEnding taken (Short at) → ⊥
never_short bytes taken rest at parts none has short =
    let whole : bytes ≡ taken = parts ∙ ap (λ (r : List ℕ). taken ++ r) none ∙ append-nil taken in
    let all : IsReadAs bytes short.0 (Short at) = subst (λ (b : List ℕ). IsReadAs b short.0 (Short at)) (sym whole) short.1 in
    let same : Whole ≡ Short at = (one-reading bytes has.0 short.0 Whole (Short at) has.1 all).1 in
    absurd (let no : ⊥ = cc in no)

-- it is done, or memory is short, where nothing else hinders it
pub completes : (limit : ℕ) (left left' : Option (List ℕ)) (pulls pulls' pushes pushes' : ℕ) (how : Status) → HasCause limit how left left'
    → (how ≡ status.ReadFault → Rose pulls pulls') → (how ≡ status.WriteFault → Rose pushes pushes') → ((len : ℕ) → how ≢ status.BadReply len)
    → CompleteSo limit left pulls pulls' pushes pushes' how
completes limit left left' pulls pulls' pushes pushes' how cause read write replies bytes known has few quiet_in quiet_out = by_status how refl
  where
    by_status : (s : Status) → how ≡ s → (how ≡ status.Done) ⊎ (how ≡ status.NoMemory)
    by_status status.Done e = inl e
    by_status status.NoMemory e = inr e
    by_status status.Usage e = absurd (cause.no_words e)
    by_status status.ReadFault e = absurd (quiet_in (read e))
    by_status status.WriteFault e = absurd (quiet_out (write e))
    by_status (status.BadFrame at) e =
        let bad = cause.bad_frame at e in
        let front = known_front left left' bytes bad.0 known bad.1 in
        absurd (never_faulty bytes bad.0 front.0 bad.2.0 front.1 has bad.2.1)
    by_status (status.Truncated at) e =
        let short = cause.truncated at e in
        let front = known_front left left' bytes short.0 known short.1 in
        absurd (never_short bytes short.0 front.0 at front.1 (subst IsAtEnd front.2 short.2) has short.3)
    by_status status.LongInput e =
        let long = cause.long_input in
        let front = known_front left left' bytes long.0 known long.1 in
        let many = (subst (λ (s : Status). TakesSo limit s long.0) e long.2).0 in
        let all : length bytes ≡ length long.0 + length front.0 = ap length front.1 ∙ length-append long.0 front.0 in
        absurd (omega arith)
    by_status (status.BadText at) e = absurd (cause.no_text at e)
    by_status (status.BadReply len) e = absurd (replies len e)
