-- The reader works until a version is settled.
use Rattle.std.proofs.Common.{◌≡◌, ℕ, zero, suc, ◌<◌, ◌≤◌, Bool, true, false, List, ◌∷◌, None, Some, Result, refl, sym, ap, subst, ◌∙◌, arith}
use Rattle.std.proofs.lemmas.Bool.{leb-false, leb-true}
use Rattle.std.specs.Prelude.{if◌then◌else◌, nat_le}
use Rattle.pide_base.specs.declared.part.Part.{Part}
use Rattle.exec_rules.specs.declared.version.Version.{Version}
use Rattle.language.specs.Lang.{Lang}
use Rattle.message_values.specs.declared.editor_message.EditorMessage.{EditorMessage}
use Rattle.message_values.specs.declared.refusal.Refusal.{Refusal}
use Rattle.core_rules.specs.declared.event.Event.{Event}
use Rattle.core_rules.specs.Alone.{alone}
use Rattle.core_rules.specs.Ready.{IsFirst, first_ready}
use Rattle.session_rules.specs.declared.service.Service.{Service}
use Rattle.session_rules.specs.Heard.{Heard, Claimed, Finished}
use Rattle.session_rules.specs.History.{session}
use Rattle.session_rules.specs.Legal.{IsLegal, awaited}
use Rattle.session_rules.specs.OneThread.{is_settled_in, worked_by, worked_until}
use Rattle.session_rules.proofs.KnownResting.{IsWorkOn, fewer_steps, made, work_first, work_next}
use Rattle.session_rules.proofs.KnownStays.{awaited_stays}

module _ {S : Type 0} (l : Lang S) (service : Service) (version : Version) where
  abbrev pub past : List Heard → List Event
  past h = (session l service h).events

  abbrev pub settled : List Heard → Bool
  settled h = is_settled_in l (session l service h) version

  -- the one history is the other, and then so many parts that the reader took and finished, while the version wasn't settled
  abbrev pub IsUntil : ℕ → List Heard → List Heard → Type 0
  IsUntil zero from to = to ≡ from
  IsUntil (suc n) from to = (part : Part) × ((m : List Heard) × (to ≡ Finished 0 part ∷ Claimed 0 part ∷ m) × (settled m ≡ false) × IsUntil n from m)

  -- one step more
  abbrev once : List Heard → List Heard
  once h = if settled h then h else worked_by h (first_ready l (past h))

  module _ (firsts : (h : List Event) (p : Part) → IsFirst l h p → first_ready l h ≡ Some p) where
    first_of : (m : List Heard) (p : Part) → IsLegal l service (Finished 0 p ∷ Claimed 0 p ∷ m) → first_ready l (past m) ≡ Some p
    first_of m p legal = firsts (past m) p legal.0.1.0.2

    -- there is one such history
    pub until_is : (n : ℕ) (from to : List Heard) → IsUntil n from to → IsLegal l service to → worked_until l service version n from ≡ to
    until_is zero from to is legal = sym is
    until_is (suc n) from to (part, (m, is, open_, rest)) legal =
        let all : IsLegal l service (Finished 0 part ∷ Claimed 0 part ∷ m) = subst (IsLegal l service) is legal in
        ap once (until_is n from m rest all.0.0) ∙ ap (λ b. if b then m else worked_by m (first_ready l (past m))) open_
        ∙ ap (worked_by m) (first_of m part all) ∙ sym is

    -- it works on as many parts
    pub works_of : (n : ℕ) (from to : List Heard) → IsUntil n from to → IsLegal l service to → IsWorkOn l (past from) (past to) n
    works_of zero from to is legal = subst (λ (h : List Heard). IsWorkOn l (past from) (past h) 0) (sym is) (work_first l (past from))
    works_of (suc n) from to (part, (m, is, open_, rest)) legal =
        let all : IsLegal l service (Finished 0 part ∷ Claimed 0 part ∷ m) = subst (IsLegal l service) is legal in
        work_next l (past from) n (past m) (past to) part (works_of n from m rest all.0.0) (first_of m part all) (ap past is)

    -- and these are no more than there are
    pub within : ((h : List Event) → first_ready l (alone l 0 (made l h) h) ≡ None) → (n : ℕ) (from to : List Heard) → IsUntil n from to
        → IsLegal l service to → n ≤ made l (past from)
    within rests zero from to is legal = omega arith
    within rests (suc n) from to (part, (m, is, open_, rest)) legal =
        let all : IsLegal l service (Finished 0 part ∷ Claimed 0 part ∷ m) = subst (IsLegal l service) is legal in
        let first = first_of m part all in
        let less = fewer_steps l (past from) (rests (past from)) n (past m) (works_of n from m rest all.0.0)
        (λ none. let no : Some part ≡ None = sym first ∙ none in absurd (cc)) in
        omega (arith, less)

  -- it waits for the same version
  pub awaited_until : (n : ℕ) (from to : List Heard) → IsUntil n from to → (read : Result EditorMessage Refusal)
      → awaited l service to read ≡ awaited l service from read
  awaited_until zero from to is read = ap (λ (h : List Heard). awaited l service h read) is
  awaited_until (suc n) from to (part, (m, is, open_, rest)) read = ap (λ (h : List Heard). awaited l service h read) is
      ∙ awaited_stays l service m part read ∙ awaited_until n from m rest read

  once_settled : (h : List Heard) → settled h ≡ true → once h ≡ h
  once_settled h done = ap (λ b. if b then h else worked_by h (first_ready l (past h))) done

  -- once it is settled nothing is worked on
  pub until_stays : (n m : ℕ) (from : List Heard) → n ≤ m → settled (worked_until l service version n from) ≡ true
      → worked_until l service version m from ≡ worked_until l service version n from
  until_stays n zero from le done =
      let same : n ≡ 0 = omega (arith, le) in subst (λ k. worked_until l service version 0 from ≡ worked_until l service version k from) (sym same) refl
  until_stays n (suc m) from le done = go (nat_le n m) refl (λ less. until_stays n m from less done)
    where
      go : (b : Bool) → nat_le n m ≡ b → (n ≤ m → worked_until l service version m from ≡ worked_until l service version n from)
          → worked_until l service version (suc m) from ≡ worked_until l service version n from
      go true e before = ap once (before (leb-true n m e)) ∙ once_settled (worked_until l service version n from) done
      go false e before =
          let more : m < n = leb-false n m e in
          let same : n ≡ suc m = omega (arith, le, more) in
          subst (λ k. worked_until l service version (suc m) from ≡ worked_until l service version k from) (sym same) refl
