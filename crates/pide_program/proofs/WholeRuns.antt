-- A session of one thread that has ended made a whole run: its newest entry is the end.
use Rattle.std.proofs.Common.{◌≡◌, ℕ, zero, suc, ◌≤◌, true, false, List, [], ◌∷◌, ◌++◌, None, inl, inr, refl, sym, ap, subst, ◌∙◌, arith}
use Rattle.std.proofs.lemmas.List.{reverse-append, reverse-reverse}
use Rattle.std.specs.Prelude.{reverse}
use Rattle.language.specs.Lang.{Lang}
use Rattle.message_values.specs.Asked.{asked}
use Rattle.core_rules.specs.Standing.{has_ended}
use Rattle.session_rules.specs.declared.entry.Entry.{Entry}
use Rattle.session_rules.specs.declared.entry.Entry.TheVariants as entry
use Rattle.session_rules.specs.declared.service.Service.{Service}
use Rattle.session_rules.specs.Services.{free_workers, mode_of}
use Rattle.session_rules.specs.Heard.{Heard, Message, Claimed, Finished, Dropped, Ended, all_heard}
use Rattle.session_rules.specs.History.{session}
use Rattle.session_rules.specs.Legal.{IsLegal, IsTurn}
use Rattle.session_rules.specs.Alone.{IsAlone}
use Rattle.session_rules.specs.Steps.{Due, Finishes, due}
use Rattle.session_rules.specs.Runs.{called}
use Rattle.session_rules.proofs.KnownHolding.{message_goes}
use Rattle.thread_serve.specs.document_serve_below.Served.{calls}

module _ {S : Type 0} (l : Lang S) (service : Service) (none : free_workers service ≡ 0) where
  abbrev has_end : List Heard → Type 0
  has_end h = has_ended (session l service h).events ≡ true

  abbrev goes : List Heard → Type 0
  goes h = has_ended (session l service h).events ≡ false

  -- a worker's step comes where it is called for
  called_step : (called step : Due) (w : ℕ) → IsTurn service called (suc w) step → called ≡ step
  called_step called step w (inl is) = is
  called_step called step w (inr free) =
      let few : suc w ≤ 0 = subst (λ (n : ℕ). suc w ≤ n) none free.1 in absurd (omega (arith, few))

  -- by a message, behind which the session goes on
  goes_on : (h : List Heard) (w : ℕ) → IsLegal l service h → due l service h ≡ Finishes w → goes h
  goes_on [] w legal is = refl
  goes_on (Message read ∷ h) w legal is = message_goes l service (session l service h) read ∙ legal.1.0
  goes_on (Claimed who p ∷ h) w legal is = absurd (cc)
  goes_on (Finished who p ∷ h) w legal is = absurd (cc)
  goes_on (Dropped who p ∷ h) w legal is = absurd (cc)
  goes_on (Ended ∷ h) w legal is = absurd (cc)

  not_both : (h : List Heard) → goes h → has_end h → ⊥
  not_both h going ended = let both : false ≡ true = sym going ∙ ended in absurd (cc)

  -- the newest entry is the end
  pub ends : (es : List Entry) → IsLegal l service (all_heard service es) → IsAlone l service None (all_heard service es)
      → has_end (all_heard service es)
      → (before : List Entry) × (es ≡ entry.Ended ∷ before)
  ends [] legal alone is = absurd (cc)
  ends (entry.Ended ∷ es) legal alone is = (es, refl)
  ends (entry.Call m ∷ es) legal alone is =
      absurd (not_both (all_heard service es) legal.1.0
      (sym (message_goes l service (session l service (all_heard service es)) (asked (mode_of service) m)) ∙ is))
  ends (entry.Claimed who p ∷ es) legal alone is = absurd (not_both (all_heard service es) legal.1.0.0 is)
  ends (entry.Finished zero p ∷ es) legal alone is = absurd (alone)
  ends (entry.Finished (suc w) p ∷ es) legal alone is =
      absurd (not_both (all_heard service es) (goes_on (all_heard service es) (suc w) legal.0 (called_step _ _ w legal.1.1)) is)
  ends (entry.Dropped zero p ∷ es) legal alone is = absurd (alone)
  ends (entry.Dropped (suc w) p ∷ es) legal alone is =
      absurd (not_both (all_heard service es) (goes_on (all_heard service es) (suc w) legal.0 (called_step _ _ w legal.1.1)) is)

-- messages in order are those that the newest begins, read back
called_back : (h : List Entry) → calls h ≡ reverse (called h)
called_back [] = refl
called_back (entry.Call m ∷ h) =
    ap (λ (ms : List (List (List ℕ))). ms ++ m ∷ []) (called_back h) ∙ sym (reverse-append (m ∷ []) (called h))
called_back (entry.Claimed who p ∷ h) = called_back h
called_back (entry.Finished who p ∷ h) = called_back h
called_back (entry.Dropped who p ∷ h) = called_back h
called_back (entry.Ended ∷ h) = called_back h

pub same_called : (h k : List Entry) → calls h ≡ calls k → called h ≡ called k
same_called h k is =
    sym (reverse-reverse (called h)) ∙ ap reverse (sym (called_back h) ∙ is ∙ called_back k) ∙ reverse-reverse (called k)
