-- The reader works until the version that is waited for is settled.
use Rattle.std.proofs.Common.{◌≡◌, ◌≢◌, ℕ, zero, suc, ◌+◌, ◌≤◌, Bool, true, false, List, ◌∷◌, Option, None, Some, inr, refl, ◌∙◌, arith}
use Rattle.std.specs.Prelude.{slice_get}
use Rattle.pide_base.specs.declared.part.Part.{Part}
use Rattle.core_tables.specs.declared.versions.Live.{Live}
use Rattle.exec_rules.specs.declared.version.Version.{Version}
use Rattle.language.specs.Lang.{Lang}
use Rattle.message_values.specs.Asked.{asked}
use Rattle.core_rules.specs.declared.event.Event.{Event}
use Rattle.core_rules.specs.Alone.{alone}
use Rattle.core_rules.specs.Doc.{doc}
use Rattle.core_rules.specs.Legal.{IsLegal as IsLegalList}
use Rattle.core_rules.specs.Ready.{IsFirst, first_ready}
use Rattle.core_rules.specs.Standing.{has_ended, held}
use Rattle.core_rules.specs.Stuck.{is_settled}
use Rattle.core_rules.proofs.KnownFirst.{ready_wanted}
use Rattle.session_rules.specs.declared.entry.Entry.{Entry}
use Rattle.session_rules.specs.declared.entry.Entry.TheVariants as entry
use Rattle.session_rules.specs.declared.service.Service.{Service}
use Rattle.session_rules.specs.Services.{free_workers, mode_of}
use Rattle.session_rules.specs.Heard.{Heard, all_heard}
use Rattle.session_rules.specs.History.{session}
use Rattle.session_rules.specs.Legal.{IsLegal, awaited}
use Rattle.session_rules.specs.Alone.{IsAlone}
use Rattle.session_rules.specs.Steps.{Nothing, due}
use Rattle.session_rules.specs.OneThread.{is_settled_in}
use Rattle.session_rules.specs.Runs.{called}
use Rattle.session_rules.proofs.KnownHolding.{reader_idle}
use Rattle.session_rules.proofs.KnownNamed.{AskedLaw}
use Rattle.session_rules.proofs.KnownResting.{IsWorkOn, fewer_steps, made, work_next}
use Rattle.session_rules.proofs.KnownStays.{awaited_stays}
use Rattle.session_rules.proofs.KnownWaited.{awaits, some_ready}

-- the laws of the core that this rests on
pub record CoreLaws {S : Type 0} (l : Lang S) : Type 0 where
  pub given : (h : List Event) (p : Part) → first_ready l h ≡ Some p → IsFirst l h p
  pub rests : (h : List Event) (k : ℕ) (one : Live Version) → IsLegalList l h → first_ready l h ≡ None → ((who : ℕ) → held h who ≡ None)
      → slice_get (doc l h).live k ≡ Some one → is_settled l h (doc l h) one.version ≡ true
  pub ends : (h : List Event) → first_ready l (alone l 0 (made l h) h) ≡ None
  pub events : (service : Service) (h : List Heard) → IsLegal l service h → IsLegalList l (session l service h).events

module _ {S : Type 0} (l : Lang S) (laws : CoreLaws l) (law : AskedLaw) (service : Service) (none : free_workers service ≡ 0)
    (m : List (List ℕ)) (version : Version) where
  abbrev past : List Entry → List Event
  past es = (session l service (all_heard service es)).events

  -- a message waits for the version
  pub record Waits (es : List Entry) : Type 0 where
    pub legal : IsLegal l service (all_heard service es)
    pub alone : IsAlone l service (Some version) (all_heard service es)
    pub rest : due l service (all_heard service es) ≡ Nothing
    pub going : has_ended (past es) ≡ false
    pub waits_for : awaited l service (all_heard service es) (asked (mode_of service) m) ≡ Some version

  abbrev with_part : Part → List Entry → List Entry
  with_part p es = entry.Finished 0 p ∷ entry.Claimed 0 p ∷ es

  -- one part more is worked on
  one_more : (es : List Entry) (p : Part) → Waits es → is_settled_in l (session l service (all_heard service es)) version ≡ false
      → first_ready l (past es) ≡ Some p → Waits (with_part p es)
  one_more es p w unsettled ready =
      let first = laws.given (past es) p ready in
      let turn : 0 ≤ free_workers service = omega arith in
      record {
        legal = (
          (w.legal, ((w.going, reader_idle l service (Some version) (all_heard service es) w.alone, first), inr (w.rest, turn))),
          ((refl, ready_wanted l (past es) p first), inr (refl, turn)),
        );
        alone = (refl, unsettled, w.alone);
        rest = refl;
        going = w.going;
        waits_for = awaited_stays l service (all_heard service es) p (asked (mode_of service) m) ∙ w.waits_for;
      }

  -- until the version is settled
  pub record Ready (first : List Entry) : Type 0 where
    pub es : List Entry
    pub waits : Waits es
    pub settled : is_settled_in l (session l service (all_heard service es)) version ≡ true
    pub calls_are : called es ≡ called first

  module _ (first : List Entry) where
    part_ready : (es : List Entry) → Waits es → is_settled_in l (session l service (all_heard service es)) version ≡ false
        → first_ready l (past es) ≢ None
    part_ready es w unsettled = some_ready l service law none es w.legal version
        (awaits l service (session l service (all_heard service es)) version (asked (mode_of service) m) w.waits_for) (Some version) w.alone
        (λ k one. laws.rests (past es) k one (laws.events service (all_heard service es) w.legal)) unsettled

    decide : (es : List Entry) → Waits es → called es ≡ called first
        → (b : Bool) → is_settled_in l (session l service (all_heard service es)) version ≡ b
        → ((p : Part) → first_ready l (past es) ≡ Some p
        → is_settled_in l (session l service (all_heard service es)) version ≡ false → Ready first) → Ready first
    decide es w calls true e next = record { es = es; waits = w; settled = e; calls_are = calls }
    decide es w calls false e next = go (first_ready l (past es)) refl
      where
        go : (o : Option Part) → first_ready l (past es) ≡ o → Ready first
        go None at = absurd (part_ready es w e at)
        go (Some p) at = next p at e

    pub work_on : (fuel n : ℕ) (es : List Entry) → Waits es → IsWorkOn l (past first) (past es) n → made l (past first) ≤ fuel + n
        → called es ≡ called first → Ready first
    work_on zero n es w so enough calls = decide es w calls
        (is_settled_in l (session l service (all_heard service es)) version) refl
        (λ p at e. let few = fewer_steps l (past first) (laws.ends (past first)) n (past es) so (part_ready es w e) in absurd (omega (arith, few, enough)))
    work_on (suc fuel) n es w so enough calls = decide es w calls
        (is_settled_in l (session l service (all_heard service es)) version) refl
        (λ p at e. work_on fuel (suc n) (with_part p es) (one_more es p w e at) (work_next l (past first) n (past es) (past (with_part p es)) p so at refl)
        (omega (arith, enough)) calls)
