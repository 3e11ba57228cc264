-- What an event leaves as it was: what other workers hold, and the tip, where it makes no version.
use Rattle.std.proofs.Common.{◌≡◌, ℕ, false, cond, List, ◌∷◌, Option, Some, None, refl, ap, ◌∙◌}
use Rattle.std.specs.Prelude.{◌==◌, ⊤}
use Rattle.pide_base.specs.declared.part.Part.{Part}
use Rattle.language.specs.Lang.{Lang}
use Rattle.core_jobs.specs.Jobs.{JobContent}
use Rattle.core_rules.specs.declared.event.Event.{Event}
use Rattle.core_rules.specs.declared.event.Event.TheVariants as event
use Rattle.core_rules.specs.Standing.{held, held_by}
use Rattle.core_rules.specs.Doc.{doc}
use Rattle.core_rules.proofs.KnownStays.{setting_stays}
use Rattle.test_editor.specs.Desk.{Holds}

-- the event is none of this worker's
abbrev pub IsOther : ℕ → Event → Type 0
IsOther w (event.Claimed v p) = (v == w) ≡ false
IsOther w (event.Finished v p) = (v == w) ≡ false
IsOther w (event.Dropped v p) = (v == w) ≡ false
IsOther w e = ⊤

-- the event makes no version
abbrev pub IsQuiet : Event → Type 0
IsQuiet (event.Update id nodes blobs) = ⊥
IsQuiet e = ⊤

held_on : (e : Event) (w : ℕ) (o : Option Part) → IsOther w e → held_by e w o ≡ o
held_on (event.Update id nodes blobs) w o other = refl
held_on (event.Cancel x) w o other = refl
held_on (event.Remove ids) w o other = refl
held_on (event.Claimed v p) w o other = ap (λ b. cond b (Some p) o) other
held_on (event.Finished v p) w o other = ap (λ b. cond b None o) other
held_on (event.Dropped v p) w o other = ap (λ b. cond b None o) other
held_on event.Ended w o other = refl

module _ {S : Type 0} (l : Lang S) where
  pub holds_on : (h : List Event) (e : Event) (w : ℕ) (job : JobContent S) → IsOther w e → Holds l h w job
      → Holds l (e ∷ h) w job
  holds_on h e w job other k = record {
    part = held_on e w (held h w) other ∙ k.part;
    right = setting_stays l e h job.part.exec _ k.right;
  }

  -- the tip, its commands and the last version stay where no version is made
  pub tip_on : (h : List Event) (e : Event) → IsQuiet e → (doc l (e ∷ h)).tip ≡ (doc l h).tip
  tip_on h (event.Update id nodes blobs) quiet = absurd quiet
  tip_on h (event.Cancel x) quiet = refl
  tip_on h (event.Remove ids) quiet = refl
  tip_on h (event.Claimed v p) quiet = refl
  tip_on h (event.Finished v p) quiet = refl
  tip_on h (event.Dropped v p) quiet = refl
  tip_on h event.Ended quiet = refl

  pub commands_on : (h : List Event) (e : Event) → IsQuiet e → (doc l (e ∷ h)).commands ≡ (doc l h).commands
  commands_on h (event.Update id nodes blobs) quiet = absurd quiet
  commands_on h (event.Cancel x) quiet = refl
  commands_on h (event.Remove ids) quiet = refl
  commands_on h (event.Claimed v p) quiet = refl
  commands_on h (event.Finished v p) quiet = refl
  commands_on h (event.Dropped v p) quiet = refl
  commands_on h event.Ended quiet = refl

  pub last_on : (h : List Event) (e : Event) → IsQuiet e → (doc l (e ∷ h)).last ≡ (doc l h).last
  last_on h (event.Update id nodes blobs) quiet = absurd quiet
  last_on h (event.Cancel x) quiet = refl
  last_on h (event.Remove ids) quiet = refl
  last_on h (event.Claimed v p) quiet = refl
  last_on h (event.Finished v p) quiet = refl
  last_on h (event.Dropped v p) quiet = refl
  last_on h event.Ended quiet = refl
