-- Which message waits first where a worker ends its part.
use Rattle.std.proofs.Common.{◌≡◌, ℕ, zero, suc, ◌≤◌, List, [], ◌∷◌, ◌++◌, None, refl, arith}
use Rattle.pide_base.specs.declared.part.Part.{Part}
use Rattle.language.specs.Lang.{Lang}
use Rattle.message_values.specs.declared.mode.Mode.TheVariants.{Serve}
use Rattle.session_rules.specs.declared.entry.Entry.{Entry}
use Rattle.session_rules.specs.declared.entry.Entry.TheVariants as entry
use Rattle.session_rules.specs.declared.service.Service.{Service}
use Rattle.session_rules.specs.declared.service.Service.TheVariants.{Workers, Script}
use Rattle.session_rules.specs.Alone.{IsAlone}
use Rattle.session_rules.specs.Heard.{all_heard}
use Rattle.session_rules.specs.Services.{free_workers, mode_of}
use Rattle.mirror_rules.specs.Answers.{Read}
use Rattle.mirror_rules.specs.Replies.{without_finish}
use Rattle.editor_laws.specs.Follows.{AreFirst, calls}
use Rattle.editor_laws.proofs.AloneTurns.{never_dropped, none_waits}

serving : (sent : List Read) → without_finish Serve sent ≡ sent
serving [] = refl
serving (read ∷ more) = refl

module _ {S : Type 0} (l : Lang S) (part : Part) (ahead h : List Entry) (sent : List Read) where
  -- one that finishes by itself
  pub finishes_so : (service : Service) (who : ℕ) → who ≤ free_workers service
      → (service ≡ Script → IsAlone l service None (all_heard service (ahead ++ entry.Finished who part ∷ h))) → AreFirst sent (calls service ahead)
      → without_finish (mode_of service) sent ≡ sent
  finishes_so (Workers count) who le alone first = serving sent
  finishes_so Script zero le alone first = none_waits l part ahead h sent (alone refl) first
  finishes_so Script (suc w) le alone first = absurd (omega arith)

  -- and one that lets its part go
  pub drops_so : (service : Service) (who : ℕ) → who ≤ free_workers service
      → (service ≡ Script → IsAlone l service None (all_heard service (ahead ++ entry.Dropped who part ∷ h)))
      → without_finish (mode_of service) sent ≡ sent
  drops_so (Workers count) who le alone = serving sent
  drops_so Script zero le alone = absurd (never_dropped l part None ahead h (alone refl))
  drops_so Script (suc w) le alone = absurd (omega arith)
