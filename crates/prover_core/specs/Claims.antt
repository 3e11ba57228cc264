-- What a claim answers, and what it adds to all that has happened (this project's own).
use Rattle.std.specs.Prelude.{◌≡◌, ◌≢◌, ◌⊎◌, ℕ, true, false, List, ◌∷◌, Some, None}
use Rattle.language.specs.Lang.{Lang}
use Rattle.core_jobs.specs.Jobs.{JobContent}
use Rattle.core_jobs.specs.Fits.{IsJobOf}
use Rattle.core_rules.specs.declared.event.Event.{Event}
use Rattle.core_rules.specs.declared.event.Event.TheVariants as event
use Rattle.core_rules.specs.Standing.{held, has_ended}
use Rattle.core_rules.specs.Doc.{doc}
use Rattle.core_rules.specs.Ready.{first_ready}
use Rattle.prover_core.specs.declared.claiming.Claim.{Claim}
use Rattle.prover_core.specs.declared.claiming.Claim.TheVariants as claim

-- nothing can be taken by this worker: nothing is ready, it holds a part, or all has ended
abbrev pub IsIdle : {S : Type 0} → Lang S → List Event → ℕ → Type 0
IsIdle l h who = (first_ready l h ≡ None) ⊎ ((held h who ≢ None) ⊎ (has_ended h ≡ true))

-- the worker claims the first ready part, with its job
abbrev pub IsClaimed : {S : Type 0} → Lang S → ℕ → List Event → JobContent S → List Event → Type 0
IsClaimed l who old job new = (held old who ≡ None) × (has_ended old ≡ false)
    × (first_ready l old ≡ Some job.part) × IsJobOf l (doc l old).homes job
    × (new ≡ event.Claimed who job.part ∷ old)

-- a claim takes the first ready part; nothing exactly where the worker can't
abbrev pub ClaimedSo : {S : Type 0} → Lang S → ℕ → List Event → Claim S → List Event → Type 0
ClaimedSo l who old (claim.Job job flag) new = IsClaimed l who old job new
ClaimedSo l who old claim.Nothing new = IsIdle l old who × (new ≡ old)
ClaimedSo l who old claim.NoMemory new = new ≡ old
