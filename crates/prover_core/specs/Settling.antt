-- What is said of how far a version is (this project's own).
use Rattle.std.specs.Prelude.{◌≡◌, ℕ, ◌==◌, nat_lt, Bool, true, false, not, ◌&&◌, ◌||◌, is_some, List, length, Some, None}
use Rattle.text_words.specs.Members.{has}
use Rattle.pide_base.specs.declared.part.Part.{Part}
use Rattle.core_tables.specs.Live.{version_of}
use Rattle.core_tables.specs.Ready.{Standings}
use Rattle.exec_rules.specs.declared.version.Version.{Version}
use Rattle.language.specs.Lang.{Lang}
use Rattle.core_rules.specs.declared.event.Event.{Event}
use Rattle.core_rules.specs.Assigned.{assigns}
use Rattle.core_rules.specs.Standing.{is_finished}
use Rattle.core_rules.specs.Doc.{doc}
use Rattle.core_rules.specs.Ready.{is_part}
use Rattle.core_rules.specs.Stuck.{is_stuck, is_settled, stuck_in}
use Rattle.prover_core.specs.declared.settling.Settled.{Settled}
use Rattle.prover_core.specs.declared.settling.Settled.TheVariants as settled

-- the version assigns the part, which is unfinished and not stuck
pub record IsLeft {S : Type 0} (l : Lang S) (h : List Event) (version : Version) (p : Part)
    : Type 0 where
  pub assigned : assigns version p.exec ≡ true
  pub made : is_part l (doc l h).homes p ≡ true
  pub unfinished : is_finished h p ≡ false
  pub not_stuck : is_stuck h (doc l h) p ≡ false

-- the version of this id is live and settled
pub record IsSettled {S : Type 0} (l : Lang S) (h : List Event) (id : ℕ) : Type 0 where
  pub version : Version
  pub live : version_of (doc l h).live id ≡ Some version
  pub is_settled : is_settled l h (doc l h) version ≡ true

-- what is looked at of the tip for a settled version behind which n came next, where these of the
-- tip are cancelled: nothing where none is, else what is cancelled or has a task, below n
abbrev pub is_looked_at : List ℕ → Standings → ℕ → ℕ → Bool
is_looked_at cancelled tasks n e = not (length cancelled == 0)
    && (nat_lt e n && (has cancelled e || is_some (tasks e)))

-- a version is settled, with the stuck executions that it assigns, rising; or it assigns a part
-- that is left; or none of this id is live
abbrev pub SettledSo : {S : Type 0} → Lang S → List Event → ℕ → Settled → Type 0
SettledSo l h id (settled.Settled stuck) = (so : IsSettled l h id)
    × (stuck.items ≡ stuck_in l h (doc l h) so.version)
SettledSo l h id (settled.Left p) = (version : Version)
    × (version_of (doc l h).live id ≡ Some version) × IsLeft l h version p
SettledSo l h id settled.Unknown = version_of (doc l h).live id ≡ None
