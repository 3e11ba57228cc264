-- What a removal of versions leaves, and what goes with them (this project's own).
use Rattle.std.specs.Prelude.{◌≡◌, ℕ, ◌==◌, nat_lt, Bool, true, false, not, ◌&&◌, if◌then◌else◌, List, [], ◌∷◌, ◌++◌, filter}
use Rattle.std.specs.List.{list_any}
use Rattle.text_words.specs.Members.{has}
use Rattle.core_tables.specs.declared.versions.Live.{Live}
use Rattle.core_tables.specs.declared.versions.Removing.TheVariants as answer
use Rattle.core_tables.specs.Removal.{left}
use Rattle.exec_rules.specs.declared.version.Version.{Version}
use Rattle.core_rules.specs.Assigned.{is_assigned}
use Rattle.version_losses.specs.declared.losses.Loss.{Loss}
use Rattle.version_losses.specs.declared.leaving.Leaving.{Leaving}
use Rattle.version_losses.specs.Losses.{AreLosses}

-- the versions that stay have their losses, and what goes is all that versions had and none that
-- stays has
pub record Leaves (tip : Version) (top : ℕ) (ids : List ℕ) (live : List (Live Version))
    (leaving : Leaving) : Type 0 where
  pub losses : AreLosses tip top 0 leaving.losses.losses (left answer.Removed ids live)
  pub gone : (e : ℕ) → is_assigned (left answer.Removed ids live) e
      ≡ (is_assigned live e && not (has leaving.gone.items e))

-- it is one of these ids
abbrev pub is_named : List ℕ → ℕ → Bool
is_named ids one = list_any (λ id. id == one) ids

-- those below n
abbrev pub below : ℕ → List ℕ → List ℕ
below n es = filter (λ e. nat_lt e n) es

-- those from n on
abbrev pub from : ℕ → List ℕ → List ℕ
from n es = filter (λ e. not (nat_lt e n)) es

-- the losses by versions that stay, when n came next at the last one before that stays: it has what
-- was lost below n by those that go, and the next one that stays takes that over. Nothing changes
-- where the version right before stays
abbrev pub left_from : List ℕ → Bool → ℕ → List ℕ → List Loss → List Loss
left_from ids whole n carried [] = []
left_from ids whole n carried (loss ∷ later) = if is_named ids loss.id
    then left_from ids false n (carried ++ below n loss.lost) later
    else (if whole then loss ∷ left_from ids true loss.next carried later
    else record loss { lost = carried ++ below n loss.lost }
    ∷ left_from ids true loss.next [] later)

-- what goes: what was lost from n on
abbrev pub gone_from : List ℕ → Bool → ℕ → List Loss → List ℕ
gone_from ids whole n [] = []
gone_from ids whole n (loss ∷ later) = if is_named ids loss.id
    then from n loss.lost ++ gone_from ids false n later
    else (if whole then gone_from ids true loss.next later
    else from n loss.lost ++ gone_from ids true loss.next later)
