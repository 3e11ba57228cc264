-- What live versions had and later ones have not (this project's own).
use Rattle.std.specs.Prelude.{◌≡◌, ℕ, ◌==◌, ◌<◌, ◌≤◌, nat_lt, Bool, true, false, ◌&&◌, ◌||◌, List, [], ◌∷◌, find, Option}
use Rattle.std.specs.Option.{option_map}
use Rattle.std.specs.List.{list_any}
use Rattle.text_words.specs.Members.{has}
use Rattle.core_tables.specs.declared.versions.Live.{Live}
use Rattle.exec_rules.specs.declared.version.Version.{Version}
use Rattle.core_rules.specs.Assigned.{assigns, is_assigned}
use Rattle.version_losses.specs.declared.losses.Loss.{Loss}

-- what contracts see: live versions with what was lost by them, oldest first, and how many more fit
-- without memory
pub record Line : Type 0 where
  pub losses : List Loss
  pub room : ℕ

-- the number that came next when the version of this id was made
abbrev pub number_of : List Loss → ℕ → Option ℕ
number_of losses id = option_map (λ loss. loss.next) (find (λ loss. loss.id == id) losses)

-- one of these versions lost the execution
abbrev pub is_lost : List Loss → ℕ → Bool
is_lost losses e = list_any (λ loss. has loss.lost e) losses

-- the version is this live one, and n came next at the live version before it: it has just those
-- executions, below its own number, that are lost later or that the tip has; and what was lost by
-- it the version before had, and it has not, nor a later one
pub record IsLoss (tip : Version) (n : ℕ) (loss : Loss) (later : List Loss) (one : Live Version)
    (live : List (Live Version)) : Type 0 where
  pub same : loss.id ≡ one.id
  pub after : n ≤ loss.next
  pub has_so : (e : ℕ) → assigns one.version e
      ≡ (nat_lt e loss.next && (is_lost later e || assigns tip e))
  pub before : (e : ℕ) → has loss.lost e ≡ true → e < n
  pub lost : (e : ℕ) → has loss.lost e ≡ true → is_assigned (one ∷ live) e ≡ false
  pub not_tip : (e : ℕ) → has loss.lost e ≡ true → assigns tip e ≡ false

-- n came next at the newest version: all that the tip has is below it
pub record IsNewest (tip : Version) (top n : ℕ) : Type 0 where
  pub within : n ≤ top
  pub below : (e : ℕ) → assigns tip e ≡ true → e < n

-- these are the live versions, of which the newest is the tip, oldest first; n came next at the one
-- before them, and top comes next now
abbrev pub AreLosses : Version → ℕ → ℕ → List Loss → List (Live Version) → Type 0
AreLosses tip top n [] [] = IsNewest tip top n
AreLosses tip top n (loss ∷ later) (one ∷ live) =
    IsLoss tip n loss later one live × AreLosses tip top loss.next later live
AreLosses tip top n losses live = ⊥
