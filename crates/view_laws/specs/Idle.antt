-- Where callers have nothing to do (this project's own).
use Rattle.std.specs.Prelude.{◌≡◌, ℕ, ◌+◌, ◌≤◌, false, List, [], reverse, None}
use Rattle.language.specs.Lang.{Lang}
use Rattle.core_rules.specs.Ready.{first_ready}
use Rattle.core_rules.specs.Standing.{has_ended}
use Rattle.keeping_rules.specs.Items.{SessionItem}
use Rattle.keeping_rules.specs.Pieces.{AreWaiting}
use Rattle.view_laws.specs.Callers.{worker_count}
use Rattle.view_laws.specs.Histories.{replies_after, session_after}

module _ {S : Type 0} (l : Lang S) (log : List SessionItem) where
  -- these replies wait to be sent
  abbrev pub Waits : List (List ℕ) → Type 0
  Waits waiting = AreWaiting (replies_after l log) (reverse log) waiting

  -- the caller may wait for another item: all has not ended, the reader and workers find no part
  -- ready, and the writer no reply to send
  pub record HasNothingToDo (who : ℕ) : Type 0 where
    pub going : has_ended (session_after l log).events ≡ false
    pub worker : who ≤ worker_count log → first_ready l (session_after l log).events ≡ None
    pub writer : who ≡ worker_count log + 1 → Waits []
