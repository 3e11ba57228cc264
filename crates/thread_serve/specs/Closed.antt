-- What is known of a session once all who took turns at it have stopped (this project's own).
use Rattle.std.specs.Prelude.{◌≡◌, ℕ, ◌+◌, ◌<◌, ◌≤◌, List, reverse, None}
use mathlib.Core.List.{IsPrefix}
use Rattle.hist_lock.specs.declared.view.View.{View}
use Rattle.hist_lock.specs.Entries.{own}
use Rattle.worker_loop.specs.Held.{held_in}
use Rattle.language.specs.Lang.{Lang}
use Rattle.session_rules.specs.declared.service.Service.TheVariants.{Workers}
use Rattle.document_session.specs.keeping_rules_below.Items.{SessionItem}
use Rattle.document_session.specs.keeping_rules_below.Legal.{AreLegal}
use Rattle.document_session.specs.Contents.{SessionState}
use Rattle.view_laws.specs.Callers.{whose}
use Rattle.view_laws.specs.Says.{says}

-- the items that a caller made, the oldest first
abbrev pub made_items : ℕ → SessionState → List SessionItem
made_items who s = own whose who (reverse s.items)

-- these views of the reader and of the writer, which comes after so many workers, are views of the
-- session's list, which has just what they made as theirs
pub record IsClosed {S : Type 0} (l : Lang S) (count : ℕ) (reader writer : View SessionItem)
    (s : SessionState) : Type 0 where
  pub service : s.service ≡ Workers count
  pub legal : AreLegal l s.service s.items
  pub reader_made : made_items 0 s ≡ reader.mine
  pub writer_made : made_items (count + 1) s ≡ writer.mine
  pub reader_saw : IsPrefix reader.seen (reverse s.items)
  pub writer_saw : IsPrefix writer.seen (reverse s.items)

-- no worker holds a part
abbrev pub WorkersAreFree : ℕ → SessionState → Type 0
WorkersAreFree count s = (who : ℕ) → 0 < who → who ≤ count → held_in says (made_items who s) ≡ None
