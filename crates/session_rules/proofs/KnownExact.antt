-- Where nothing of a node is pending in a live version, all that is assigned there is shown.
use Rattle.std.proofs.Common.{◌≡◌, ℕ, suc, Bool, true, false, List, [], ◌∷◌, Some, refl, sym, ap, ◌∙◌}
use Rattle.std.specs.Prelude.{◌||◌, slice_get}
use Rattle.std.specs.List.{flat_map}
use Rattle.text_words.specs.Members.{has}
use Rattle.core_tables.specs.declared.versions.Live.{Live}
use Rattle.exec_rules.specs.declared.row.Row.{Row}
use Rattle.exec_rules.specs.declared.version.Version.{Version}
use Rattle.exec_rules.specs.Assigning.{entries_in, rows_in}
use Rattle.exec_rules.specs.Listed.{executions}
use Rattle.language.specs.Lang.{Lang}
use Rattle.core_rules.specs.declared.event.Event.{Event}
use Rattle.core_rules.specs.Assigned.{assigns}
use Rattle.core_rules.specs.Doc.{doc}
use Rattle.core_rules.specs.Legal.{IsLegal}
use Rattle.core_rules.specs.Settings.{Setting, setting}
use Rattle.core_rules.specs.Shown.{parts_shown, pending}
use Rattle.core_rules.specs.Sources.{HasHome}
use Rattle.session_rules.specs.Promises.{are_all_shown}
use Rattle.session_rules.proofs.KnownSeen.{commands_seen, has_either, none_pending}

-- executions of a row are assigned
pub rows_have : (rows : List Row) (e : ℕ) → has (flat_map executions rows) e ≡ true
    → (i : ℕ) × ((row : Row) × (slice_get rows i ≡ Some row) × (has (executions row) e ≡ true))
rows_have [] e is = absurd (cc)
rows_have (row ∷ rows) e is = go (has (executions row) e) refl (has_either (executions row) (flat_map executions rows) e is) (rows_have rows e)
  where
    go : (b : Bool) → has (executions row) e ≡ b → (has (executions row) e || has (flat_map executions rows) e) ≡ true
        → (has (flat_map executions rows) e ≡ true → (i : ℕ) × ((other : Row) × (slice_get rows i ≡ Some other) × (has (executions other) e ≡ true)))
        → (i : ℕ) × ((other : Row) × (slice_get (row ∷ rows) i ≡ Some other) × (has (executions other) e ≡ true))
    go true at either rest = (0, (row, refl, at))
    go false at either rest =
        let there = rest (ap (λ b. b || has (flat_map executions rows) e) (sym at) ∙ either) in
        (suc there.0, (there.1.0, there.1.1, there.1.2))

-- all parts of a node
pub all_seen : {S : Type 0} (l : Lang S) → ((h : List Event) (k : ℕ) (one : Live Version) (e : ℕ) → IsLegal l h
    → slice_get (doc l h).live k ≡ Some one → assigns one.version e ≡ true → HasHome l (doc l h) one.version e)
    → ((v : Version) (name : List ℕ) (i e : ℕ) (row : Row) → slice_get (rows_in v name) i ≡ Some row → has (executions row) e ≡ true → assigns v e ≡ true)
    → (h : List Event) → IsLegal l h → (k : ℕ) (one : Live Version) → slice_get (doc l h).live k ≡ Some one
    → (name : List ℕ) → pending l h (doc l h) one.version name ≡ [] → are_all_shown (parts_shown l h (doc l h) one.version name) ≡ true
all_seen {S} l homed there h legal k one at name none =
    let rows = rows_in one.version name in
    let works : (e : ℕ) → has (flat_map executions rows) e ≡ true → (x : Setting S) × (setting l (doc l h).homes e ≡ Some x) = λ e is.
    (let row = rows_have rows e is in
    let home = homed h k one e legal at (there one.version name row.0 e row.1.0 row.1.1 row.1.2) in
    (home.works_on, home.setting_is)) in
    commands_seen l h (doc l h).homes (entries_in one.version name) rows (none_pending l h (doc l h).homes rows none works)
