-- What will never be finished, and when a version is settled (this project's own).
use Rattle.std.specs.Prelude.{ℕ, Bool, false, not, ◌&&◌, ◌||◌, List, [], ◌∷◌, length, filter}
use Rattle.std.specs.Option.{option_map_or}
use Rattle.std.specs.List.{list_any, list_all, range_with_len}
use Rattle.text_words.specs.Members.{has}
use Rattle.pide_base.specs.declared.part.Part.{Part}
use Rattle.exec_rules.specs.declared.home.Home.{Home}
use Rattle.exec_rules.specs.declared.version.Version.{Version}
use Rattle.language.specs.Lang.{Lang}
use Rattle.core_rules.specs.declared.event.Event.{Event}
use Rattle.core_rules.specs.Numbered.{next_number, numbered}
use Rattle.core_rules.specs.Assigned.{assigns, executions_of}
use Rattle.core_rules.specs.Parts.{sources_of, waits_for, parts_of, evaluation}
use Rattle.core_rules.specs.Standing.{is_finished}
use Rattle.core_rules.specs.Doc.{Doc}

-- an evaluation is stuck, among marks of older ones
abbrev pub is_marked : List Bool → ℕ → Bool
is_marked marks e = option_map_or (λ b. b) (numbered marks e) false

-- one execution more: its evaluation is stuck where it is unfinished, and it is cancelled or what
-- it takes up is stuck
abbrev pub with_mark : List Event → List ℕ → Home → List Bool → List Bool
with_mark h cancelled home marks =
    (not (is_finished h (evaluation (next_number marks)))
    && (has cancelled (next_number marks) || list_any (is_marked marks) (sources_of home.input)))
    ∷ marks

-- a mark for each execution, the newest first: its evaluation is stuck
abbrev pub stuck_marks : List Event → List ℕ → List Home → List Bool
stuck_marks h cancelled [] = []
stuck_marks h cancelled (home ∷ homes) = with_mark h cancelled home (stuck_marks h cancelled homes)

-- a part is stuck where it is unfinished, and its execution is cancelled or what it waits for is
-- stuck
abbrev pub is_stuck : List Event → Doc → Part → Bool
is_stuck h d p = not (is_finished h p) && (has d.cancelled p.exec
    || list_any (is_marked (stuck_marks h d.cancelled d.homes)) (waits_for d.homes p))

-- a part of the execution is stuck
abbrev pub is_stuck_in : {S : Type 0} → Lang S → List Event → Doc → ℕ → Bool
is_stuck_in l h d e = list_any (is_stuck h d) (parts_of l d.homes e)

-- each unfinished part of the execution is stuck
abbrev pub is_over : {S : Type 0} → Lang S → List Event → Doc → ℕ → Bool
is_over l h d e = list_all (λ p. is_finished h p || is_stuck h d p) (parts_of l d.homes e)

-- each unfinished part that a version assigns is stuck
abbrev pub is_settled : {S : Type 0} → Lang S → List Event → Doc → Version → Bool
is_settled l h d version = list_all (is_over l h d) (executions_of version)

-- the stuck executions that a version assigns, rising
abbrev pub stuck_in : {S : Type 0} → Lang S → List Event → Doc → Version → List ℕ
stuck_in l h d version = filter (λ e. assigns version e && is_stuck_in l h d e)
    (range_with_len 1 (length d.homes))
