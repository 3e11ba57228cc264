-- Which tokens of a text an edit keeps (this project's own).
use Rattle.std.specs.Prelude.{ℕ, ◌+◌, ◌-◌, ◌==◌, ◌&&◌, Bool, true, false, if◌then◌else◌, nat_lt, nat_le, List, length, Option, None, Some, fold, count_by, find}
use Rattle.std.specs.List.{list_any}
use Rattle.text_edits.specs.declared.edit.Edit.{Edit}
use Rattle.text_edits.specs.declared.edit.Edit.TheVariants.{Insert, Remove}
use Rattle.outer_syntax.specs.declared.kind.Kind.{Kind}
use Rattle.outer_syntax.specs.declared.kind.Kind.TheVariants.{Space}
use Rattle.outer_syntax.specs.declared.token.Token.{Token}
use Rattle.command_spans.specs.CutTexts.{CutText, tokens_in, boundaries}

-- where the edit begins
abbrev pub start_of : Edit → ℕ
start_of (Insert start x) = start
start_of (Remove start x) = start

-- the edit's start and the removed length: where it ends in the text before it
abbrev pub old_end_of : Edit → ℕ
old_end_of (Insert start x) = start
old_end_of (Remove start x) = start + length x

-- the edit's start and the inserted length: where it ends in the text after it
abbrev pub new_end_of : Edit → ℕ
new_end_of (Insert start x) = start + length x
new_end_of (Remove start x) = start

-- a run of blanks
abbrev pub is_space : Kind → Bool
is_space Space = true
is_space _ = false

-- a Space token that begins below the place
abbrev pub is_space_below : ℕ → Token → Bool
is_space_below place t = is_space t.kind && nat_lt t.range.start place

-- the restart: the start of the last Space token that begins below the edit's start; 0 where there
-- is none
abbrev pub restart : ℕ → List Token → ℕ
restart start tokens =
    fold (λ found t. if is_space_below start t then t.range.start else found) 0 tokens

-- how many tokens begin before the place
abbrev pub before : ℕ → List Token → ℕ
before place tokens = count_by (λ t. nat_lt t.range.start place) tokens

-- how many old tokens there are before the restart
abbrev pub front_in : Edit → List Token → ℕ
front_in edit tokens = before (restart (start_of edit) tokens) tokens

-- the same of a text
abbrev pub front_of : Edit → CutText → ℕ
front_of edit old = front_in edit (tokens_in old)

-- an old place at or past the old end, moved by the edit
abbrev pub moved : ℕ → ℕ → ℕ → ℕ
moved old_end new_end place = place - old_end + new_end

-- the place is at or past the new end, and an old boundary at or past the old end, moved
abbrev pub is_meeting : ℕ → ℕ → List ℕ → ℕ → Bool
is_meeting old_end new_end olds place = nat_le new_end place
    && list_any (λ o. nat_le old_end o && moved old_end new_end o == place) olds

-- how many tokens begin at the place or past it
abbrev pub past : Option ℕ → List Token → ℕ
past None tokens = 0
past (Some place) tokens = count_by (λ t. nat_le place t.range.start) tokens

-- the meeting: the first boundary of the new text that is an old one, behind the edit
abbrev pub meeting : Edit → List ℕ → CutText → Option ℕ
meeting edit olds new = find (is_meeting (old_end_of edit) (new_end_of edit) olds)
    (boundaries (length new.text) (tokens_in new))

-- how many new tokens there are after the meeting, when the old text had this length and these
-- tokens
abbrev pub back_in : Edit → ℕ → List Token → CutText → ℕ
back_in edit len tokens new = past (meeting edit (boundaries len tokens) new) (tokens_in new)

-- the same of a text
abbrev pub back_of : Edit → CutText → CutText → ℕ
back_of edit old new = back_in edit (length old.text) (tokens_in old) new
