-- The first chunk of a text.
use Rattle.std.specs.Prelude.{◌≡◌, ℕ, ◌+◌, ◌<◌, ◌≤◌, List, ◌++◌, length}
use Rattle.std.specs.List.{slice_split}
use Rattle.yxml.specs.Marks.{open_after}
use Rattle.yxml.specs.Reading.{is_x, is_y, said, marks_said, marks_in, nesting_fault, or_later, first_fault}

-- the text says what the chunk says, and then what the rest says
pub record IsFirstChunk (text chunk rest : List ℕ) : Type 0 where
  pub marks : marks_in text ≡ marks_said (said 0 (slice_split is_y chunk)) ++ marks_in rest
  pub fault : (depth at end : ℕ) → let says = said at (slice_split is_y chunk) in
      first_fault depth at (slice_split is_x text) end
      ≡ or_later (nesting_fault depth at says) (first_fault
      (open_after depth (marks_said says)) (at + length chunk + 1) (slice_split is_x rest) end)
  pub smaller : 0 < length text → length rest < length text
  pub within : length chunk ≤ length text
  pub parted : 0 < length rest → length chunk + length rest + 1 ≤ length text
