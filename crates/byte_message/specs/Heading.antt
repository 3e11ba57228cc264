-- How bytes begin: with a line that is fit, that isn't, or that hasn't ended.
use Rattle.std.specs.Prelude.{◌==◌, ℕ, cond, nat_lt, List, [], ◌∷◌, length, Option, Some, None, Result, Ok, Err}
use Rattle.byte_message.specs.Limits.{longest_line}
use Rattle.byte_message.specs.Line.{judge}
use Rattle.byte_message.specs.declared.line_fault.LineFault.{LineFault}
use Rattle.byte_message.specs.declared.line_fault.LineFault.TheVariants.{BadHeader}

-- a fit line and the bytes after its newline, a line at fault, or a line that may still be fit
pub data Heading : Type 0 where
  Fit : List ℕ → List ℕ → Heading
  Faulty : LineFault → Heading
  Unended : Heading

-- the bytes before the first newline
abbrev pub line_of : List ℕ → List ℕ
line_of [] = []
line_of (b ∷ bs) = cond (b == 10) [] (b ∷ line_of bs)

-- the bytes after the first newline
abbrev pub after_line : List ℕ → Option (List ℕ)
after_line [] = None
after_line (b ∷ bs) = cond (b == 10) (Some bs) (after_line bs)

-- by what came of judging the line, with the bytes after its newline
abbrev pub judged_heading : Result (List ℕ) LineFault → List ℕ → Heading
judged_heading (Ok lengths) body = Fit lengths body
judged_heading (Err fault) body = Faulty fault

-- by the bytes before the first newline and those after it, if there is one
abbrev pub heading_of : List ℕ → Option (List ℕ) → Heading
heading_of line None = cond (nat_lt longest_line (length line)) (Faulty BadHeader) Unended
heading_of line (Some body) = judged_heading (judge line) body

-- a line is judged when its newline is there, or when one byte too many without one is (this
-- project's own)
abbrev pub heading : List ℕ → Heading
heading bytes = heading_of (line_of bytes) (after_line bytes)
