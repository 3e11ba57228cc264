-- The first fault of a text, chunk by chunk.
use Rattle.std.proofs.Common.{◌≡◌, ℕ, ◌+◌, List, length, Option, None, sym, ap, ◌∙◌, arith}
use Rattle.std.specs.List.{slice_split}
use Rattle.yxml.specs.Marks.{open_after}
use Rattle.yxml.specs.declared.fault.YxmlFault.{YxmlFault}
use Rattle.yxml.specs.Reading.{is_x, is_y, said, marks_said, nesting_fault, or_later, first_fault}
use Rattle.message_values.specs.Chunks.{IsFirstChunk}

-- the next chunk has no fault
pub next_chunk : (rest chunk more : List ℕ) (depth at end behind : ℕ) (whole : Option YxmlFault) → IsFirstChunk rest chunk more
    → whole ≡ first_fault depth at (slice_split is_x rest) end → nesting_fault depth at (said at (slice_split is_y chunk)) ≡ None
    → behind ≡ open_after depth (marks_said (said at (slice_split is_y chunk)))
    → whole ≡ first_fault behind (at + (length chunk + 1)) (slice_split is_x more) end
next_chunk rest chunk more depth at end behind whole first e fine is =
    let here : at + length chunk + 1 ≡ at + (length chunk + 1) = omega arith in
    e ∙ first.fault depth at end
    ∙ ap (λ o. or_later o (first_fault (open_after depth (marks_said (said at (slice_split is_y chunk)))) (at + length chunk + 1) (slice_split is_x more) end)) fine
    ∙ ap (λ d. first_fault d (at + length chunk + 1) (slice_split is_x more) end) (sym is)
    ∙ ap (λ a. first_fault behind a (slice_split is_x more) end) here
