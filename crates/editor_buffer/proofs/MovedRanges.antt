-- Ranges that edits move.
use Rattle.std.proofs.Common.{◌≡◌, ℕ, ◌<◌, ◌≤◌, ◌^◌, List, [], ◌∷◌, length, map, refl, ap, arith}
use Rattle.shared_map.specs.Pairs.{Each}
use Rattle.pide_base.specs.declared.range.Range.{Range}
use Rattle.text_edits.specs.declared.edit.Edit.{Edit}
use Rattle.text_edits.specs.Offsets.{convert}
use Rattle.buffer_rules.specs.Sheets.{converted}
use Rattle.editor_buffer.specs.Within.{AreWithin, IsSmall, moved}

-- one edit and then the others
pub converted_then : (edit : Edit) (edits : List Edit) (ranges : List Range) → map (converted edits) (map (moved edit) ranges) ≡ map (converted (edit ∷ edits)) ranges
converted_then edit edits [] = refl
converted_then edit edits (r ∷ rs) = ap (λ xs. converted (edit ∷ edits) r ∷ xs) (converted_then edit edits rs)

pub converted_none : (ranges : List Range) → map (converted []) ranges ≡ ranges
converted_none [] = refl
converted_none (r ∷ rs) = ap (λ xs. r ∷ xs) (converted_none rs)

-- ranges within a text are within the text after the edit
module _ (edit : Edit) (before after : List ℕ)
    (stay : (i : ℕ) → i ≤ length before → convert edit i ≤ length after) where
  pub moved_within : (ranges : List Range) → AreWithin (length before) ranges → AreWithin (length after) (map (moved edit) ranges)
  moved_within [] all = tt
  moved_within (r ∷ rs) all = ((stay r.start all.0.0, stay r.stop all.0.1), moved_within rs all.1)

  pub moved_small : length after < 2 ^ 64 → (ranges : List Range) → AreWithin (length before) ranges → Each (IsSmall edit) ranges
  moved_small small [] all = tt
  moved_small small (r ∷ rs) all =
      ((omega (arith, stay r.start all.0.0), omega (arith, stay r.stop all.0.1)), moved_small small rs all.1)
