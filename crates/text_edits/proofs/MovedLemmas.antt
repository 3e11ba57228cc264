-- What holds of one edit holds through a list of them.
use Rattle.std.proofs.Common.{rules, arith, ◌≡◌, ℕ, ◌≤◌, List, [], ◌∷◌, length, refl, ap, ◌∙◌}
use Rattle.std.proofs.lemmas.Grind.{common_steps, elements}
use Rattle.std.specs.List.{slice_get}
use Rattle.text_edits.specs.declared.edit.Edit.{Edit}
use Rattle.text_edits.specs.declared.edit.Edit.TheVariants.{Insert, Remove}
use Rattle.text_edits.specs.Edits.{Applies, AppliesList}
use Rattle.text_edits.specs.Kept.{KeepsAt, KeepsAllAt}
use Rattle.text_edits.specs.Offsets.{convert, revert, convert_list, revert_list}

pub moved : (edit : Edit) (before after : List ℕ) (i : ℕ) → Applies edit before after → KeepsAt edit i
    → slice_get after (convert edit i) ≡ slice_get before i
moved (Insert start x) before after i h k = grind (arith, elements)
moved (Remove start x) before after i h k = grind (arith, elements)

pub moved_through : (edits : List Edit) (before after : List ℕ) (i : ℕ) → AppliesList edits before after → KeepsAllAt edits i
    → slice_get after (convert_list edits i) ≡ slice_get before i
moved_through [] before after i h k = ap (λ text. slice_get text i) h
moved_through (e ∷ es) before after i (between, one, rest) (k, ks) =
    moved_through es between after (convert e i) rest ks ∙ moved e before between i one k

pub undone : (edit : Edit) (i : ℕ) → KeepsAt edit i → revert edit (convert edit i) ≡ i
undone (Insert start x) i k = search rules
undone (Remove start x) i k = search rules

pub undone_through : (edits : List Edit) (i : ℕ) → KeepsAllAt edits i → revert_list edits (convert_list edits i) ≡ i
undone_through [] i k = refl
undone_through (e ∷ es) i (k, ks) = ap (revert e) (undone_through es (convert e i) ks) ∙ undone e i k

pub in_order : (edit : Edit) (i j : ℕ) → i ≤ j → convert edit i ≤ convert edit j
in_order (Insert start x) i j h = grind arith
in_order (Remove start x) i j h = grind arith

pub in_order_back : (edit : Edit) (i j : ℕ) → i ≤ j → revert edit i ≤ revert edit j
in_order_back (Insert start x) i j h = in_order (Remove start x) i j h
in_order_back (Remove start x) i j h = in_order (Insert start x) i j h

pub in_order_through : (edits : List Edit) (i j : ℕ) → i ≤ j → convert_list edits i ≤ convert_list edits j
in_order_through [] i j h = h
in_order_through (e ∷ es) i j h = in_order_through es (convert e i) (convert e j) (in_order e i j h)

pub in_order_all_back : (edits : List Edit) (i j : ℕ) → i ≤ j → revert_list edits i ≤ revert_list edits j
in_order_all_back [] i j h = h
in_order_all_back (e ∷ es) i j h = in_order_back e (revert_list es i) (revert_list es j) (in_order_all_back es i j h)

pub within : (edit : Edit) (before after : List ℕ) (i : ℕ) → Applies edit before after → i ≤ length before
    → convert edit i ≤ length after
within (Insert start x) before after i h k = grind (arith, common_steps)
within (Remove start x) before after i h k = grind (arith, common_steps)

pub within_through : (edits : List Edit) (before after : List ℕ) (i : ℕ) → AppliesList edits before after → i ≤ length before
    → convert_list edits i ≤ length after
within_through [] before after i h k = grind (arith, ap length h)
within_through (e ∷ es) before after i (between, one, rest) k =
    within_through es between after (convert e i) rest (within e before between i one k)
