-- An edit as a change of a text in numbers.
use Rattle.std.proofs.Common.{◌≡◌, ℕ, ◌+◌, ◌≤◌, List, ◌++◌, length, take, drop, sym, ap, ◌∙◌, subst, arith, length-append, append_assoc}
use Rattle.std.proofs.lemmas.List.{take_at, drop_at}
use Rattle.text_edits.specs.declared.edit.Edit.{Edit}
use Rattle.text_edits.specs.declared.edit.Edit.TheVariants.{Insert, Remove}
use Rattle.text_edits.specs.Edits.{PutsIn, Applies}
use Rattle.command_spans.specs.declared.change.Change.{Change}
use Rattle.command_spans.specs.Reparsing.{start_of, old_end_of, new_end_of}
use Rattle.command_spans.specs.Keeping.{IsChange}

-- a text put in at a place
module _ (start : ℕ) (x shorter longer : List ℕ) (puts : PutsIn start x shorter longer) where
  firsts : take start shorter ≡ take start longer
  firsts =
      ap (take start) puts.3 ∙ take_at puts.0 puts.1 start puts.2
      ∙ sym (ap (take start) (puts.4 ∙ append_assoc puts.0 x puts.1) ∙ take_at puts.0 (x ++ puts.1) start puts.2)

  lasts : drop start shorter ≡ drop (start + length x) longer
  lasts =
      ap (drop start) puts.3 ∙ drop_at puts.0 puts.1 start puts.2
      ∙ sym (ap (drop (start + length x)) puts.4 ∙ drop_at (puts.0 ++ x) puts.1 (start + length x) (omega (arith, length-append puts.0 x, puts.2)))

  short : start ≤ length shorter
  short = omega (arith, ap length puts.3, length-append puts.0 puts.1, puts.2)

  long : start + length x ≤ length longer
  long = omega (arith, ap length puts.4, length-append (puts.0 ++ x) puts.1, length-append puts.0 x, puts.2)

  pub is-insert : IsChange start start (start + length x) shorter longer
  is-insert = record { first = firsts; last = lasts; old_order = (omega arith, short); new_order = (omega arith, long) }

  pub is-remove : IsChange start (start + length x) start longer shorter
  is-remove = record { first = sym firsts; last = sym lasts; old_order = (omega arith, long); new_order = (omega arith, short) }

-- the numbers of an edit tell how it changes a text
pub edit-change : (edit : Edit) (old new : List ℕ) → Applies edit old new → IsChange (start_of edit) (old_end_of edit) (new_end_of edit) old new
edit-change (Insert start x) old new puts = is-insert start x old new puts
edit-change (Remove start x) old new puts = is-remove start x new old puts

-- the same by the numbers that were read off it
pub is-change : (edit : Edit) (change : Change) (old new : List ℕ) → Applies edit old new → change.start ≡ start_of edit → change.old_end ≡ old_end_of edit → change.new_end ≡ new_end_of edit → IsChange change.start change.old_end change.new_end old new
is-change edit change old new applied start old_end new_end =
    let numbers : ℕ × ℕ × ℕ → Type 0 = λ n. IsChange n.0 n.1 n.2 old new in
    subst numbers (λ i. (sym start i, sym old_end i, sym new_end i)) (edit-change edit old new applied)
