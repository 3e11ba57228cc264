-- What edits and a perspective make of a sheet.
use Rattle.std.proofs.Common.{◌≡◌, ℕ, ◌≤◌, Bool, true, false, ◌||◌, cond, List, [], ◌∷◌, length, filter, not, map, Some, None, Result, Ok, Err, refl, sym, ap, subst, ◌∙◌, arith}
use Rattle.std.specs.Prelude.{nat_lt}
use Rattle.std.specs.List.{list_any}
use Rattle.std.proofs.lemmas.Bool.{false≢true, cond-true, cond-false}
use Rattle.std.proofs.lemmas.Bool.Decides.{nat_tests}
use Rattle.pide_base.specs.declared.range.Range.{Range}
use Rattle.text_edits.specs.declared.edit.Edit.{Edit}
use Rattle.message_values.specs.declared.item.Perspective.{Perspective}
use Rattle.message_values.specs.declared.refusal.Refusal.{Refusal}
use Rattle.message_values.specs.declared.refusal.Refusal.TheVariants.{PerspectiveOutOfRange}
use Rattle.command_spans.specs.CutTexts.{Cuts, AreCutsOf}
use Rattle.buffer_rules.specs.declared.sheet.Sheet.{Sheet}
use Rattle.buffer_rules.specs.Trying.{◌>>=◌}
use Rattle.buffer_rules.specs.Texts.{edit_once, edit_all}
use Rattle.buffer_rules.specs.Sheets.{is_empty, is_outside, converted, ranges_after, seen_by, sheet_after}
use Rattle.editor_buffer.specs.declared.fault.PrepareError.{PrepareError}
use Rattle.editor_buffer.specs.declared.fault.PrepareError.TheVariants.{Refused, NoMemory}
use Rattle.editor_buffer.specs.Telling.{TellsError}
use Rattle.editor_buffer.specs.OpenSheet.{OpenSheet}
use Rattle.editor_buffer.specs.Within.{IsWithin, AreWithin, IsWhole}
use Rattle.editor_buffer.proofs.KnownTelling.{told_then}

pub told_along : {B : Type 0} (e : PrepareError) (r s : Result B Refusal) → r ≡ s → TellsError e r → TellsError e s
told_along (Refused refusal) r s same told = sym same ∙ told
told_along NoMemory r s same told = tt

-- edits, one after the other
pub exit_edit : (e : PrepareError) (edit : Edit) (more : List Edit) (text : List ℕ) (whole : Result (List ℕ) Refusal)
    → edit_all (edit ∷ more) text ≡ whole → TellsError e (edit_once edit text) → TellsError e whole
exit_edit e edit more text whole same told =
    told_along e (edit_all (edit ∷ more) text) whole same (told_then e (edit_once edit text) (edit_all more) told)

pub next_edit : (edit : Edit) (more : List Edit) (text after : List ℕ) (whole : Result (List ℕ) Refusal)
    → edit_all (edit ∷ more) text ≡ whole → edit_once edit text ≡ Ok after → edit_all more after ≡ whole
next_edit edit more text after whole same once = sym (ap (λ r. r >>= edit_all more) once) ∙ same

inside : (len : ℕ) (r : Range) → is_outside len r ≡ false → IsWithin len r
inside len r e =
    let one : nat_lt r.stop r.start ≡ false = first (nat_lt r.stop r.start) (nat_lt len r.stop) e in
    let two : nat_lt len r.stop ≡ false = second (nat_lt r.stop r.start) (nat_lt len r.stop) e in
    let low : r.start ≤ r.stop = grind (arith, nat_tests) in
    let high : r.stop ≤ len = grind (arith, nat_tests) in (omega (arith, low, high), high)
  where
    first : (a b : Bool) → (a || b) ≡ false → a ≡ false
    first true b h = h
    first false b h = refl

    second : (a b : Bool) → (a || b) ≡ false → b ≡ false
    second true b h = absurd (false≢true (sym h))
    second false b h = h

-- ranges of which none is outside are within
pub all_inside : (len : ℕ) (ranges : List Range) → list_any (is_outside len) ranges ≡ false → AreWithin len ranges
all_inside len [] e = tt
all_inside len (r ∷ rs) e = go (is_outside len r) refl e (all_inside len rs)
  where
    go : (b : Bool) → is_outside len r ≡ b → (b || list_any (is_outside len) rs) ≡ false → (list_any (is_outside len) rs ≡ false → AreWithin len rs) → AreWithin len (r ∷ rs)
    go true out h rest = absurd (false≢true (sym h))
    go false out h rest = (inside len r out, rest h)

-- a filter leaves them within
pub filled_within : (len : ℕ) (ranges : List Range) → AreWithin len ranges → AreWithin len (filter (λ r. not (is_empty r)) ranges)
filled_within len [] all = tt
filled_within len (r ∷ rs) all = go (not (is_empty r)) (filled_within len rs all.1)
  where
    go : (b : Bool) → AreWithin len (filter (λ s. not (is_empty s)) rs) → AreWithin len (cond b (r ∷ filter (λ s. not (is_empty s)) rs) (filter (λ s. not (is_empty s)) rs))
    go true rest = (all.0, rest)
    go false rest = rest

-- a perspective that is told
pub shown_outside : (edits : List Edit) (told : Perspective) (sheet : Sheet) (text : List ℕ) → edit_all edits sheet.text ≡ Ok text
    → list_any (is_outside (length text)) told.ranges ≡ true → sheet_after edits (Some told) sheet ≡ Err PerspectiveOutOfRange
shown_outside edits told sheet text made out =
    ap (λ r. r >>= seen_by (Some told) edits sheet) made
    ∙ cond-true (list_any (is_outside (length text)) told.ranges) (Err PerspectiveOutOfRange) _ out

pub shown_so : (edits : List Edit) (told : Perspective) (sheet : Sheet) (text : List ℕ) → edit_all edits sheet.text ≡ Ok text
    → list_any (is_outside (length text)) told.ranges ≡ false
    → sheet_after edits (Some told) sheet ≡ Ok (record { text = text; required = told.required; ranges = told.ranges })
shown_so edits told sheet text made within =
    ap (λ r. r >>= seen_by (Some told) edits sheet) made
    ∙ cond-false (list_any (is_outside (length text)) told.ranges) (Err PerspectiveOutOfRange) _ within

-- and one that the edits move
pub moved_so : (edits : List Edit) (sheet : Sheet) (text : List ℕ) → edit_all edits sheet.text ≡ Ok text
    → sheet_after edits None sheet ≡ Ok (record { text = text; required = sheet.required; ranges = ranges_after edits sheet.ranges })
moved_so edits sheet text made = ap (λ r. r >>= seen_by None edits sheet) made

pub shown_told : (edits : List Edit) (told : Perspective) (sheet : Sheet) (text : List ℕ) (ranges : List Range) (node : OpenSheet) → edit_all edits sheet.text ≡ Ok text
    → list_any (is_outside (length text)) told.ranges ≡ false → ranges ≡ told.ranges
    → node ≡ record { sheet = record { text = text; required = told.required; ranges = ranges }; cut_under = None }
    → sheet_after edits (Some told) sheet ≡ Ok node.sheet
shown_told edits told sheet text ranges node made within same is =
    shown_so edits told sheet text made within
    ∙ ap (λ (rs : List Range). let s : Sheet = record { text = text; required = told.required; ranges = rs } in Ok s) (sym same)
    ∙ ap (λ (n : OpenSheet). Ok n.sheet) (sym is)

pub moved_told : (edits : List Edit) (sheet : Sheet) (text : List ℕ) (moved ranges : List Range) (node : OpenSheet) → edit_all edits sheet.text ≡ Ok text
    → moved ≡ map (converted edits) sheet.ranges → ranges ≡ filter (λ r. not (is_empty r)) moved
    → node ≡ record { sheet = record { text = text; required = sheet.required; ranges = ranges }; cut_under = None }
    → sheet_after edits None sheet ≡ Ok node.sheet
moved_told edits sheet text moved ranges node made by filled is =
    moved_so edits sheet text made
    ∙ ap (λ (rs : List Range). let s : Sheet = record { text = text; required = sheet.required; ranges = rs } in Ok s)
    (sym (filled ∙ ap (λ (rs : List Range). filter (λ r. not (is_empty r)) rs) by))
    ∙ ap (λ (n : OpenSheet). Ok n.sheet) (sym is)

pub filled_so : (len : ℕ) (ranges kept : List Range) → kept ≡ filter (λ r. not (is_empty r)) ranges → AreWithin len ranges → AreWithin len kept
filled_so len ranges kept e all = subst (AreWithin len) (sym e) (filled_within len ranges all)

-- a sheet of a text and ranges within it
pub whole_so : (sheet : Sheet) (text : List ℕ) (cuts : Cuts) (ranges : List Range) → sheet.text ≡ text → sheet.ranges ≡ ranges → AreCutsOf text cuts → AreWithin (length text) ranges → IsWhole sheet cuts
whole_so sheet text cuts ranges same are own all = record {
  are_cuts = subst (λ t. AreCutsOf t cuts) (sym same) own;
  ranges_are = subst (λ t. AreWithin (length t) sheet.ranges) (sym same) (subst (AreWithin (length text)) (sym are) all);
}

-- a perspective is shown, or refused
pub ruleset shown_steps = (all_inside, told_then, shown_outside, shown_told)

-- a perspective moves with its text
pub ruleset moved_steps = (filled_so, told_then, moved_told)
