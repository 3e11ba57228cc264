-- A text with another one in it and the text shorter it, each as cuts of the other.
use Rattle.std.proofs.Common.{◌≡◌, ◌↔◌, Result, Err, ℕ, ◌+◌, ◌≤◌, List, ◌++◌, length, take, drop, refl, sym, ap, subst, ◌∙◌, arith, length-take, take-append-drop}
use Rattle.std.proofs.Math.Seq.{take-append_seam, drop-append_seam, drop-append-add}
use Rattle.std.proofs.lemmas.Grind.{common_steps}
use Rattle.text_edits.specs.declared.edit.Edit.{Edit}
use Rattle.text_edits.specs.declared.edit.Edit.TheVariants.{Insert, Remove}
use Rattle.text_edits.specs.declared.fault.EditFault.{EditFault}
use Rattle.text_edits.specs.Edits.{PutsIn, Applies}

pub longer_is : (start : ℕ) (x shorter longer : List ℕ) → PutsIn start x shorter longer
    → longer ≡ take start shorter ++ x ++ drop start shorter
longer_is start x shorter longer (p, q, n, w, h) = grind (arith, common_steps, take-append_seam p q, drop-append_seam p q, ap length w, ap (take start) w, ap (drop start) w)

pub shorter_is : (start : ℕ) (x shorter longer : List ℕ) → PutsIn start x shorter longer
    → shorter ≡ take start longer ++ drop (start + length x) longer
shorter_is start x shorter longer (p, q, n, w, h) =
    grind (arith, common_steps, take-append_seam p (x ++ q), drop-append-add p (x ++ q) (length x), drop-append_seam x q, ap (take start) h, ap (drop (start + length x)) h)

pub one_after : (edit : Edit) (text one other : List ℕ) → Applies edit text one → Applies edit text other → one ≡ other
one_after (Insert start x) text one other h k = longer_is start x text one h ∙ sym (longer_is start x text other k)
one_after (Remove start x) text one other h k = shorter_is start x one text h ∙ sym (shorter_is start x other text k)

pub one_before : (edit : Edit) (text one other : List ℕ) → Applies edit one text → Applies edit other text → one ≡ other
one_before (Insert start x) text one other h k = shorter_is start x one text h ∙ sym (shorter_is start x other text k)
one_before (Remove start x) text one other h k = longer_is start x text one h ∙ sym (longer_is start x text other k)

-- what stands in a text at a place is taken out of it
pub taken_out : (start count : ℕ) (x text : List ℕ) → start + count ≤ length text → count ≡ length x
    → take count (drop start text) ≡ x → PutsIn start x (take start text ++ drop (start + count) text) text
taken_out start count x text within n h =
    let whole : text ≡ take start text ++ x ++ drop (start + count) text =
    grind (arith, common_steps, take-append-drop start text, take-append-drop count (drop start text)) in
    (take start text, drop (start + count) text, omega (arith, length-take start text), refl, whole)

-- the same, told by where it stops
pub taken_upto : (start stop : ℕ) (x text : List ℕ) → stop ≡ start + length x → stop ≤ length text
    → take (length x) (drop start text) ≡ x → PutsIn start x (take start text ++ drop stop text) text
taken_upto start stop x text size within h =
    subst (λ k. PutsIn start x (take start text ++ drop k text) text) (sym size) (taken_out start (length x) x text (omega arith) refl h)

-- a fault handed on is the same fault
same-fault : {A B : Type 0} (x y : EditFault) → ◌≡◌ {A = Result A EditFault} (Err x) (Err y) → ◌≡◌ {A = Result B EditFault} (Err x) (Err y)
same-fault x y e = let same : x ≡ y = cc (e) in ap Err same

-- so what it tells is told by it too
pub same-faults : {A B P : Type 0} {x y : EditFault} → (◌≡◌ {A = Result A EditFault} (Err x) (Err y) ↔ P) → (◌≡◌ {A = Result B EditFault} (Err x) (Err y) ↔ P)
same-faults {x = x} {y = y} h = (λ e. h.0 (same-fault x y e), λ is. same-fault x y (h.1 is))
