-- The newline of a line that came in pieces.
use Rattle.std.proofs.Common.{◌≡◌, ℕ, ◌+◌, ◌<◌, ◌≤◌, List, [], ◌∷◌, ◌++◌, length, take, drop, Some, None, ap, sym, ◌∙◌, arith, Ok, Err, append_assoc}
use Rattle.std.proofs.lemmas.List.{length-append, take-append-drop, length-take-le, take-append-le, drop-append-le}
use Rattle.std.proofs.Math.Seq.{take-append_seam}
use Rattle.byte_message.specs.Line.{judge}
use Rattle.byte_message.specs.Heading.{heading, judged_heading, line_of, after_line}
use Rattle.byte_message.specs.Heading.Heading.{Fit, Faulty, Unended}
use Rattle.byte_message.specs.declared.line_fault.LineFault.{LineFault}
use Rattle.byte_message.specs.declared.line_fault.LineFault.TheVariants.{BadHeader}
use Rattle.byte_message.proofs.Headings.{after-on, after-line, line-found, after-found, unended-after, heading-unended, heading-over, heading-newline, heading-line}

-- a newline among the first bytes of a piece
pub found-line : (n : ℕ) (p : List ℕ) (k : ℕ) → k < n → n ≤ length p → line_of (take n p) ≡ take k (take n p) → after_line (take n p) ≡ Some (drop (k + 1) (take n p)) → line_of p ≡ take k p
found-line n p k h g e f =
    let w = take-append-drop n p in
    let m = length-take-le n p g in
    let t = take-append-le k (take n p) (drop n p) (omega arith) in
    let l = line-found (take n p) (drop (k + 1) (take n p)) (drop n p) f in
    cc

pub found-after : (n : ℕ) (p : List ℕ) (k : ℕ) → k < n → n ≤ length p → after_line (take n p) ≡ Some (drop (k + 1) (take n p)) → after_line p ≡ Some (drop (k + 1) p)
found-after n p k h g f =
    let w = take-append-drop n p in
    let m = length-take-le n p g in
    let t = drop-append-le (k + 1) (take n p) (drop n p) (omega arith) in
    let l = after-found (take n p) (drop (k + 1) (take n p)) (drop n p) f in
    cc

-- what follows a fit line is its body
pub headed : (h p ls : List ℕ) (k : ℕ) → heading h ≡ Unended → line_of p ≡ take k p → judge (h ++ take k p) ≡ Ok ls → (body : List ℕ) → heading (((h ++ take k p) ++ 10 ∷ []) ++ body) ≡ Fit ls body
headed h p ls k e f g body =
    let none : after_line (h ++ take k p) ≡ None = after-on h (take k p) (unended-after h e) ∙ ap after_line (sym f) ∙ after-line p in
    heading-line (h ++ take k p) body none ∙ ap (λ r. judged_heading r body) g

-- a line at fault
pub at_fault : (h p : List ℕ) (k : ℕ) (g : LineFault) → heading h ≡ Unended → line_of p ≡ take k p → after_line p ≡ Some (drop (k + 1) p) → judge (h ++ take k p) ≡ Err g → heading (h ++ p) ≡ Faulty g
at_fault h p k g e f a r =
    heading-newline h p (drop (k + 1) p) (unended-after h e) a ∙ ap (λ l. judged_heading (judge (h ++ l)) (drop (k + 1) p)) f ∙ ap (λ q. judged_heading q (drop (k + 1) p)) r

-- no newline in the whole piece, or in its first bytes
pub still_unended : (h p : List ℕ) → heading h ≡ Unended → after_line p ≡ None → length h + length p ≤ 200 → heading (h ++ p) ≡ Unended
still_unended h p e f n = let l = length-append h p in heading-unended (h ++ p) (after-on h p (unended-after h e) ∙ f) (omega arith)

pub over_long : (h p : List ℕ) (n : ℕ) → heading h ≡ Unended → n ≤ length p → after_line (take n p) ≡ None → 200 < length h + n → heading (h ++ p) ≡ Faulty BadHeader
over_long h p n e m f o =
    let l = length-append h (take n p) in
    let t = length-take-le n p m in
    let a = append_assoc h (take n p) (drop n p) in
    let w = take-append-drop n p in
    let g = heading-over (h ++ take n p) (drop n p) (after-on h (take n p) (unended-after h e) ∙ f) (omega arith) in
    cc

pub newline_at : (p b : List ℕ) → after_line p ≡ Some b → p ≡ line_of p ++ 10 ∷ b
newline_at [] b e = cc
newline_at (c ∷ p) b e = let ih = newline_at p b in grind (arith, ih)

-- a line with its newline
pub line_end : (p b : List ℕ) (k : ℕ) → k < length p → line_of p ≡ take k p → after_line p ≡ Some b → take (k + 1) p ≡ take k p ++ 10 ∷ []
line_end p b k n e f =
    let w = newline_at p b f in
    let t = length-take-le k p (omega arith) in
    let l : length (take k p ++ 10 ∷ []) ≡ k + 1 = length-append (take k p) (10 ∷ []) ∙ ap (λ j. j + 1) t in
    let a = append_assoc (take k p) (10 ∷ []) b in
    let s = take-append_seam (take k p ++ 10 ∷ []) b in
    let whole : p ≡ (take k p ++ 10 ∷ []) ++ b = cc in
    ap (λ j. take j p) (sym l) ∙ ap (λ x. take (length (take k p ++ 10 ∷ [])) x) whole ∙ s
