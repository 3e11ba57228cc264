-- How bytes begin doesn't change when more follow.
use Rattle.std.proofs.Common.{◌≡◌, ℕ, ◌<◌, ◌≤◌, Bool, true, false, cond, nat_lt, List, [], ◌∷◌, ◌++◌, length, Option, Some, None, refl, ap, ◌∙◌, arith, Result, Ok, Err, append_assoc}
use Rattle.std.proofs.lemmas.List.{length-append, append-nil}
use Rattle.byte_message.specs.Line.{judge}
use Rattle.byte_message.specs.Heading.{heading, heading_of, judged_heading, line_of, after_line}
use Rattle.byte_message.specs.Heading.Heading.{Fit, Faulty, Unended}
use Rattle.byte_message.specs.declared.line_fault.LineFault.{LineFault}
use Rattle.byte_message.specs.declared.line_fault.LineFault.TheVariants.{BadHeader}

-- bytes without a newline, and more
pub line-on : (h x : List ℕ) → after_line h ≡ None → line_of (h ++ x) ≡ h ++ line_of x
line-on [] x e = refl
line-on (b ∷ h) x e = let ih = line-on h x in grind (arith, ih)

pub after-on : (h x : List ℕ) → after_line h ≡ None → after_line (h ++ x) ≡ after_line x
after-on [] x e = refl
after-on (b ∷ h) x e = let ih = after-on h x in grind (arith, ih)

pub line-whole : (h : List ℕ) → after_line h ≡ None → line_of h ≡ h
line-whole [] e = refl
line-whole (b ∷ h) e = let ih = line-whole h in grind (arith, ih)

pub after-line : (h : List ℕ) → after_line (line_of h) ≡ None
after-line [] = refl
after-line (b ∷ h) = let ih = after-line h in grind (arith, ih)

-- bytes with a newline, and more
pub line-found : (a b x : List ℕ) → after_line a ≡ Some b → line_of (a ++ x) ≡ line_of a
line-found [] b x e = cc
line-found (c ∷ a) b x e = let ih = line-found a b x in grind (arith, ih)

pub after-found : (a b x : List ℕ) → after_line a ≡ Some b → after_line (a ++ x) ≡ Some (b ++ x)
after-found [] b x e = cc
after-found (c ∷ a) b x e = let ih = after-found a b x in grind (arith, ih)

judged_ended : (r : Result (List ℕ) LineFault) (body : List ℕ) → judged_heading r body ≡ Unended
    → ⊥
judged_ended (Ok ls) body e = cc
judged_ended (Err f) body e = cc

over_line : (q : Bool) → cond q (Faulty BadHeader) Unended ≡ Unended → q ≡ false
over_line true e = cc
over_line false e = refl

unended_of : (line : List ℕ) (o : Option (List ℕ)) → heading_of line o ≡ Unended → (o ≡ None) × (length line ≤ 200)
unended_of line None e = let q = over_line (nat_lt 200 (length line)) e in (refl, grind (arith, q))
unended_of line (Some body) e = absurd (judged_ended (judge line) body e)

pub unended-after : (h : List ℕ) → heading h ≡ Unended → after_line h ≡ None
unended-after h e = (unended_of (line_of h) (after_line h) e).0

pub unended-length : (h : List ℕ) → heading h ≡ Unended → length h ≤ 200
unended-length h e =
    let p = unended_of (line_of h) (after_line h) e in
    let w = line-whole h p.0 in
    let l : length (line_of h) ≡ length h = ap length w in
    let n = p.1 in
    omega arith

pub heading-unended : (h : List ℕ) → after_line h ≡ None → length h ≤ 200 → heading h ≡ Unended
heading-unended h e n =
    let w = line-whole h e in
    let f : nat_lt 200 (length h) ≡ false = grind arith in
    rw (e, w, f) refl

judge_over : (line : List ℕ) → 200 < length line → judge line ≡ Err BadHeader
judge_over line n = let f : nat_lt 200 (length line) ≡ true = grind arith in rw f refl

over_of : (line : List ℕ) (o : Option (List ℕ)) → 200 < length line → heading_of line o ≡ Faulty BadHeader
over_of line None n = let f : nat_lt 200 (length line) ≡ true = grind arith in rw f refl
over_of line (Some body) n = ap (λ r. judged_heading r body) (judge_over line n)

-- more than 200 bytes without a newline
pub heading-over : (h x : List ℕ) → after_line h ≡ None → 200 < length h → heading (h ++ x) ≡ Faulty BadHeader
heading-over h x e n =
    let l = ap length (line-on h x e) in
    let m = length-append h (line_of x) in
    over_of (line_of (h ++ x)) (after_line (h ++ x)) (omega arith)

-- a line that goes on to its newline
pub heading-newline : (h p b : List ℕ) → after_line h ≡ None → after_line p ≡ Some b → heading (h ++ p) ≡ judged_heading (judge (h ++ line_of p)) b
heading-newline h p b e f = ap (λ l. heading_of l (after_line (h ++ p))) (line-on h p e) ∙ ap (λ o. heading_of (h ++ line_of p) o) (after-on h p e ∙ f)

-- a line and its newline, whatever follows
pub heading-line : (line body : List ℕ) → after_line line ≡ None → heading ((line ++ 10 ∷ []) ++ body) ≡ judged_heading (judge line) body
heading-line line body e =
    rw (append_assoc line (10 ∷ []) body) (heading-newline line (10 ∷ body) body e refl ∙ ap (λ l. judged_heading (judge l) body) (append-nil line))

judged_more : (r : Result (List ℕ) LineFault) (ls b c x : List ℕ) → judged_heading r b ≡ Fit ls c → judged_heading r (b ++ x) ≡ Fit ls (c ++ x)
judged_more (Ok ms) ls b c x e = cc
judged_more (Err f) ls b c x e = cc

judged_faulty : (r : Result (List ℕ) LineFault) (f : LineFault) (b x : List ℕ) → judged_heading r b ≡ Faulty f → judged_heading r x ≡ Faulty f
judged_faulty (Ok ms) f b x e = cc
judged_faulty (Err g) f b x e = cc

more_of : (a x : List ℕ) (o : Option (List ℕ)) (b : List ℕ) → after_line a ≡ Some b → heading (a ++ x) ≡ judged_heading (judge (line_of a)) (b ++ x)
more_of a x o b e = ap (λ l. heading_of l (after_line (a ++ x))) (line-found a b x e) ∙ ap (λ q. heading_of (line_of a) q) (after-found a b x e)

pub never_fit : (q : Bool) (ls c : List ℕ) → cond q (Faulty BadHeader) Unended ≡ Fit ls c → ⊥
never_fit true ls c e = cc
never_fit false ls c e = cc

over_true : (q : Bool) (g : LineFault) → cond q (Faulty BadHeader) Unended ≡ Faulty g → (q ≡ true) × (BadHeader ≡ g)
over_true true g e = (refl, cc)
over_true false g e = cc

fit_more : (a x ls c : List ℕ) (o : Option (List ℕ)) → after_line a ≡ o → heading_of (line_of a) o ≡ Fit ls c → heading (a ++ x) ≡ Fit ls (c ++ x)
fit_more a x ls c None e f = absurd (never_fit (nat_lt 200 (length (line_of a))) ls c f)
fit_more a x ls c (Some b) e f = more_of a x None b e ∙ judged_more (judge (line_of a)) ls b c x f

faulty_more : (a x : List ℕ) (g : LineFault) (o : Option (List ℕ)) → after_line a ≡ o → heading_of (line_of a) o ≡ Faulty g → heading (a ++ x) ≡ Faulty g
faulty_more a x g None e f =
    let p = over_true (nat_lt 200 (length (line_of a))) g f in
    let w : length (line_of a) ≡ length a = ap length (line-whole a e) in
    let n : 200 < length (line_of a) = grind (arith, p.0) in
    heading-over a x e (omega arith) ∙ ap (λ y. Faulty y) p.1
faulty_more a x g (Some b) e f = more_of a x None b e ∙ judged_faulty (judge (line_of a)) g b (b ++ x) f

-- a fit line stays fit, and a fault the same, whatever follows
pub heading-more : (a x ls c : List ℕ) → heading a ≡ Fit ls c → heading (a ++ x) ≡ Fit ls (c ++ x)
heading-more a x ls c f = fit_more a x ls c (after_line a) refl f

pub faulty-more : (a x : List ℕ) (g : LineFault) → heading a ≡ Faulty g → heading (a ++ x) ≡ Faulty g
faulty-more a x g f = faulty_more a x g (after_line a) refl f
