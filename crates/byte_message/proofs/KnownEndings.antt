-- How a stream ends, and that it has one reading.
use Rattle.std.proofs.Common.{◌≡◌, ℕ, ◌<◌, List, [], ◌∷◌, ◌++◌, length, sum, map, drop, Option, Some, None, inl, inr, refl, ap, sym, ◌∙◌, arith, append_assoc, subst}
use Rattle.std.proofs.lemmas.List.{length-append, append_cancel_left}
use Rattle.std.proofs.Math.Seq.{drop-append_seam}
use Rattle.std.specs.List.{concat}
use Rattle.byte_message.specs.Chunks.{cut}
use Rattle.byte_message.specs.Heading.{Heading, heading}
use Rattle.byte_message.specs.Heading.Heading.{Fit, Faulty, Unended}
use Rattle.byte_message.specs.Kept.{Framing, KeepsRest, Stands}
use Rattle.byte_message.specs.Stream.{IsSpelling, AreSpelled, IsShort, IsReadAs, EndsAs, Ending, told_place, placed_fault}
use Rattle.byte_message.specs.Stream.Ending.{Whole, Bad, Short}
use Rattle.byte_message.specs.Feeding.{ending_by, ending_of}
use Rattle.byte_message.specs.declared.line_fault.LineFault.{LineFault}
use Rattle.byte_message.specs.declared.frame_fault.FrameFault.{FrameFault}
use Rattle.byte_message.proofs.Headings.{heading-more}
use Rattle.byte_message.proofs.Cutting.{cut-concat, sum-lengths}

ends_by : (fault : Option FrameFault) (at place : ℕ) (rest kept : List ℕ) → at ≡ told_place place → KeepsRest fault at rest kept → EndsAs place rest (ending_by fault at kept)
ends_by (Some fault) at place rest kept e k = (k.0, k.1, k.2 ∙ ap (λ p. placed_fault p k.0) e)
ends_by None at place rest [] e k = k.0
ends_by None at place rest (b ∷ kept) e k = let l : length rest ≡ length (b ∷ kept) = ap length k.0 in (omega arith, k.1, e)

pub reads : (stream : List ℕ) (taken : List (List (List ℕ))) (now : Framing) → Stands stream taken now → IsReadAs stream (taken ++ now.waiting) (ending_of now)
reads stream taken now s = let p = s.reached.place in let at : now.at ≡ told_place (length s.reached.front) = omega arith in record {
  front = s.reached.front;
  rest = s.rest;
  whole = s.reached.whole;
  spelled = subst (λ (x : List (List (List ℕ))). AreSpelled s.reached.front x) (sym s.reached.made) s.reached.spelled;
  ends = ends_by now.fault now.at (length s.reached.front) s.rest now.rest at s.kept;
}

-- a message's front and what follows it
fronts_same : (f g x y : List ℕ) (m n : List (List ℕ)) → IsSpelling f m → IsSpelling g n → f ++ x ≡ g ++ y → (m ≡ n) × (x ≡ y)
fronts_same f g x y m n a b e =
    let p : heading (f ++ x) ≡ Fit (map length m) (concat m ++ x) = heading-more f x (map length m) (concat m) a in
    let q : heading (g ++ y) ≡ Fit (map length n) (concat n ++ y) = heading-more g y (map length n) (concat n) b in
    let fits : Fit (map length m) (concat m ++ x) ≡ Fit (map length n) (concat n ++ y) = sym p ∙ ap heading e ∙ q in
    let lengths : map length m ≡ map length n = cc in
    let bodies : concat m ++ x ≡ concat n ++ y = cc in
    let c = cut-concat m x in
    let d = cut-concat n y in
    let same : m ≡ n = sym c ∙ ap (λ l. cut l (concat m ++ x)) lengths ∙ ap (λ z. cut (map length n) z) bodies ∙ d in
    let u = drop-append_seam (concat m) x in
    let v = drop-append_seam (concat n) y in
    (same, sym u ∙ ap (λ z. drop (length (concat z)) (concat m ++ x)) same ∙ ap (λ z. drop (length (concat n)) z) bodies ∙ v)

-- no message begins here
abbrev Stops : List ℕ → Type 0
Stops rest = (front after : List ℕ) (m : List (List ℕ)) → rest ≡ front ++ after → IsSpelling front m → ⊥

-- what begins with a message
begins : (rest front after : List ℕ) (m : List (List ℕ)) → rest ≡ front ++ after → IsSpelling front m → heading rest ≡ Fit (map length m) (concat m ++ after)
begins rest front after m e one = ap heading e ∙ heading-more front after (map length m) (concat m) one

never_both : (h : Heading) (ls body : List ℕ) → h ≡ Fit ls body → h ≡ Unended → ⊥
never_both h ls body e f = cc

never_bad : (h : Heading) (ls body : List ℕ) (wrong : LineFault) → h ≡ Fit ls body → h ≡ Faulty wrong → ⊥
never_bad h ls body wrong e f = cc

short_stops : (rest : List ℕ) → IsShort rest → Stops rest
short_stops rest (inl line) = λ front after m e one. never_both (heading rest) (map length m) (concat m ++ after) (begins rest front after m e one) line
short_stops rest (inr (ls, body, fit, less)) = λ front after m e one.
    let b : Fit (map length m) (concat m ++ after) ≡ Fit ls body = sym (begins rest front after m e one) ∙ fit in
    let lengths : map length m ≡ ls = cc in
    let bodies : concat m ++ after ≡ body = cc in
    let s : sum (map length m) ≡ sum ls = ap sum lengths in
    let t = sum-lengths m in
    let n : length (concat m ++ after) ≡ length body = ap length bodies in
    let l = length-append (concat m) after in
    omega arith

stops : (place : ℕ) (rest : List ℕ) (ending : Ending) → EndsAs place rest ending → Stops rest
stops place rest Whole e = λ front after m f one. never_both (heading rest) (map length m) (concat m ++ after) (begins rest front after m f one) (ap heading e)
stops place rest (Bad fault) (wrong, bad, p) = λ front after m f one. never_bad (heading rest) (map length m) (concat m ++ after) wrong (begins rest front after m f one) bad
stops place rest (Short at) (some, short, p) = short_stops rest short

split_same : (f r g q : List ℕ) (ms ns : List (List (List ℕ))) → f ++ r ≡ g ++ q → AreSpelled f ms → AreSpelled g ns → Stops r → Stops q → (ms ≡ ns) × (r ≡ q)
split_same f r g q [] [] e s t x y = (refl, ap (λ z. z ++ r) (sym s) ∙ e ∙ ap (λ z. z ++ q) t)
split_same f r g q (m ∷ ms) [] e (a, b, w, one, s) t x y =
    absurd (y a (b ++ r) m (ap (λ z. z ++ q) (sym t) ∙ sym e ∙ ap (λ z. z ++ r) w ∙ append_assoc a b r) one)
split_same f r g q [] (n ∷ ns) e s (a, b, w, one, t) x y =
    absurd (x a (b ++ q) n (ap (λ z. z ++ r) (sym s) ∙ e ∙ ap (λ z. z ++ q) w ∙ append_assoc a b q) one)
split_same f r g q (m ∷ ms) (n ∷ ns) e (a, b, w, one, s) (c, d, v, two, t) x y =
    let whole : a ++ (b ++ r) ≡ c ++ (d ++ q) = sym (append_assoc a b r) ∙ ap (λ z. z ++ r) (sym w) ∙ e ∙ ap (λ z. z ++ q) v ∙ append_assoc c d q in
    let p = fronts_same a c (b ++ r) (d ++ q) m n one two whole in
    let i = split_same b r d q ms ns p.1 s t x y in
    (ap (λ z. z ∷ ms) p.0 ∙ ap (λ z. n ∷ z) i.0, i.1)

empty_short : (rest : List ℕ) → rest ≡ [] → 0 < length rest → ⊥
empty_short rest e n = let l : length rest ≡ 0 = ap length e in omega arith

bad_short : (rest : List ℕ) (wrong : LineFault) → heading rest ≡ Faulty wrong → IsShort rest → ⊥
bad_short rest wrong e (inl f) = let g : Faulty wrong ≡ Unended = sym e ∙ f in cc
bad_short rest wrong e (inr (ls, body, f, n)) = never_bad (heading rest) ls body wrong f e

empty_bad : (rest : List ℕ) (wrong : LineFault) → rest ≡ [] → heading rest ≡ Faulty wrong → ⊥
empty_bad rest wrong e f = let g : Unended ≡ Faulty wrong = sym (ap heading e) ∙ f in cc

endings_same : (place : ℕ) (rest : List ℕ) (e f : Ending) → EndsAs place rest e → EndsAs place rest f → e ≡ f
endings_same place rest Whole Whole x y = refl
endings_same place rest Whole (Bad f) x (w, bad, p) = absurd (empty_bad rest w x bad)
endings_same place rest Whole (Short at) x (some, short, p) = absurd (empty_short rest x some)
endings_same place rest (Bad f) Whole (w, bad, p) y = absurd (empty_bad rest w y bad)
endings_same place rest (Bad f) (Bad g) (w, bad, p) (v, wrong, q) =
    let both : Faulty w ≡ Faulty v = sym bad ∙ wrong in
    let same : w ≡ v = cc in
    ap (λ z. Bad z) (p ∙ ap (λ z. placed_fault (told_place place) z) same ∙ sym q)
endings_same place rest (Bad f) (Short at) (w, bad, p) (some, short, q) = absurd (bad_short rest w bad short)
endings_same place rest (Short at) Whole (some, short, p) y = absurd (empty_short rest y some)
endings_same place rest (Short at) (Bad f) (some, short, p) (w, bad, q) = absurd (bad_short rest w bad short)
endings_same place rest (Short at) (Short on) (some, short, p) (more, less, q) = ap (λ z. Short z) (p ∙ sym q)

pub one-reading : (stream : List ℕ) (ms ns : List (List (List ℕ))) (e f : Ending) → IsReadAs stream ms e → IsReadAs stream ns f → (ms ≡ ns) × (e ≡ f)
one-reading stream ms ns e f a b =
    let whole : a.front ++ a.rest ≡ b.front ++ b.rest = sym a.whole ∙ b.whole in
    let p = split_same a.front a.rest b.front b.rest ms ns whole a.spelled b.spelled (stops (length a.front) a.rest e a.ends) (stops (length b.front) b.rest f b.ends) in
    let n : length (a.front ++ a.rest) ≡ length (b.front ++ b.rest) = ap length whole in
    let l = length-append a.front a.rest in
    let k = length-append b.front b.rest in
    let r : length a.rest ≡ length b.rest = ap length p.1 in
    let place : length b.front ≡ length a.front = omega arith in
    let there : EndsAs (length a.front) a.rest f = subst (λ (x : ℕ). EndsAs x a.rest f) place (subst (λ (x : List ℕ). EndsAs (length b.front) x f) (sym p.1) b.ends) in
    (p.0, endings_same (length a.front) a.rest e f a.ends there)

-- a stream that begins with a message
pub first-read : (front after : List ℕ) (m : List (List ℕ)) (ns : List (List (List ℕ))) (e : Ending) → IsSpelling front m → IsReadAs (front ++ after) ns e → (ms : List (List (List ℕ))) × (ns ≡ m ∷ ms)
first-read front after m [] e one a =
    absurd (stops (length a.front) a.rest e a.ends front after m (ap (λ z. z ++ a.rest) (sym a.spelled) ∙ sym a.whole) one)
first-read front after m (n ∷ ns) e one a =
    let s = a.spelled in
    let whole : s.0 ++ (s.1 ++ a.rest) ≡ front ++ after = sym (append_assoc s.0 s.1 a.rest) ∙ ap (λ z. z ++ a.rest) (sym s.2) ∙ sym a.whole in
    let p = fronts_same s.0 front (s.1 ++ a.rest) after n m s.3 one whole in
    (ns, ap (λ z. z ∷ ns) p.0)

pub same-read : (stream : List ℕ) (taken : List (List (List ℕ))) (now other : Framing) → Stands stream taken now → Stands stream taken other → (now.waiting ≡ other.waiting) × (ending_of now ≡ ending_of other)
same-read stream taken now other a b =
    let p = one-reading stream (taken ++ now.waiting) (taken ++ other.waiting) (ending_of now) (ending_of other) (reads stream taken now a) (reads stream taken other b) in
    (append_cancel_left taken now.waiting other.waiting p.0, p.1)
