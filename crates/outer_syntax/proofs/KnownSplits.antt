-- A text's front and rest: what a front begins with, and the rest as a slice.
use Rattle.std.proofs.Common.{◌≡◌, ℕ, suc, ◌+◌, ◌≤◌, ◌-◌, List, [], ◌∷◌, ◌++◌, length, get_or, take, drop, sym, refl, ap, ◌∙◌, arith, length-take-le, length-append}
use Rattle.std.proofs.lemmas.List.{take_all, take-take, take_at}

-- what a front of the text begins with is a front of the text
pub front-part : (s : List ℕ) (m : ℕ) (name rest : List ℕ) → m ≤ length s → take m s ≡ name ++ rest → (take (length name) s ≡ name) × (length name + length rest ≡ m)
front-part s m name rest within e =
    let lengths : length name + length rest ≡ m = sym (length-append name rest) ∙ ap length (sym e) ∙ length-take-le m s within in
    (sym (take-take (length name) m s (omega arith)) ∙ ap (λ x. take (length name) x) e ∙ take_at name rest (length name) refl, lengths)

-- the rest of a text after its first scalar, as a slice of it
pub split-first : (s : List ℕ) (x : ℕ) → 1 ≤ length s → get_or s 0 0 ≡ x → s ≡ x ∷ take (length s - 1) (drop 1 s)
split-first [] x within first = absurd (omega arith)
split-first (c ∷ cs) x within first =
    let same : take (suc (length cs) - 1) cs ≡ cs = take_all _ cs (omega arith) in
    ap (λ y. y ∷ cs) first ∙ ap (λ r. x ∷ r) (sym same)

pub split-second : (s : List ℕ) (x y : ℕ) → 2 ≤ length s → get_or s 0 0 ≡ x → get_or s 1 0 ≡ y → s ≡ x ∷ y ∷ take (length s - 2) (drop 2 s)
split-second [] x y within first second = absurd (omega arith)
split-second (c ∷ []) x y within first second = absurd (omega arith)
split-second (c ∷ d ∷ ds) x y within first second =
    let same : take (suc (suc (length ds)) - 2) ds ≡ ds = take_all _ ds (omega arith) in
    ap (λ z. z ∷ d ∷ ds) first ∙ ap (λ z. x ∷ z ∷ ds) second ∙ ap (λ r. x ∷ y ∷ r) (sym same)
