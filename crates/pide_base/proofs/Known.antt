-- Known contents that grow piece by piece.
use Rattle.std.proofs.Common.{◌≡◌, ◌-◌, ℕ, List, ◌++◌, Option, sym, ap, ◌∙◌, length, take, drop, append_assoc, take-append-drop}
use Rattle.std.proofs.lemmas.List.{take_rest}
use Rattle.std.proofs.KnownBytes.{Appends-trans}
use Rattle.std.specs.Io.KnownBytes.{Appends}
use Rattle.pide_base.specs.Moves.{AppendsFront}

-- the first n bytes of the rest were pushed too
pub pushed_more : (a b c : Option (List ℕ)) (all front rest : List ℕ) (n : ℕ) → all ≡ front ++ rest → Appends a b front → Appends b c (take n rest)
    → (more : List ℕ) × (all ≡ more ++ take (length rest - n) (drop n rest)) × Appends a c more
pushed_more a b c all front rest n whole old new =
    let left : take n rest ++ take (length rest - n) (drop n rest) ≡ rest = ap (λ xs. take n rest ++ xs) (take_rest rest n) ∙ take-append-drop n rest in
    (front ++ take n rest, whole ∙ ap (λ xs. front ++ xs) (sym left) ∙ sym (append_assoc front (take n rest) _), Appends-trans a b c front (take n rest) old new)

-- a front of what came after a whole text is, with that text, a front of both
pub AppendsFront-after : (a b c : Option (List ℕ)) (xs ys : List ℕ) → Appends a b xs → AppendsFront b c ys → AppendsFront a c (xs ++ ys)
AppendsFront-after a b c xs ys first second =
    let whole : xs ++ ys ≡ (xs ++ second.0) ++ second.1 = ap (λ zs. xs ++ zs) second.2 ∙ sym (append_assoc xs second.0 second.1) in
    (xs ++ second.0, second.1, whole, Appends-trans a b c xs second.0 first second.3)

-- a front of a text is one of a longer text
pub front_more : (held held' : Option (List ℕ)) (xs ys : List ℕ) → AppendsFront held held' xs → AppendsFront held held' (xs ++ ys)
front_more held held' xs ys front =
    (front.0, front.1 ++ ys, ap (λ zs. zs ++ ys) front.2 ∙ append_assoc front.0 front.1 ys, front.3)
