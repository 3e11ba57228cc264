-- Texts that are cut at a byte are cut in one way.
use Rattle.std.proofs.Common.{◌≡◌, ℕ, ◌==◌, false, List, [], ◌∷◌, ◌++◌, refl, sym, ap, ◌∙◌, append_assoc, bytes_eq, eq-eqb}
use Rattle.std.proofs.lemmas.Bool.{both_ways}
use Rattle.std.proofs.lemmas.List.{append_cancel_left}
use Rattle.message_values.proofs.KnownTrees.{bytes_same}
use Rattle.yxml.specs.Normal.{Lacks}
use Rattle.reply_messages.specs.Marks.{Begins, element_bytes, node_bytes}

-- bytes that a test tells apart
pub differ : (xs ys : List ℕ) → bytes_eq xs ys ≡ false → xs ≡ ys → ⊥
differ xs ys other same = both_ways (bytes_eq xs ys) other (bytes_same xs ys same)

-- a byte that a text lacks is not at its front
other_byte : (c b : ℕ) → (b == c) ≡ false → b ≡ c → ⊥
other_byte c b lacks same = both_ways (b == c) lacks (eq-eqb b c same)

begun : (c y : ℕ) (u more : List ℕ) → Begins c u → u ≡ y ∷ more → y ≡ c
begun c y [] more h e = absurd (cc)
begun c y (x ∷ xs) more h e = let same : x ≡ y = cc in sym same ∙ h

-- what stands before the byte, and what begins with it
pub one_cut : (c : ℕ) (p q u v : List ℕ) → Lacks c p → Lacks c q → Begins c u → Begins c v → p ++ u ≡ q ++ v → (p ≡ q) × (u ≡ v)
one_cut c [] [] u v lp lq bu bv e = (refl, e)
one_cut c [] (y ∷ q) u v lp lq bu bv e = absurd (other_byte c y lq.0 (begun c y u (q ++ v) bu e))
one_cut c (x ∷ p) [] u v lp lq bu bv e = absurd (other_byte c x lp.0 (begun c x v (p ++ u) bv (sym e)))
one_cut c (x ∷ p) (y ∷ q) u v lp lq bu bv e =
    let head : x ≡ y = cc in
    let tail : p ++ u ≡ q ++ v = cc in
    let rest = one_cut c p q u v lp.1 lq.1 bu bv tail in
    (ap (λ z. z ∷ p) head ∙ ap (λ zs. y ∷ zs) rest.0, rest.1)

-- an element and what follows it
pub element_split : (tag inside rest : List ℕ) → element_bytes tag inside ++ rest ≡ 5 ∷ 6 ∷ (tag ++ 5 ∷ (inside ++ 5 ∷ 6 ∷ 5 ∷ rest))
element_split tag inside rest = ap (λ z. 5 ∷ 6 ∷ z)
    (append_assoc tag (5 ∷ (inside ++ 5 ∷ 6 ∷ 5 ∷ [])) rest ∙ ap (λ z. tag ++ 5 ∷ z) (append_assoc inside (5 ∷ 6 ∷ 5 ∷ []) rest))

-- an element tells its tag, its text and what follows it
pub one_element : (tag inside rest tag' inside' rest' : List ℕ) → Lacks 5 tag → Lacks 5 inside → Lacks 5 tag' → Lacks 5 inside'
    → element_bytes tag inside ++ rest ≡ element_bytes tag' inside' ++ rest' → (tag ≡ tag') × (inside ≡ inside') × (rest ≡ rest')
one_element tag inside rest tag' inside' rest' t i t' i' e =
    let whole = append_cancel_left (5 ∷ 6 ∷ []) _ _ (sym (element_split tag inside rest) ∙ e ∙ element_split tag' inside' rest') in
    let first = one_cut 5 tag tag' (5 ∷ (inside ++ 5 ∷ 6 ∷ 5 ∷ rest)) (5 ∷ (inside' ++ 5 ∷ 6 ∷ 5 ∷ rest')) t t' refl refl whole in
    let second = one_cut 5 inside inside' (5 ∷ 6 ∷ 5 ∷ rest) (5 ∷ 6 ∷ 5 ∷ rest') i i' refl refl (append_cancel_left (5 ∷ []) _ _ first.1) in
    (first.0, second.0, append_cancel_left (5 ∷ 6 ∷ 5 ∷ []) rest rest' second.1)

-- so does a node
pub one_node : (inside rest inside' rest' : List ℕ) → Lacks 5 inside → Lacks 5 inside' → node_bytes inside ++ rest ≡ node_bytes inside' ++ rest'
    → (inside ≡ inside') × (rest ≡ rest')
one_node inside rest inside' rest' i i' e =
    let same = one_element (58 ∷ []) inside rest (58 ∷ []) inside' rest' (refl, tt) i (refl, tt) i' e in (same.1, same.2)
