-- Pieces that tile a text: their places rise, and they join to it.
use Rattle.std.proofs.Common.{◌≡◌, ℕ, ◌+◌, ◌-◌, ◌≤◌, List, [], ◌∷◌, ◌++◌, length, take, drop, sym, ap, ◌∙◌, arith}
use Rattle.std.proofs.lemmas.List.{drop-drop, take_all}
use Rattle.std.proofs.Math.Seq.{take-add}
use Rattle.text_words.specs.Pieces.{text_between, joined, Tiles}

-- the text up to a middle place and the text from there on are the text
pub between-both : (text : List ℕ) (from middle to : ℕ) → from ≤ middle → middle ≤ to
    → text_between text from middle ++ text_between text middle to ≡ text_between text from to
between-both text from middle to before after =
    let rest : text_between text middle to ≡ take (to - middle) (drop (middle - from) (drop from text)) =
    ap (λ r. take (to - middle) r) (ap (λ n. drop n text) (omega arith) ∙ sym (drop-drop (middle - from) from text)) in
    let whole : middle - from + (to - middle) ≡ to - from = omega arith in
    ap (λ r. take (middle - from) (drop from text) ++ r) rest
    ∙ sym (take-add (middle - from) (to - middle) (drop from text))
    ∙ ap (λ n. take n (drop from text)) whole

-- nothing stands between a place and itself
pub between-same : (text : List ℕ) (from to : ℕ) → from ≡ to → [] ≡ text_between text from to
between-same text from to same = let none : to - from ≡ 0 = omega arith in sym (ap (λ n. take n (drop from text)) none)

-- places only rise
pub tiles-rise : (from to : ℕ) (ps : List (ℕ × ℕ)) → Tiles from to ps → from ≤ to
tiles-rise from to [] same = omega arith
tiles-rise from to (p ∷ ps) (starts, some, rest) = omega (arith, starts, some, tiles-rise p.1 to ps rest)

-- pieces join to what they tile
pub tiles-joined : (text : List ℕ) (from to : ℕ) (ps : List (ℕ × ℕ)) → Tiles from to ps → joined text ps ≡ text_between text from to
tiles-joined text from to [] same = between-same text from to same
tiles-joined text from to (p ∷ ps) (starts, some, rest) =
    ap (λ x. text_between text x p.1 ++ joined text ps) starts
    ∙ ap (λ r. text_between text from p.1 ++ r) (tiles-joined text p.1 to ps rest)
    ∙ between-both text from p.1 to (omega (arith, starts, some)) (tiles-rise p.1 to ps rest)

-- the text between its ends is the text
pub between-all : (text : List ℕ) → text_between text 0 (length text) ≡ text
between-all text = take_all _ text (omega arith)

-- pieces that tile a text join to it
pub tiles-whole : (text : List ℕ) (ps : List (ℕ × ℕ)) → Tiles 0 (length text) ps → joined text ps ≡ text
tiles-whole text ps tiles = tiles-joined text 0 (length text) ps tiles ∙ between-all text
