-- Attributes that are numbered from 0.
use Rattle.std.proofs.Common.{◌≡◌, ◌≢◌, ℕ, ◌+◌, List, [], ◌∷◌, ◌++◌, length, sym, ap, ◌∙◌, append_assoc, reverse, arith, decimal}
use Rattle.std.proofs.lemmas.List.{reverse-append}
use Rattle.yxml.specs.declared.tree.Attribute.{Attribute}
use Rattle.xml_codec.specs.Data.{numbered_from}

numbered-append : (n : ℕ) (xs : List (List ℕ)) (y : List ℕ) → numbered_from n (xs ++ y ∷ []) ≡ numbered_from n xs ++ record { key = decimal (n + length xs); value = y } ∷ []
numbered-append n [] y = ap (λ (k : ℕ). record { key = decimal k; value = y } ∷ []) (omega arith)
numbered-append n (x ∷ xs) y = ap (λ rest. record { key = decimal n; value = x } ∷ rest)
    (numbered-append (n + 1) xs y ∙ ap (λ (k : ℕ). numbered_from (n + 1) xs ++ record { key = decimal k; value = y } ∷ []) (omega arith))

-- the last value is numbered
pub number_last : (whole : List Attribute) (left front : List (List ℕ)) (reversed pushed : List Attribute) (a : Attribute)
    → numbered_from 0 left ++ reverse reversed ≡ whole → left ≡ front ++ a.value ∷ [] → pushed ≡ reversed ++ a ∷ [] → a.key ≡ decimal (length front)
    → numbered_from 0 front ++ reverse pushed ≡ whole
number_last whole left front reversed pushed a is last push key =
    let numbered : record { key = decimal (0 + length front); value = a.value } ≡ a = ap (λ (k : List ℕ). record { key = k; value = a.value }) (ap decimal (omega arith) ∙ sym key) in
    ap (λ rs. numbered_from 0 front ++ reverse rs) push ∙ ap (λ rs. numbered_from 0 front ++ rs) (reverse-append reversed (a ∷ []))
    ∙ sym (ap (λ l. numbered_from 0 l ++ reverse reversed) last ∙ ap (λ made. made ++ reverse reversed) (numbered-append 0 front a.value)
    ∙ append_assoc (numbered_from 0 front) _ (reverse reversed) ∙ ap (λ b. numbered_from 0 front ++ b ∷ reverse reversed) numbered) ∙ is

key-at : (n : ℕ) (values : List (List ℕ)) (front : List Attribute) (a : Attribute) (rest : List Attribute)
    → numbered_from n values ≡ front ++ a ∷ rest → a.key ≡ decimal (n + length front)
key-at n [] [] a rest e = absurd (cc)
key-at n [] (b ∷ front) a rest e = absurd (cc)
key-at n (v ∷ values) [] a rest e =
    let first : record { key = decimal n; value = v } ≡ a = cc in
    ap (λ (b : Attribute). b.key) (sym first) ∙ ap decimal (omega arith)
key-at n (v ∷ values) (b ∷ front) a rest e =
    let others : numbered_from (n + 1) values ≡ front ++ a ∷ rest = cc in
    key-at (n + 1) values front a rest others ∙ ap decimal (omega arith)

-- an attribute with another key
pub misnumbered : (whole left front rest : List Attribute) (a : Attribute) → whole ≡ left ++ rest → left ≡ front ++ a ∷ [] → a.key ≢ decimal (length front)
    → (values : List (List ℕ)) → whole ≢ numbered_from 0 values
misnumbered whole left front rest a is last other values e =
    other (key-at 0 values front a rest (sym e ∙ is ∙ ap (λ l. l ++ rest) last ∙ append_assoc front (a ∷ []) rest) ∙ ap decimal (omega arith))
