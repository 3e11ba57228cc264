-- Identifiers, with dots between them or without, are made of parts of identifiers and dots.
use Rattle.std.proofs.Common.{◌≡◌, ℕ, ◌||◌, ◌==◌, Bool, true, List, [], ◌∷◌, refl}
use Rattle.std.specs.Prelude.{All}
use Rattle.std.proofs.lemmas.Bool.{or_left}
use Rattle.std.proofs.lemmas.List.Elements.{All-nil, All-cons, All-append, All-head, All-tail, All-weaker}
use Rattle.text_words.specs.Identifier.{is_identifier_part, IsIdentifier}
use Rattle.text_words.proofs.KnownIdentifiers.{identifier-parts}
use Rattle.outer_syntax.specs.Forms.{dotted}

-- a scalar of an identifier or a dot
abbrev pub is_word : ℕ → Bool
is_word c = is_identifier_part c || c == 46

pub identifier-word : (s : List ℕ) → IsIdentifier s → All (λ c. is_word c ≡ true) s
identifier-word s id = All-weaker (λ c. is_identifier_part c ≡ true) (λ c. is_word c ≡ true) (λ c part. or_left (is_identifier_part c) (c == 46) part) s (identifier-parts s id)

pub dotted-word : (names : List (List ℕ)) → All IsIdentifier names → All (λ c. is_word c ≡ true) (dotted names)
dotted-word [] each = All-nil (λ c. is_word c ≡ true)
dotted-word (x ∷ xs) each =
    All-append (λ c. is_word c ≡ true) (46 ∷ x) (dotted xs)
    (All-cons (λ c. is_word c ≡ true) 46 x refl (identifier-word x (All-head IsIdentifier x xs each)))
    (dotted-word xs (All-tail IsIdentifier x xs each))
