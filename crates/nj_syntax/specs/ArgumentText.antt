-- The text of a term: a comma and a space between arguments, nothing before a parenthesis (this
-- project's own).
use Rattle.std.specs.Prelude.{ℕ, List, [], ◌∷◌, ◌++◌, codes, slice_index_or}
use Rattle.nj_formula.specs.declared.argument.Argument.{Argument, fold-Argument}
use Rattle.nj_formula.specs.declared.argument.Argument.TheOpen.{Argument-F}

-- the printed name of a bound place, innermost first; a place that nothing binds has none
abbrev pub name_at : List (List ℕ) → ℕ → List ℕ
name_at names place = slice_index_or names place []

-- each text after a comma
abbrev pub after_commas : List (List ℕ) → List ℕ
after_commas [] = []
after_commas (text ∷ texts) = codes ", " ++ (text ++ after_commas texts)

-- the texts with commas between them
abbrev pub listed : List (List ℕ) → List ℕ
listed [] = []
listed (text ∷ texts) = text ++ after_commas texts

-- one layer, with the text of each argument in its place
abbrev pub text_layer : List (List ℕ) → Argument-F (List ℕ) → List ℕ
text_layer names (Argument-F.Free x) = x
text_layer names (Argument-F.Bound place) = name_at names place
text_layer names (Argument-F.Apply function texts) =
    function ++ (codes "(" ++ (listed texts ++ codes ")"))

-- the text of an argument under these printed names
abbrev pub argument_text : List (List ℕ) → Argument → List ℕ
argument_text names = fold-Argument (List ℕ) (text_layer names)
