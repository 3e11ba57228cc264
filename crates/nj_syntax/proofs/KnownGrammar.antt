-- Lists of tokens that are the same, and that a list of terms has one.
use Rattle.std.proofs.Common.{◌≡◌, ℕ, List, [], ◌∷◌}
use Rattle.nj_formula.specs.declared.argument.Argument.{Argument}
use Rattle.nj_syntax.specs.declared.token.Token.{Token}
use Rattle.nj_syntax.specs.Terms.{Deep, AreArguments, name, apply, comma}

pub first_same : (t u : Token) (ts us : List Token) → t ∷ ts ≡ u ∷ us → t ≡ u
first_same t u ts us e = cc

pub others_same : (t u : Token) (ts us : List Token) → t ∷ ts ≡ u ∷ us → ts ≡ us
others_same t u ts us e = cc

-- terms with commas between them are never none
pub some_arguments : {bound : List (List ℕ)} {d : ℕ} {deep : List Deep} {arguments : List Argument} → AreArguments bound d deep arguments
    → arguments ≡ [] → ⊥
some_arguments name e = cc
some_arguments (apply h) e = cc
some_arguments (comma h k) e = cc
