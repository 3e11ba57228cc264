-- Local facts of a scope inside another.
use Rattle.std.proofs.Common.{◌≡◌, ℕ, List, [], ◌∷◌, ◌++◌, Some, None, refl, sym, ◌∙◌, ap}
use Rattle.std.specs.Option.{option_or}
use Rattle.std.specs.Str.{bytes_eq}
use Rattle.std.proofs.lemmas.List.Folds.{find-append}
use Rattle.theory_ctx.specs.declared.local.Local.{Local}
use Rattle.theory_ctx.specs.Answers.{Answer, found}
use Rattle.theory_ctx.specs.Locals.{local_of, local_first}

-- the own local facts are sought first
both : (own outer : List Local) (parts : List (List ℕ)) → local_of (own ++ outer) parts ≡ option_or (local_of own parts) (local_of outer parts)
both own outer [] = refl
both own outer (n ∷ []) = find-append (λ local. bytes_eq local.name n) own outer
both own outer (t ∷ n ∷ more) = refl

pub inner_some : (own outer : List Local) (parts : List (List ℕ)) (local : Local) (answer : Answer) → Some local ≡ local_of own parts
    → found None local.name local.formula ≡ local_first (local_of (own ++ outer) parts) answer
inner_some own outer parts local answer is =
    sym (ap (λ o. local_first o answer) (both own outer parts ∙ sym (ap (λ o. option_or o (local_of outer parts)) is)))

pub inner_none : (own outer : List Local) (parts : List (List ℕ)) (answer : Answer) → None ≡ local_of own parts
    → local_first (local_of outer parts) answer ≡ local_first (local_of (own ++ outer) parts) answer
inner_none own outer parts answer is =
    sym (ap (λ o. local_first o answer) (both own outer parts ∙ sym (ap (λ o. option_or o (local_of outer parts)) is)))
