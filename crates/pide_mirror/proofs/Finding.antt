-- What is found in lists that are joined.
use Rattle.std.proofs.Common.{◌≡◌, ℕ, Bool, true, false, List, ◌++◌, None, refl, ap, ◌∙◌}
use Rattle.std.specs.Prelude.{find}
use Rattle.std.specs.Option.{option_or}
use Rattle.std.proofs.lemmas.List.Folds.{find-append}
use Rattle.text_words.specs.Members.{has}
use Rattle.text_words.proofs.KnownOptions.{or_none}
use Rattle.core_rules.specs.Updates.{AllDiffer}
use Rattle.core_rules.proofs.KnownCommands.{differ_apart}

module _ {A : Type 0} (p : A → Bool) where
  -- before what doesn't have it
  pub find_before : (xs ys : List A) → find p ys ≡ None → find p (xs ++ ys) ≡ find p xs
  find_before xs ys none = find-append p xs ys ∙ ap (λ o. option_or (find p xs) o) none ∙ or_none (find p xs)

-- an id that is in one list is not in a later one, where all differ
pub differ_behind : (xs ys : List ℕ) (c : ℕ) → AllDiffer (xs ++ ys) → has xs c ≡ true → has ys c ≡ false
differ_behind xs ys c differ is = go (has ys c) refl
  where
    go : (b : Bool) → has ys c ≡ b → b ≡ false
    go true at = let out = differ_apart xs ys c differ at in absurd (cc)
    go false at = refl
