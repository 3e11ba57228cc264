-- The local facts of several blocks.
use Rattle.std.proofs.Common.{◌≡◌, ℕ, List, ◌∷◌, Some, None, cond, sym, ◌∙◌, ap}
use Rattle.std.specs.Option.{option_or}
use Rattle.std.specs.Ordering.{is_eq}
use Rattle.std.specs.Str.{bytes_eq}
use Rattle.std.proofs.lemmas.List.Folds.{find-append}
use Rattle.std.proofs.lemmas.Map.Text.{is_eq-slice_cmp}
use Rattle.shared_map.specs.Pairs.{found}
use Rattle.theory_ctx.specs.declared.local.Local.{Local}
use Rattle.theory_ctx.specs.Order.{by_bytes}
use Rattle.theory_ctx.specs.Locals.{first_named, joined, AreFirst}

-- a name that is in the first block, or is not
pub first_in : (n : List ℕ) (locals : List Local) (blocks : List (List Local)) (local : Local) → first_named n locals ≡ Some local
    → Some local ≡ first_named n (joined (locals ∷ blocks))
first_in n locals blocks local is =
    sym (find-append (λ l. bytes_eq l.name n) locals (joined blocks) ∙ ap (λ o. option_or o (first_named n (joined blocks))) is)

pub first_behind : (n : List ℕ) (locals : List Local) (blocks : List (List Local)) → first_named n locals ≡ None
    → first_named n (joined blocks) ≡ first_named n (joined (locals ∷ blocks))
first_behind n locals blocks none =
    sym (find-append (λ l. bytes_eq l.name n) locals (joined blocks) ∙ ap (λ o. option_or o (first_named n (joined blocks))) none)

-- the map with the newer local fact in its place
pub are_first : (map kept more : List (List ℕ × Local)) (locals all : List Local) (key : List ℕ) (value first local : Local)
    → ((n : List ℕ) → found by_bytes n more ≡ cond (is_eq (by_bytes key n)) (Some value) (found by_bytes n kept))
    → key ≡ local.name → value ≡ local → kept ≡ map → all ≡ first ∷ locals → first ≡ local
    → AreFirst map locals → AreFirst more all
are_first map kept more locals all key value first local put named says same grown is newest n =
    put n ∙ ap (λ k. cond (is_eq (by_bytes k n)) (Some value) (found by_bytes n kept)) named
    ∙ ap (λ b. cond b (Some value) (found by_bytes n kept)) (is_eq-slice_cmp local.name n)
    ∙ ap (λ v. cond (bytes_eq local.name n) (Some v) (found by_bytes n kept)) says
    ∙ ap (λ m. cond (bytes_eq local.name n) (Some local) (found by_bytes n m)) same
    ∙ ap (cond (bytes_eq local.name n) (Some local)) (newest n)
    ∙ ap (first_named n) (sym (grown ∙ ap (λ l. l ∷ locals) is))
