-- The parts of a name, by where it is cut at its first dot.
use Rattle.std.proofs.Common.{◌≡◌, ◌==◌, ℕ, ◌<◌, lit<, eqb, Bool, true, false, cond, refl, List, [], ◌∷◌, length, Option, Some, None, Bor, sym, ◌∙◌, ap, subst}
use Rattle.std.specs.Prelude.{MatchOption}
use Rattle.std.specs.List.{position_or_len, before_first, after_first, onto_first}
use Rattle.std.proofs.lemmas.Str.Pattern.{IsSplitOnceResult, split_once_first}
use Rattle.std.proofs.lemmas.List.Sums.{fails_before_first}
use Rattle.std.proofs.lemmas.List.Splits.{slice_split_first, slice_split_none}
use Rattle.theory_ctx.specs.Looked.{name_parts}

abbrev Cut : Type 0
Cut = Option (Bor (List ℕ) × Bor (List ℕ))

abbrev IsCut : List ℕ → Cut → Type 0
IsCut name cut = MatchOption cut (position_or_len (λ b. eqb b 46) name ≡ length name)
    (λ x. (position_or_len (λ b. eqb b 46) name < length name)
    × (x.0.now ≡ before_first (λ b. eqb b 46) name) × (x.1.now ≡ after_first (λ b. eqb b 46) name))

is_cut : (name : List ℕ) (cut : Cut) → IsSplitOnceResult 46 name cut → (made : Cut) → cut ≡ made → IsCut name made
is_cut name cut splits made e = subst (IsCut name) e (split_once_first 46 name cut splits (lit< tt))

-- a name with no dot is its one part
pub parts_of-uncut : (name : List ℕ) (cut : Cut) → IsSplitOnceResult 46 name cut → cut ≡ None
    → name_parts name ≡ name ∷ []
parts_of-uncut name cut splits e =
    let none = is_cut name cut splits None e in
    slice_split_none (λ b. eqb b 46) name (λ k d within. fails_before_first (λ b. eqb b 46) name k d (subst (λ n. k < n) (sym none) within))

-- a name with a dot has the part before it, then those of what is behind it
pub parts_of-cut : (name : List ℕ) (cut : Cut) (x y : Bor (List ℕ)) → IsSplitOnceResult 46 name cut → cut ≡ Some (x, y) → name_parts name ≡ x.now ∷ name_parts y.now
parts_of-cut name cut x y splits e =
    let some = is_cut name cut splits (Some (x, y)) e in
    slice_split_first (λ b. eqb b 46) name 0 some.0
    ∙ ap (λ first. first ∷ name_parts (after_first (λ b. eqb b 46) name)) (sym some.1)
    ∙ ap (λ rest. x.now ∷ name_parts rest) (sym some.2)

-- every name has a part
pub a_part : (name : List ℕ)
    → (first : List ℕ) × (more : List (List ℕ)) × (name_parts name ≡ first ∷ more)
a_part [] = ([], [], refl)
a_part (b ∷ bs) = go (b == 46) (a_part bs)
  where
    go : (is_dot : Bool)
        → (first : List ℕ) × (more : List (List ℕ)) × (name_parts bs ≡ first ∷ more)
        → (first : List ℕ) × (more : List (List ℕ)) × (cond is_dot ([] ∷ name_parts bs) (onto_first b (name_parts bs)) ≡ first ∷ more)
    go true rest = ([], name_parts bs, refl)
    go false rest = (b ∷ rest.0, rest.1, ap (onto_first b) rest.2)

-- a name with two dots has three parts at least
pub three_parts : (name rest : List ℕ) (t : List ℕ) (cut : Cut) (x y : Bor (List ℕ))
    → name_parts name ≡ t ∷ name_parts rest
    → IsSplitOnceResult 46 rest cut → cut ≡ Some (x, y)
    → (a : List ℕ) × (b : List ℕ) × (c : List ℕ) × (more : List (List ℕ)) ×
    (name_parts name ≡ a ∷ b ∷ c ∷ more)
three_parts name rest t cut x y first splits e =
    let last = a_part y.now in
    (t, x.now, last.0, last.1, first ∙ ap (λ parts. t ∷ parts) (parts_of-cut rest cut x y splits e ∙ ap (λ parts. x.now ∷ parts) last.2))
