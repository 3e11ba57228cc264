-- Where a plain name means no fact, since several theories have one (this project's own).
use Rattle.std.specs.Prelude.{◌≡◌, ℕ, List, [], ◌∷◌, None}
use Rattle.theory_ctx.specs.Facts.{Fact, fact_of, facts_elsewhere}
use Rattle.theory_ctx.specs.Looked.{name_parts}
use Rattle.theory_ctx.specs.Spelled.{long_name}

-- the theory own has no fact n, and these are the first two that other theories have
pub record HasTwo (facts : List Fact) (own n : List ℕ) (first second : Fact) : Type 0 where
  pub none_own : fact_of own n facts ≡ None
  pub others : (more : List Fact) × (facts_elsewhere own n facts ≡ first ∷ second ∷ more)

-- the name is plain, other theories have two facts of it, and these are their long names
abbrev pub IsAmbiguous : List Fact → List ℕ → List ℕ → List ℕ → List ℕ → Type 0
IsAmbiguous facts own name one other = (n : List ℕ) × (first : Fact) × (second : Fact)
    × (name_parts name ≡ n ∷ []) × HasTwo facts own n first second
    × (one ≡ long_name first.0.theory first.0.name)
    × (other ≡ long_name second.0.theory second.0.name)
