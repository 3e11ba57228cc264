-- Contexts that agree, and the same contexts in another order (this project's own).
use Rattle.std.specs.Prelude.{◌≡◌, ℕ, List, [], ◌∷◌, ◌⊎◌, ◌↔◌, Some}
use Rattle.theory_ctx.specs.Facts.{Fact, fact_of}

-- a context is one of the parts
abbrev pub IsPart : List Fact → List (List Fact) → Type 0
IsPart facts [] = ⊥
IsPart facts (part ∷ parts) = (facts ≡ part) ⊎ IsPart facts parts

-- no two parts have different facts of one theory and name
abbrev pub DoAgree : List (List Fact) → Type 0
DoAgree parts =
    (one other : List Fact) (t n : List ℕ) (f g : Fact) → IsPart one parts → IsPart other parts
    → fact_of t n one ≡ Some f → fact_of t n other ≡ Some g → f ≡ g

-- each part of one is a part of the other
abbrev pub AreSame : List (List Fact) → List (List Fact) → Type 0
AreSame parts others = (part : List Fact) → IsPart part parts ↔ IsPart part others
