-- Terms by what their rule is for.
use Rattle.std.specs.Prelude.{⊤}
use Rattle.proof_terms.specs.declared.term.Term.{Term}
use Rattle.proof_terms.specs.declared.term.Term.TheOpen.{Term-F}

-- a quantifier
abbrev pub IsQuantified : Term-F Term → Type 0
IsQuantified (Term-F.AllI x t) = ⊤
IsQuantified (Term-F.AllE quoted s t) = ⊤
IsQuantified (Term-F.ExI s t) = ⊤
IsQuantified (Term-F.ExE quoted x h t u) = ⊤
IsQuantified _ = ⊥

-- that, an implication, a negation or falsity
abbrev pub IsImplied : Term-F Term → Type 0
IsImplied (Term-F.ImpI x t) = ⊤
IsImplied (Term-F.ImpE a t u) = ⊤
IsImplied (Term-F.NotI x t) = ⊤
IsImplied (Term-F.NotE a t u) = ⊤
IsImplied (Term-F.FalseE t) = ⊤
IsImplied l = IsQuantified l

-- that, or a disjunction
abbrev pub IsDisjoined : Term-F Term → Type 0
IsDisjoined (Term-F.DisjI1 t) = ⊤
IsDisjoined (Term-F.DisjI2 t) = ⊤
IsDisjoined (Term-F.DisjE a b t x u y v) = ⊤
IsDisjoined l = IsImplied l
