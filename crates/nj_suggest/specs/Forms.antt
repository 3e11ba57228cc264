-- Terms by what their rule does.
use Rattle.std.specs.Prelude.{⊤}
use Rattle.proof_terms.specs.declared.term.Term.{Term}
use Rattle.proof_terms.specs.declared.term.Term.TheOpen.{Term-F}

-- a rule that is about an instance of a quantifier's body, at a term or in a part of its own
abbrev pub IsInstancing : Term-F Term → Type 0
IsInstancing (Term-F.AllE q s t) = ⊤
IsInstancing (Term-F.ExI s t) = ⊤
IsInstancing (Term-F.ExE q x h t u) = ⊤
IsInstancing _ = ⊥

-- that, or a rule that eliminates and has several parts
abbrev pub IsEliminating : Term-F Term → Type 0
IsEliminating (Term-F.DisjE a b t x u y v) = ⊤
IsEliminating (Term-F.ImpE a t u) = ⊤
IsEliminating (Term-F.NotE a t u) = ⊤
IsEliminating l = IsInstancing l
