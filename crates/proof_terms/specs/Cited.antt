-- The names that a proof term cites, and where they stand (this project's own).
use Rattle.std.specs.Prelude.{◌≡◌, ◌⊎◌, List, [], ◌∷◌, ◌++◌}
use Rattle.pide_base.specs.declared.range.Range.{Range}
use Rattle.outer_syntax.specs.declared.token.Token.{Token}
use Rattle.proof_terms.specs.declared.term.Cite.{Cite}
use Rattle.proof_terms.specs.declared.term.Term.{Term, fold-Term}
use Rattle.proof_terms.specs.declared.term.Term.TheOpen.{Term-F}

-- the names that a term cites by itself, with those of its parts, from the left
abbrev pub cites_layer : Term-F (List Cite) → List Cite
cites_layer (Term-F.Fact c) = c ∷ []
cites_layer (Term-F.ConjI t u) = t ++ u
cites_layer (Term-F.ConjE1 b t) = t
cites_layer (Term-F.ConjE2 a t) = t
cites_layer (Term-F.DisjI1 t) = t
cites_layer (Term-F.DisjI2 t) = t
cites_layer (Term-F.DisjE a b t x u y v) = t ++ (u ++ v)
cites_layer (Term-F.ImpI x t) = t
cites_layer (Term-F.ImpE a t u) = t ++ u
cites_layer (Term-F.NotI x t) = t
cites_layer (Term-F.NotE a t u) = t ++ u
cites_layer (Term-F.FalseE t) = t
cites_layer (Term-F.AllI x t) = t
cites_layer (Term-F.AllE q s t) = t
cites_layer (Term-F.ExI s t) = t
cites_layer (Term-F.ExE q x h t u) = t ++ u

-- the names that a term cites, from the left
abbrev pub cites_of : Term → List Cite
cites_of = fold-Term (List Cite) cites_layer

-- the range is that of one of the tokens
abbrev pub IsPlaceOf : List Token → Range → Type 0
IsPlaceOf [] r = ⊥
IsPlaceOf (t ∷ ts) r = (r ≡ t.range) ⊎ IsPlaceOf ts r
