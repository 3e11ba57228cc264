-- What a command makes is told by its first token and its shape.
use Rattle.std.proofs.Common.{◌≡◌, ℕ, List, [], ◌∷◌, Option, Some, Ok, Err, map, refl, ap, sym, ◌∙◌}
use Rattle.outer_syntax.specs.ProperTokens.{proper_from}
use Rattle.outer_syntax.specs.Words.{is_in_force}
use Rattle.outer_syntax.specs.declared.token.Token.{Token}
use Rattle.doc_nodes.specs.Needs.{AliasList, source_tokens}
use Rattle.isar_rules.specs.declared.shape.Shape.{Shape}
use Rattle.isar_rules.specs.declared.state.State.{State}
use Rattle.isar_rules.specs.Effects.{Effect}
use Rattle.isar_rules.specs.Errors.{Tried}
use Rattle.isar_rules.specs.Shapes.{shape_of}
use Rattle.isar_rules.specs.Steps.{made_effect, step_on, tried}

-- of the tokens but the first is reported
by-first : (source : List ℕ) (t : Token) (ts us : List Token) (before : State) (effect : Tried Effect) → made_effect source (t ∷ ts) before effect ≡ made_effect source (t ∷ us) before effect
by-first source t ts us before (Ok effect) = refl
by-first source t ts us before (Err text) = refl

-- so what follows says nothing where the shape is known without it
pub by-shape : (source : List ℕ) (blob : Option (List ℕ)) (before : State) (aliases : AliasList) (t : Token) (ts : List Token) (shape : Shape) → shape_of aliases source (t ∷ ts) ≡ Some shape
    → made_effect source (t ∷ []) before (tried blob before.place (Some shape)) ≡ step_on source
    blob before aliases (t ∷ ts)
by-shape source blob before aliases t ts shape e =
    by-first source t [] ts before (tried blob before.place (Some shape))
    ∙ ap (λ s. made_effect source (t ∷ ts) before (tried blob before.place s)) (sym e)

-- the proper tokens from the beginning on, under the names of the aliases, are those of the source
pub read-all : (aliases : AliasList) (source : List ℕ) (names : List (List ℕ)) (tokens : List Token) → names ≡ map (λ pair. pair.0) aliases
    → proper_from (is_in_force names) source 0 ≡ tokens → source_tokens aliases source ≡ tokens
read-all aliases source names tokens e read = ap (λ ns. proper_from (is_in_force ns) source 0) (sym e) ∙ read
