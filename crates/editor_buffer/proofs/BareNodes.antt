-- Imports and aliases go by the headers of nodes alone.
use Rattle.std.proofs.Common.{◌≡◌, ℕ, List, [], ◌∷◌, Option, Some, None, refl, sym, ap, ◌∙◌}
use Rattle.std.specs.Option.{option_map}
use Rattle.doc_nodes.specs.declared.inherited.NodeAliases.{NodeAliases}
use Rattle.doc_nodes.specs.Imports.{NodeList, place_of}
use Rattle.doc_nodes.specs.Aliases.{aliases_at}
use Rattle.doc_nodes.specs.Heads.{head, heads}
use Rattle.doc_nodes.proofs.KnownHeads.{aliases_head, place_head}
use Rattle.editor_buffer.specs.Standing.{bare_all, aliases_named}

heads_bare : (nodes : NodeList) → heads (bare_all nodes) ≡ heads nodes
heads_bare [] = refl
heads_bare (x ∷ nodes) = ap (λ all. (x.0, head x.1) ∷ all) (heads_bare nodes)

-- nodes with the same headers have the same aliases
pub same_heads : (nodes others : NodeList) → heads nodes ≡ heads others → (p : ℕ) → aliases_at nodes p ≡ aliases_at others p
same_heads nodes others e p = sym (aliases_head p nodes) ∙ ap (λ all. aliases_at all p) e ∙ aliases_head p others

pub heads_along : (nodes others : NodeList) → bare_all nodes ≡ others → heads nodes ≡ heads others
heads_along nodes others e = sym (heads_bare nodes) ∙ ap heads e

-- the same by name
named_head : (nodes : NodeList) (name : List ℕ) → aliases_named (heads nodes) name ≡ aliases_named nodes name
named_head nodes name =
    ap (λ o. option_map (λ (p : ℕ). (aliases_at (heads nodes) p).pairs) o) (place_head nodes name) ∙ go (place_of nodes name)
  where
    go : (o : Option ℕ) → option_map (λ (p : ℕ). (aliases_at (heads nodes) p).pairs) o ≡ option_map (λ (p : ℕ). (aliases_at nodes p).pairs) o
    go None = refl
    go (Some p) = ap (λ (a : NodeAliases). Some a.pairs) (aliases_head p nodes)

pub same_named : (nodes others : NodeList) → heads nodes ≡ heads others → (name : List ℕ) → aliases_named nodes name ≡ aliases_named others name
same_named nodes others e name = sym (named_head nodes name) ∙ ap (λ all. aliases_named all name) e ∙ named_head others name
