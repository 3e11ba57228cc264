-- The aliases that were found so far, by place.
use Rattle.std.specs.Prelude.{◌≡◌, ℕ, List, slice_index_or, None}
use Rattle.doc_nodes.specs.declared.inherited.NodeAliases.{NodeAliases}
use Rattle.doc_nodes.specs.Aliases.{no_aliases, folded, known}

-- folding them anew changes nothing: their names are different and their targets good
abbrev pub IsClean : NodeAliases → Type 0
IsClean a = folded no_aliases a.pairs ≡ record { pairs = a.pairs; bad = None }

-- these are the aliases known for each place, and no others
pub record AreKnown (all : List NodeAliases) (done : List (ℕ × NodeAliases)) : Type 0 where
  pub are : (p : ℕ) → slice_index_or all p no_aliases ≡ known done p
  pub clean : (p : ℕ) → IsClean (known done p)
