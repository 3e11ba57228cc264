-- A body whose children are read from the last.
use Rattle.std.proofs.Common.{◌≡◌, ◌≢◌, ℕ, ◌+◌, List, [], ◌∷◌, ◌++◌, length, Option, Some, None, sym, ap, ◌∙◌, append_assoc, reverse, arith}
use Rattle.yxml.specs.declared.tree.Tree.{Tree}
use Rattle.xml_codec.specs.Data.{node, list_body}

-- what stands behind the nodes that are read: nothing, or the child at this place, which is no node
abbrev pub IsBehind : Option ℕ → List Tree → ℕ → Type 0
IsBehind None behind here = behind ≡ []
IsBehind (Some place) [] here = ⊥
IsBehind (Some place) (child ∷ behind) here = ((inside : List Tree) → child ≢ node inside) × (place ≡ here)

pub record Read (whole left : List Tree) (reversed : List (List Tree)) (wrong : Option ℕ) : Type 0 where
  pub behind : List Tree
  pub parts : whole ≡ left ++ (list_body (reverse reversed) ++ behind)
  pub is_behind : IsBehind wrong behind (length left + length reversed)

-- the last child is no node, so what is read of the others does not matter
pub read_other : (whole left front : List Tree) (child : Tree) (reversed none : List (List Tree)) (wrong : Option ℕ) (place : ℕ)
    → Read whole left reversed wrong → left ≡ front ++ child ∷ [] → ((inside : List Tree) → child ≢ node inside) → none ≡ [] → place ≡ length front
    → Read whole front none (Some place)
read_other whole left front child reversed none wrong place r last other empty at = record {
  behind = child ∷ (list_body (reverse reversed) ++ r.behind);
  parts = r.parts ∙ ap (λ ts. ts ++ (list_body (reverse reversed) ++ r.behind)) last ∙ append_assoc front (child ∷ []) _
      ∙ ap (λ ns. front ++ (list_body (reverse ns) ++ child ∷ (list_body (reverse reversed) ++ r.behind))) (sym empty);
  is_behind = (other, at ∙ omega (arith, ap length empty));
}
