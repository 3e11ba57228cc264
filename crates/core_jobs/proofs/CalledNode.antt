-- The node that is called by a name.
use Rattle.std.proofs.Common.{◌≡◌, ℕ, Bool, true, false, cond, not, List, [], ◌∷◌, ◌+◌, length, Some, None, refl, ap, ◌∙◌, arith}
use Rattle.std.proofs.lemmas.Bool.{ltb-true}
use Rattle.std.specs.Prelude.{find, nat_lt}
use Rattle.std.specs.List.{position_or_len}
use Rattle.doc_nodes.specs.Names.{equal}
use Rattle.doc_nodes.specs.Imports.{NodeList, place_of}

-- where nothing is found, none has a place
none_counts : {A : Type 0} (test : A → Bool) (xs : List A) → find test xs ≡ None → position_or_len test xs ≡ length xs
none_counts test [] at = refl
none_counts test (y ∷ xs) at = go (test y) refl at (none_counts test xs)
  where
    go : (b : Bool) → test y ≡ b → cond b (Some y) (find test xs) ≡ None → (find test xs ≡ None → position_or_len test xs ≡ length xs)
        → position_or_len test (y ∷ xs) ≡ length (y ∷ xs)
    go true is at rest = absurd (cc)
    go false is at rest = ap (λ b. cond (not b) (1 + position_or_len test xs) 0) is ∙ omega (arith, rest at)

pub none_placed : (nodes : NodeList) (name : List ℕ) → find (λ pair. equal pair.0 name) nodes ≡ None → place_of nodes name ≡ None
none_placed nodes name at =
    ap (λ n. cond (nat_lt n (length nodes)) (Some n) None) (none_counts (λ pair. equal pair.0 name) nodes at)
    ∙ ap (λ b. cond b (Some (length nodes)) None) (below (nat_lt (length nodes) (length nodes)) refl)
  where
    below : (b : Bool) → nat_lt (length nodes) (length nodes) ≡ b → b ≡ false
    below false is = refl
    below true is = absurd (omega (arith, ltb-true (length nodes) (length nodes) is))
