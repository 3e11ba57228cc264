-- The aliases that are in force are tidy: in order, each once, and with a target.
use Rattle.std.proofs.Common.{◌≡◌, inl, inr, ℕ, eqb, Bool, true, false, cond, List, [], ◌∷◌, ◌++◌, Option, Some, None, refl, ap, ◌∙◌, append-nil}
use Rattle.std.specs.Prelude.{find}
use Rattle.std.specs.Option.{option_map_or}
use Rattle.shared_map.specs.Pairs.{found}
use Rattle.doc_nodes.proofs.KnownRounds.{cut}
use Rattle.doc_nodes.specs.declared.inherited.NodeAliases.{NodeAliases}
use Rattle.doc_nodes.specs.Names.{in_order, equal}
use Rattle.doc_nodes.specs.Imports.{NodeList, order}
use Rattle.doc_nodes.specs.Aliases.{is_target, no_aliases, left_out, with_target, taken_in, folded, known, own_at, inherited, aliases_by, in_turn, aliases_at}

-- each pair stands for a target, and none before it has its name
abbrev IsTidy : List (List ℕ × List ℕ) → Type 0
IsTidy pairs = (front rest : List (List ℕ × List ℕ)) (pair : List ℕ × List ℕ) → pairs ≡ front ++ pair ∷ rest
    → (is_target pair.1 ≡ true) × (found in_order pair.0 front ≡ None)

tidy_none : IsTidy []
tidy_none [] rest pair e = absurd (cc)
tidy_none (x ∷ front) rest pair e = absurd (cc)

tidy_added : (pairs : List (List ℕ × List ℕ)) (new : List ℕ × List ℕ) → IsTidy pairs → is_target new.1 ≡ true → found in_order new.0 pairs ≡ None → IsTidy (pairs ++ new ∷ [])
tidy_added pairs new tidy good none front rest pair e = elim (cut pairs (new ∷ []) front pair rest e) [
  | inl c ↦ tidy front c.0 pair c.1
  | inr c ↦ last c.0 c.1 c.2
]
  where
    last : (f : List (List ℕ × List ℕ)) → front ≡ pairs ++ f → new ∷ [] ≡ f ++ pair ∷ rest → (is_target pair.1 ≡ true) × (found in_order pair.0 front ≡ None)
    last [] at is =
        let same : pair ≡ new = cc in
        let whole : front ≡ pairs = at ∙ append-nil pairs in (
          ap (λ (one : List ℕ × List ℕ). is_target one.1) same ∙ good,
          ap (λ (one : List ℕ × List ℕ). found in_order one.0 front) same ∙ ap (found in_order new.0) whole ∙ none,
        )
    last (x ∷ []) at is = absurd (cc)
    last (x ∷ y ∷ f) at is = absurd (cc)

tidy_taken : (a : NodeAliases) (pair : List ℕ × List ℕ) → IsTidy a.pairs → IsTidy (taken_in a pair).pairs
tidy_taken a pair tidy = go (is_target pair.1) refl (found in_order pair.0 a.pairs) refl
  where
    kept : (b : Bool) → IsTidy (cond b a (left_out a pair)).pairs
    kept true = tidy
    kept false = tidy

    go : (good : Bool) → is_target pair.1 ≡ good → (o : Option (List ℕ)) → found in_order pair.0 a.pairs ≡ o → IsTidy (cond good (with_target a pair o) (left_out a pair)).pairs
    go false g o f = tidy
    go true g (Some target) f = kept (equal pair.1 target)
    go true g None f = tidy_added a.pairs pair tidy g f

tidy_folded : (pairs : List (List ℕ × List ℕ)) (a : NodeAliases) → IsTidy a.pairs → IsTidy (folded a pairs).pairs
tidy_folded [] a tidy = tidy
tidy_folded (pair ∷ pairs) a tidy = tidy_folded pairs (taken_in a pair) (tidy_taken a pair tidy)

tidy_turns : (nodes : NodeList) (ps : List ℕ) (done : List (ℕ × NodeAliases)) → ((q : ℕ) → IsTidy (known done q).pairs) → (q : ℕ) → IsTidy (known (in_turn nodes ps done) q).pairs
tidy_turns nodes [] done tidy q = tidy q
tidy_turns nodes (p ∷ ps) done tidy q = tidy_turns nodes ps ((p, aliases_by nodes done p) ∷ done) (λ r. now r (eqb p r)) q
  where
    now : (r : ℕ) (b : Bool) → IsTidy (option_map_or (λ (one : ℕ × NodeAliases). one.1) (cond b (Some (p, aliases_by nodes done p)) (find (λ (one : ℕ × NodeAliases). eqb one.0 r) done)) no_aliases).pairs
    now r true = tidy_folded (inherited nodes done p ++ own_at nodes p) no_aliases tidy_none
    now r false = tidy r

pub aliases_tidy : (nodes : NodeList) (p : ℕ) → IsTidy (aliases_at nodes p).pairs
aliases_tidy nodes p = tidy_turns nodes (order nodes) [] (λ q. tidy_none) p
