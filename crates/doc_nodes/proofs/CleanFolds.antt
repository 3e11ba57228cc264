-- A fold keeps a list of aliases clean.
use Rattle.std.proofs.Common.{◌≡◌, ℕ, ◌+◌, ◌<◌, Bool, true, false, cond, List, [], ◌∷◌, ◌++◌, length, get_or, take, Option, Some, None, refl, sym, ap, ◌∙◌}
use Rattle.std.specs.List.{flat_map}
use Rattle.shared_map.specs.Pairs.{found}
use Rattle.doc_nodes.specs.Names.{in_order, equal}
use Rattle.doc_nodes.specs.declared.inherited.NodeAliases.{NodeAliases}
use Rattle.doc_nodes.specs.Aliases.{is_target, no_aliases, left_out, with_target, taken_in, folded, pairs_from}
use Rattle.doc_nodes.specs.Known.{IsClean}
use Rattle.doc_nodes.proofs.Lists.{flat_map_more}

pub folded-append : (xs ys : List (List ℕ × List ℕ)) (a : NodeAliases) → folded a (xs ++ ys) ≡ folded (folded a xs) ys
folded-append [] ys a = refl
folded-append (x ∷ xs) ys a = folded-append xs ys (taken_in a x)

-- one import more
pub folded_import : (done : List (ℕ × NodeAliases)) (aims : List (Option ℕ)) (i : ℕ) (before now : NodeAliases) → i < length aims
    → before ≡ folded no_aliases (flat_map (pairs_from done) (take i aims)) → now ≡ folded before (pairs_from done (get_or aims i None))
    → now ≡ folded no_aliases (flat_map (pairs_from done) (take (i + 1) aims))
folded_import done aims i before now lt was step =
    step
    ∙ ap (λ a. folded a (pairs_from done (get_or aims i None))) was
    ∙ sym (folded-append (flat_map (pairs_from done) (take i aims)) (pairs_from done (get_or aims i None)) no_aliases)
    ∙ ap (folded no_aliases) (sym (flat_map_more (pairs_from done) aims i None lt))

-- a clean list of aliases stays clean with one pair more, and with any pairs more
clean_taken : (a : NodeAliases) (pair : List ℕ × List ℕ) → IsClean a → IsClean (taken_in a pair)
clean_taken a pair clean = go (is_target pair.1) refl (found in_order pair.0 a.pairs) refl
  where
    bare : NodeAliases
    bare = record { pairs = a.pairs; bad = None }

    kept : (b : Bool) → IsClean (cond b a (left_out a pair))
    kept true = clean
    kept false = clean

    go : (good : Bool) → is_target pair.1 ≡ good → (o : Option (List ℕ)) → found in_order pair.0 a.pairs ≡ o → IsClean (cond good (with_target a pair o) (left_out a pair))
    go false g o f = clean
    go true g (Some target) f = kept (equal pair.1 target)
    go true g None f =
        folded-append a.pairs (pair ∷ []) no_aliases
        ∙ ap (λ (b : NodeAliases). taken_in b pair) clean
        ∙ ap (λ b. cond b (with_target (record { pairs = a.pairs; bad = None }) pair (found in_order pair.0 a.pairs)) (left_out (record { pairs = a.pairs; bad = None }) pair)) g
        ∙ ap (with_target (record { pairs = a.pairs; bad = None }) pair) f

pub clean_folded : (pairs : List (List ℕ × List ℕ)) (a : NodeAliases) → IsClean a → IsClean (folded a pairs)
clean_folded [] a clean = clean
clean_folded (pair ∷ pairs) a clean = clean_folded pairs (taken_in a pair) (clean_taken a pair clean)
