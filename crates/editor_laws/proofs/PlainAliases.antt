-- The names of aliases, and that of a bad pair, are plain where those of keyword pairs are.
use Rattle.std.proofs.Common.{ℕ, zero, suc, ◌==◌, Bool, true, false, cond, List, [], ◌∷◌, map, find}
use Rattle.std.proofs.Common.{Option, Some, None, IfSome}
use Rattle.std.specs.List.{AllByRecursion, flat_map}
use Rattle.std.specs.Option.{option_or, option_map_or}
use Rattle.text_words.proofs.KnownLists.{each-both}
use Rattle.shared_map.specs.Pairs.{found}
use Rattle.doc_nodes.specs.Looks.{aims_at}
use Rattle.outer_syntax.specs.declared.parts.KeywordPair.{KeywordPair}
use Rattle.doc_nodes.specs.declared.inherited.NodeAliases.{NodeAliases}
use Rattle.doc_nodes.specs.Aliases.{is_target, no_aliases, left_out, with_target, taken_in, folded}
use Rattle.doc_nodes.specs.Aliases.{own_at, known, pairs_from, inherited, aliases_by, in_turn}
use Rattle.doc_nodes.specs.Aliases.{aliases_at}
use Rattle.doc_nodes.specs.Imports.{NodeList, aims, is_ordered, order}
use Rattle.doc_nodes.specs.Names.{in_order, equal}
use Rattle.editor_laws.specs.Headed.{IsNamed, AreHeaded}
use Rattle.editor_laws.proofs.PlainTexts.{Plain, identifier_plain}

abbrev PairPlain : List ℕ × List ℕ → Type 0
PairPlain pair = Plain pair.0

abbrev PairsPlain : List (List ℕ × List ℕ) → Type 0
PairsPlain = AllByRecursion PairPlain

record IsPlain (a : NodeAliases) : Type 0 where
  pairs : PairsPlain a.pairs
  bad : IfSome a.bad Plain

left_plain : (a : NodeAliases) (pair : List ℕ × List ℕ) → IsPlain a → PairPlain pair
    → IsPlain (left_out a pair)
left_plain a pair is one = record { pairs = is.pairs; bad = go a.bad is.bad }
  where
    go : (o : Option (List ℕ)) → IfSome o Plain → IfSome (option_or o (Some pair.0)) Plain
    go None bad = one
    go (Some name) bad = bad

target_plain : (a : NodeAliases) (pair : List ℕ × List ℕ) (o : Option (List ℕ)) → IsPlain a
    → PairPlain pair → IsPlain (with_target a pair o)
target_plain a pair None is one =
    record { pairs = each-both PairPlain a.pairs (pair ∷ []) is.pairs (one, tt); bad = is.bad }
target_plain a pair (Some target) is one = go (equal pair.1 target)
  where
    go : (b : Bool) → IsPlain (cond b a (left_out a pair))
    go true = is
    go false = left_plain a pair is one

taken_plain : (a : NodeAliases) (pair : List ℕ × List ℕ) → IsPlain a → PairPlain pair
    → IsPlain (taken_in a pair)
taken_plain a pair is one = go (is_target pair.1)
  where
    go : (b : Bool)
        → IsPlain (cond b (with_target a pair (found in_order pair.0 a.pairs)) (left_out a pair))
    go true = target_plain a pair (found in_order pair.0 a.pairs) is one
    go false = left_plain a pair is one

folded_plain : (a : NodeAliases) (pairs : List (List ℕ × List ℕ)) → IsPlain a → PairsPlain pairs
    → IsPlain (folded a pairs)
folded_plain a [] is more = is
folded_plain a (pair ∷ pairs) is more =
    folded_plain (taken_in a pair) pairs (taken_plain a pair is more.0) more.1

none_plain : IsPlain no_aliases
none_plain = record { pairs = tt; bad = tt }

abbrev AreKnown : List (ℕ × NodeAliases) → Type 0
AreKnown done = AllByRecursion (λ one. IsPlain one.1) done

known_plain : (done : List (ℕ × NodeAliases)) (p : ℕ) → AreKnown done → IsPlain (known done p)
known_plain [] p all = none_plain
known_plain (one ∷ done) p all = go (one.0 == p) (known_plain done p all.1)
  where
    go : (b : Bool) → IsPlain (known done p)
        → IsPlain (option_map_or (λ (d : ℕ × NodeAliases). d.1)
        (cond b (Some one) (find (λ d. d.0 == p) done)) no_aliases)
    go true more = all.0
    go false more = more

from_plain : (done : List (ℕ × NodeAliases)) (o : Option ℕ) → AreKnown done
    → PairsPlain (pairs_from done o)
from_plain done None all = tt
from_plain done (Some p) all = (known_plain done p all).pairs

all_from : (done : List (ℕ × NodeAliases)) (aims : List (Option ℕ)) → AreKnown done
    → PairsPlain (flat_map (pairs_from done) aims)
all_from done [] all = tt
all_from done (o ∷ aims) all =
    each-both PairPlain (pairs_from done o) (flat_map (pairs_from done) aims)
    (from_plain done o all) (all_from done aims all)

inherited_plain : (nodes : NodeList) (done : List (ℕ × NodeAliases)) (p : ℕ) → AreKnown done
    → PairsPlain (inherited nodes done p)
inherited_plain nodes done p all = go (is_ordered nodes p)
  where
    go : (b : Bool) → PairsPlain (cond b (flat_map (pairs_from done) (aims_at (aims nodes) p)) [])
    go true = all_from done (aims_at (aims nodes) p) all
    go false = tt

keywords_plain : (keywords : List KeywordPair) → AllByRecursion IsNamed keywords
    → PairsPlain (map (λ (pair : KeywordPair). (pair.name, pair.target)) keywords)
keywords_plain [] all = tt
keywords_plain (pair ∷ keywords) all =
    (identifier_plain pair.name all.0, keywords_plain keywords all.1)

own_plain : (nodes : NodeList) (p : ℕ) → AreHeaded nodes → PairsPlain (own_at nodes p)
own_plain [] p all = tt
own_plain (pair ∷ nodes) zero all = keywords_plain pair.1.keywords all.0.keywords_are
own_plain (pair ∷ nodes) (suc p) all = own_plain nodes p all.1

turn_plain : (nodes : NodeList) (ps : List ℕ) (done : List (ℕ × NodeAliases)) → AreHeaded nodes
    → AreKnown done → AreKnown (in_turn nodes ps done)
turn_plain nodes [] done headed all = all
turn_plain nodes (p ∷ ps) done headed all =
    turn_plain nodes ps ((p, aliases_by nodes done p) ∷ done) headed (
      folded_plain no_aliases _ none_plain
          (each-both PairPlain (inherited nodes done p) (own_at nodes p)
          (inherited_plain nodes done p all) (own_plain nodes p headed)),
      all,
    )

pub bad_plain : (nodes : NodeList) (p : ℕ) → AreHeaded nodes → IfSome (aliases_at nodes p).bad Plain
bad_plain nodes p headed =
    (known_plain (in_turn nodes (order nodes) []) p
    (turn_plain nodes (order nodes) [] headed tt)).bad
