-- What holds of the pairs of all headers holds of the aliases of each node.
use Rattle.std.proofs.Common.{◌≡◌, ℕ, zero, suc, ◌==◌, Bool, true, false, cond, List, [], ◌∷◌, map, find, Option, Some, None, option_map, refl, ap, ◌∙◌}
use Rattle.std.specs.List.{AllByRecursion, flat_map}
use Rattle.std.specs.Option.{option_map_or}
use Rattle.std.proofs.lemmas.Bool.{both_ways}
use Rattle.text_words.proofs.KnownLists.{each-both}
use Rattle.outer_syntax.specs.Words.{is_base_command}
use Rattle.shared_map.specs.Pairs.{found}
use Rattle.doc_nodes.specs.Looks.{aims_at}
use Rattle.doc_nodes.specs.declared.inherited.NodeAliases.{NodeAliases}
use Rattle.outer_syntax.specs.declared.parts.KeywordPair.{KeywordPair}
use Rattle.doc_nodes.specs.Aliases.{is_target, no_aliases, left_out, with_target, taken_in, folded, own_pairs, own_at, known, pairs_from, inherited, aliases_by, in_turn, aliases_at}
use Rattle.doc_nodes.specs.Imports.{NodeList, aims, is_ordered, order}
use Rattle.doc_nodes.specs.Names.{in_order, equal}
use Rattle.doc_nodes.proofs.KnownNames.{name_is}
use Rattle.buffer_rules.specs.Nodes.{uncut, uncut_all}
use Rattle.buffer_rules.specs.Sheets.{SheetList}
use Rattle.soundness_laws.specs.AliasNames.{IsAliasName}
use Rattle.soundness_laws.proofs.HeaderNames.{PairNamed, OneNamed, HeaderLaw, text_named}

abbrev AreNamed : List (List ℕ × List ℕ) → Type 0
AreNamed pairs = AllByRecursion PairNamed pairs

target_named : (a : NodeAliases) (pair : List ℕ × List ℕ) (o : Option (List ℕ)) → AreNamed a.pairs → PairNamed pair → AreNamed (with_target a pair o).pairs
target_named a pair None all one = each-both PairNamed a.pairs (pair ∷ []) all (one, tt)
target_named a pair (Some target) all one = go (equal pair.1 target)
  where
    go : (b : Bool) → AreNamed (cond b a (left_out a pair)).pairs
    go true = all
    go false = all

taken_named : (a : NodeAliases) (pair : List ℕ × List ℕ) → AreNamed a.pairs → PairNamed pair → AreNamed (taken_in a pair).pairs
taken_named a pair all one = go (is_target pair.1)
  where
    go : (b : Bool) → AreNamed (cond b (with_target a pair (found in_order pair.0 a.pairs)) (left_out a pair)).pairs
    go true = target_named a pair (found in_order pair.0 a.pairs) all one
    go false = all

folded_named : (a : NodeAliases) (pairs : List (List ℕ × List ℕ)) → AreNamed a.pairs → AreNamed pairs → AreNamed (folded a pairs).pairs
folded_named a [] all more = all
folded_named a (pair ∷ pairs) all more = folded_named (taken_in a pair) pairs (taken_named a pair all more.0) more.1

-- those that are known
abbrev AreKnown : List (ℕ × NodeAliases) → Type 0
AreKnown done = AllByRecursion (λ one. AreNamed one.1.pairs) done

known_named : (done : List (ℕ × NodeAliases)) (p : ℕ) → AreKnown done → AreNamed (known done p).pairs
known_named [] p all = tt
known_named (one ∷ done) p all = go (one.0 == p) (known_named done p all.1)
  where
    go : (b : Bool) → AreNamed (known done p).pairs
        → AreNamed (option_map_or (λ (d : ℕ × NodeAliases). d.1) (cond b (Some one) (find (λ d. d.0 == p) done)) no_aliases).pairs
    go true more = all.0
    go false more = more

from_named : (done : List (ℕ × NodeAliases)) (o : Option ℕ) → AreKnown done → AreNamed (pairs_from done o)
from_named done None all = tt
from_named done (Some p) all = known_named done p all

all_from : (done : List (ℕ × NodeAliases)) (aims : List (Option ℕ)) → AreKnown done → AreNamed (flat_map (pairs_from done) aims)
all_from done [] all = tt
all_from done (o ∷ aims) all = each-both PairNamed (pairs_from done o) (flat_map (pairs_from done) aims) (from_named done o all) (all_from done aims all)

inherited_named : (nodes : NodeList) (done : List (ℕ × NodeAliases)) (p : ℕ) → AreKnown done → AreNamed (inherited nodes done p)
inherited_named nodes done p all = go (is_ordered nodes p)
  where
    go : (b : Bool) → AreNamed (cond b (flat_map (pairs_from done) (aims_at (aims nodes) p)) [])
    go true = all_from done (aims_at (aims nodes) p) all
    go false = tt

-- the pairs of all headers
abbrev HeadersNamed : NodeList → Type 0
HeadersNamed nodes = AllByRecursion (λ pair. AreNamed (own_pairs pair.1)) nodes

own_named : (nodes : NodeList) (p : ℕ) → HeadersNamed nodes → AreNamed (own_at nodes p)
own_named [] p all = tt
own_named (pair ∷ nodes) zero all = all.0
own_named (pair ∷ nodes) (suc p) all = own_named nodes p all.1

turn_named : (nodes : NodeList) (ps : List ℕ) (done : List (ℕ × NodeAliases)) → HeadersNamed nodes → AreKnown done → AreKnown (in_turn nodes ps done)
turn_named nodes [] done headers all = all
turn_named nodes (p ∷ ps) done headers all =
    turn_named nodes ps ((p, aliases_by nodes done p) ∷ done) headers
    (folded_named no_aliases _ tt (each-both PairNamed (inherited nodes done p) (own_at nodes p) (inherited_named nodes done p all) (own_named nodes p headers)), all)

pairs_named : (keywords : List KeywordPair) → AllByRecursion OneNamed keywords → AreNamed (map (λ (pair : KeywordPair). (pair.name, pair.target)) keywords)
pairs_named [] all = tt
pairs_named (pair ∷ keywords) all = (all.0, pairs_named keywords all.1)

headers_named : HeaderLaw → (sheets : SheetList) → HeadersNamed (uncut_all sheets)
headers_named law [] = tt
headers_named law (pair ∷ sheets) = (pairs_named (uncut pair.1).keywords (text_named law pair.1.text), headers_named law sheets)

pub aliases_named : HeaderLaw → (sheets : SheetList) (p : ℕ) → AllByRecursion (λ pair. IsAliasName pair.0) (aliases_at (uncut_all sheets) p).pairs
aliases_named law sheets p =
    known_named (in_turn (uncut_all sheets) (order (uncut_all sheets)) []) p (turn_named (uncut_all sheets) (order (uncut_all sheets)) [] (headers_named law sheets) tt)

-- no pair has the name of a command of the language's own
unnamed_in : (pairs : List (List ℕ × List ℕ)) (name : List ℕ) → AreNamed pairs → is_base_command name ≡ true → found in_order name pairs ≡ None
unnamed_in [] name all base = refl
unnamed_in (pair ∷ pairs) name all base = go (equal pair.0 name) refl (unnamed_in pairs name all.1 base)
  where
    go : (b : Bool) → equal pair.0 name ≡ b → found in_order name pairs ≡ None → option_map (λ (q : List ℕ × List ℕ). q.1) (cond b (Some pair) (find (λ q. equal q.0 name) pairs)) ≡ None
    go true same later = absurd (both_ways (is_base_command pair.0) all.0.1 (ap is_base_command (name_is pair.0 name same) ∙ base))
    go false other later = later

pub aliases_unnamed : HeaderLaw → (sheets : SheetList) (p : ℕ) (name : List ℕ) → is_base_command name ≡ true → found in_order name (aliases_at (uncut_all sheets) p).pairs ≡ None
aliases_unnamed law sheets p name base = unnamed_in (aliases_at (uncut_all sheets) p).pairs name (aliases_named law sheets p) base
