-- The nodes that are cut, by place.
use Rattle.std.proofs.Common.{◌≡◌, ℕ, zero, suc, ◌+◌, List, [], ◌∷◌, length, map, Option, Some, refl, sym, ap, subst, ◌∙◌, arith}
use Rattle.std.specs.Prelude.{slice_get}
use Rattle.std.specs.List.{AllByRecursion}
use Rattle.std.specs.Option.{option_map}
use Rattle.doc_nodes.specs.declared.node.Node.{Node}
use Rattle.doc_nodes.specs.Aliases.{aliases_at}
use Rattle.doc_nodes.specs.Imports.{NodeList}
use Rattle.core_rules.specs.Updates.{AreRising}
use Rattle.buffer_rules.specs.Nodes.{nodes_from, ranges_in, sources, uncut, uncut_all}
use Rattle.buffer_rules.specs.Numbers.{new_count}
use Rattle.node_check.specs.Nodes.{cut_under, sheet_of}
use Rattle.node_check.specs.Walking.{LiesIn}
use Rattle.node_check.proofs.KnownCut.{AreCounted, ranges_are}
use Rattle.node_check.proofs.KnownRanges.{lie_within}
use Rattle.doc_nodes.specs.Heads.{head, heads}
use Rattle.pide_build.specs.Cutting.{AreUncut, cut_all, sheets_of}

-- some of the nodes, from a place on, cut under the aliases of all
abbrev cut_from : NodeList → ℕ → NodeList → ℕ → NodeList
cut_from all q nodes next = (nodes_from [] all q (sheets_of nodes) next).nodes

-- the id behind those of the first of them
abbrev then : NodeList → ℕ → Node → ℕ → ℕ
then all q node next = next + new_count [] (sources (sheet_of node) (aliases_at all q).pairs)

-- the node at a place, when its first command has this id
abbrev made_at : NodeList → ℕ → List ℕ × Node → ℕ → List ℕ × Node
made_at all q pair first = (pair.0, cut_under pair.1 (aliases_at all q).pairs first)

there : (all : NodeList) (q : ℕ) (nodes : NodeList) (next p : ℕ) (pair made : List ℕ × Node) → slice_get nodes p ≡ Some pair
    → slice_get (cut_from all q nodes next) p ≡ Some made → (first : ℕ) × (made ≡ made_at all (q + p) pair first)
there all q [] next p pair made here at = absurd (cc)
there all q (one ∷ nodes) next zero pair made here at =
    let same : one ≡ pair = cc in
    let is : made_at all q one next ≡ made = cc in
    let place : q ≡ q + 0 = omega arith in
    (next, sym is ∙ ap (λ x. made_at all q x next) same ∙ ap (λ n. made_at all n pair next) place)
there all q (one ∷ nodes) next (suc p) pair made here at =
    let rest = there all (q + 1) nodes (then all q one.1 next) p pair made here at in
    let place : q + 1 + p ≡ q + suc p = omega arith in
    (rest.0, rest.1 ∙ ap (λ n. made_at all n pair rest.0) place)

-- they have the headers of their texts
heads_from : (all : NodeList) (q : ℕ) (nodes : NodeList) (next : ℕ) → heads (cut_from all q nodes next) ≡ heads (uncut_all (sheets_of nodes))
heads_from all q [] next = refl
heads_from all q (one ∷ nodes) next =
    ap (λ more. (one.0, head (uncut (sheet_of one.1))) ∷ more) (heads_from all (q + 1) nodes (then all q one.1 next))

-- as many as before
length_from : (all : NodeList) (q : ℕ) (nodes : NodeList) (next : ℕ) → length (cut_from all q nodes next) ≡ length nodes
length_from all q [] next = refl
length_from all q (one ∷ nodes) next = ap suc (length_from all (q + 1) nodes (then all q one.1 next))

-- where commands rise within texts, those of the node at a place do
abbrev Rises : List ℕ × Node → Type 0
Rises pair = AreRising 0 (length pair.1.text) pair.1.entries

rises : (all : NodeList) (q : ℕ) (nodes : NodeList) (next p : ℕ) (pair : List ℕ × Node) → AllByRecursion Rises (cut_from all q nodes next)
    → slice_get nodes p ≡ Some pair → (first : ℕ) × Rises (made_at all (q + p) pair first)
rises all q [] next p pair each here = absurd (cc)
rises all q (one ∷ nodes) next zero pair each here =
    let same : one ≡ pair = cc in
    let place : q ≡ q + 0 = omega arith in
    (next, subst (λ n. Rises (made_at all n pair next)) place (subst (λ x. Rises (made_at all q x next)) same each.0))
rises all q (one ∷ nodes) next (suc p) pair each here =
    let rest = rises all (q + 1) nodes (then all q one.1 next) p pair each.1 here in
    let place : q + 1 + p ≡ q + suc p = omega arith in
    (rest.0, subst (λ n. Rises (made_at all n pair rest.0)) place rest.1)

-- a node that is not cut has the header of its text
header_at : (nodes more : NodeList) (p : ℕ) (pair : List ℕ × Node) → nodes ≡ uncut_all (sheets_of more) → slice_get more p ≡ Some pair
    → slice_get nodes p ≡ Some (pair.0, uncut (sheet_of pair.1))
header_at nodes more p pair uncut_so here = ap (λ ns. slice_get ns p) uncut_so ∙ go more p here
  where
    go : (ns : NodeList) (p : ℕ) → slice_get ns p ≡ Some pair → slice_get (uncut_all (sheets_of ns)) p ≡ Some (pair.0, uncut (sheet_of pair.1))
    go [] p here = absurd (cc)
    go (one ∷ ns) zero here = let same : one ≡ pair = cc in ap (λ (x : List ℕ × Node). Some (x.0, uncut (sheet_of x.1))) same
    go (one ∷ ns) (suc p) here = go ns p here

module _ (nodes : NodeList) (uncut_so : AreUncut nodes) where
  -- cutting goes by the aliases of the nodes themselves
  pub cut_there : (p : ℕ) (pair made : List ℕ × Node) → slice_get nodes p ≡ Some pair → slice_get (cut_all nodes) p ≡ Some made
      → (first : ℕ) × (made ≡ made_at nodes p pair first)
  cut_there p pair made here at =
      let is = there nodes 0 nodes 1 p pair made here (ap (λ all. slice_get (cut_from all 0 nodes 1) p) uncut_so ∙ at) in
      let place : 0 + p ≡ p = omega arith in
      (is.0, is.1 ∙ ap (λ n. made_at nodes n pair is.0) place)

  pub heads_are : heads nodes ≡ heads (cut_all nodes)
  heads_are = ap heads uncut_so ∙ sym (heads_from (uncut_all (sheets_of nodes)) 0 nodes 1)

  pub as_many : length (cut_all nodes) ≡ length nodes
  as_many = length_from (uncut_all (sheets_of nodes)) 0 nodes 1

  pub imports_are : (p : ℕ) (pair : List ℕ × Node) → slice_get nodes p ≡ Some pair → pair.1.imports ≡ (uncut (sheet_of pair.1)).imports
  imports_are p pair here =
      let both : Some pair ≡ Some (pair.0, uncut (sheet_of pair.1)) = sym here ∙ header_at nodes nodes p pair uncut_so here in
      let same : pair ≡ (pair.0, uncut (sheet_of pair.1)) = cc in
      ap (λ (x : List ℕ × Node). x.1.imports) same

  -- its commands lie in its text
  pub lie_there : AreCounted → AllByRecursion Rises (cut_all nodes) → (p : ℕ) (pair : List ℕ × Node) → slice_get nodes p ≡ Some pair
      → AllByRecursion (LiesIn (length pair.1.text)) (ranges_in (sheet_of pair.1) (aliases_at nodes p).pairs)
  lie_there counted each p pair here =
      let rise = rises nodes 0 nodes 1 p pair (subst (λ all. AllByRecursion Rises (cut_from all 0 nodes 1)) (sym uncut_so) each) here in
      let place : 0 + p ≡ p = omega arith in
      subst (AllByRecursion (LiesIn (length pair.1.text))) (ranges_are counted pair.1 (aliases_at nodes p).pairs rise.0)
      (lie_within 0 (length pair.1.text) (cut_under pair.1 (aliases_at nodes p).pairs rise.0).entries
      (subst (λ n. Rises (made_at nodes n pair rise.0)) place rise.1))
