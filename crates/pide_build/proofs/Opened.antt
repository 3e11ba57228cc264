-- The nodes of theories, one after the other in the order of names.
use Rattle.std.proofs.Common.{◌≡◌, ℕ, cond, List, [], ◌∷◌, ◌++◌, append_assoc, append-nil, sym, refl, ap, subst, ◌∙◌}
use Rattle.std.specs.Ordering.{is_gt, is_lt}
use Rattle.std.specs.declared.cmp.Ordering.TheVariants.{Less}
use Rattle.shared_map.specs.Changes.{put}
use Rattle.shared_map.specs.Cuts.{at_key, before, behind}
use Rattle.shared_map.specs.Pairs.{Each, IsSorted}
use Rattle.shared_map.proofs.KnownSorted.{fork_of}
use Rattle.doc_nodes.specs.declared.node.Node.{Node}
use Rattle.doc_nodes.specs.Imports.{NodeList}
use Rattle.doc_nodes.specs.Names.{in_order}
use Rattle.buffer_rules.specs.Nodes.{nodes_after, uncut, uncut_all}
use Rattle.pide_build.specs.Cutting.{AreUncut, cut_all, sheets_of as sheets_in}
use Rattle.pide_build.specs.Documents.{nodes_of, sheet_of, sheets_of}
use Rattle.pide_build.specs.Theories.{TheoryList}

-- the nodes of theories, before they are cut
abbrev pub uncut_of : TheoryList → NodeList
uncut_of theories = uncut_all (sheets_of theories)

module _ (name : List ℕ) where
  abbrev AreSmaller : NodeList → Type 0
  AreSmaller pairs = Each (λ p. in_order p.0 name ≡ Less) pairs

  all_before : (pairs : NodeList) → AreSmaller pairs → before (at_key in_order name) pairs ≡ pairs
  all_before [] smaller = refl
  all_before (p ∷ ps) smaller =
      ap (λ o. cond (is_lt o) (p ∷ before (at_key in_order name) ps) (before (at_key in_order name) ps)) smaller.0
      ∙ ap (λ xs. p ∷ xs) (all_before ps smaller.1)

  none_behind : (pairs : NodeList) → AreSmaller pairs → behind (at_key in_order name) pairs ≡ []
  none_behind [] smaller = refl
  none_behind (p ∷ ps) smaller =
      ap (λ o. cond (is_gt o) (p ∷ behind (at_key in_order name) ps) (behind (at_key in_order name) ps)) smaller.0
      ∙ none_behind ps smaller.1

  -- a node behind all others is put there
  put_last : (node : Node) (pairs : NodeList) → AreSmaller pairs → put in_order (name, node) pairs ≡ pairs ++ (name, node) ∷ []
  put_last node pairs smaller =
      ap (λ xs. xs ++ (name, node) ∷ behind (at_key in_order name) pairs) (all_before pairs smaller)
      ∙ ap (λ xs. pairs ++ (name, node) ∷ xs) (none_behind pairs smaller)

  smaller_nodes : (ts : TheoryList) → Each (λ t. in_order t.0 name ≡ Less) ts → AreSmaller (uncut_of ts)
  smaller_nodes [] smaller = tt
  smaller_nodes (t ∷ ts) smaller = (smaller.0, smaller_nodes ts smaller.1)

both : (done more : TheoryList) → uncut_of (done ++ more) ≡ uncut_of done ++ uncut_of more
both [] more = refl
both (t ∷ done) more = ap (λ all. (t.0, uncut (sheet_of t.1)) ∷ all) (both done more)

-- the nodes of the theories before the rest
pub record AreOpened (all rest : TheoryList) (nodes : NodeList) : Type 0 where
  pub done : TheoryList
  pub parts : all ≡ done ++ rest
  pub are : nodes ≡ uncut_of done
  pub sorted : IsSorted in_order all

pub one_opened : (all rest more : TheoryList) (nodes new : NodeList) (t : List ℕ × List ℕ) → AreOpened all rest nodes → rest ≡ t ∷ more
    → new ≡ put in_order (t.0, uncut (sheet_of t.1)) nodes → AreOpened all more new
one_opened all rest more nodes new t opened cut put_so =
    let parts : all ≡ opened.done ++ t ∷ more = opened.parts ∙ ap (λ xs. opened.done ++ xs) cut in
    let smaller = (fork_of in_order all opened.done t more parts opened.sorted).smaller in
    record {
      done = opened.done ++ t ∷ [];
      parts = parts ∙ sym (append_assoc opened.done (t ∷ []) more);
      are = put_so ∙ ap (put in_order (t.0, uncut (sheet_of t.1))) opened.are
          ∙ put_last t.0 (uncut (sheet_of t.1)) (uncut_of opened.done) (smaller_nodes t.0 opened.done smaller)
          ∙ sym (both opened.done (t ∷ []));
      sorted = opened.sorted;
    }

pub all_opened : (all rest : TheoryList) (nodes : NodeList) → AreOpened all rest nodes → rest ≡ [] → nodes ≡ uncut_of all
all_opened all rest nodes opened none =
    opened.are ∙ ap uncut_of (sym (opened.parts ∙ ap (λ xs. opened.done ++ xs) none ∙ append-nil opened.done))

-- their texts are those of the theories
texts_are : (ts : TheoryList) → sheets_in (uncut_of ts) ≡ sheets_of ts
texts_are [] = refl
texts_are (t ∷ ts) = ap (λ all. (t.0, sheet_of t.1) ∷ all) (texts_are ts)

pub are_uncut : (ts : TheoryList) → AreUncut (uncut_of ts)
are_uncut ts = sym (ap uncut_all (texts_are ts))

-- so once they are cut they are the nodes of the document
pub cut_so : (ts : TheoryList) → cut_all (uncut_of ts) ≡ nodes_of ts
cut_so ts = ap (λ sheets. (nodes_after [] sheets 1).nodes) (texts_are ts)
