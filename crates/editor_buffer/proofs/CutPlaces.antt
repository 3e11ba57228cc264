-- The beginning, each place and the end of cutting.
use Rattle.std.proofs.Common.{◌≡◌, ℕ, zero, suc, ◌+◌, ◌<◌, true, false, List, [], ◌∷◌, ◌++◌, length, Some, refl, sym, ap, subst, ◌∙◌, arith}
use Rattle.std.specs.Prelude.{slice_get}
use Rattle.std.specs.List.{AllZip}
use Rattle.std.specs.Cmp.Lexicographic.{nat_list_cmp_total}
use Rattle.std.proofs.lemmas.List.{append-nil, length-append, length-map, nil_from_length}
use Rattle.shared_map.specs.Pairs.{IsSorted, found}
use Rattle.shared_map.specs.Changes.{put}
use Rattle.doc_nodes.specs.declared.node.Node.{Node}
use Rattle.doc_nodes.specs.Names.{in_order}
use Rattle.doc_nodes.specs.Imports.{NodeList}
use Rattle.doc_nodes.specs.Aliases.{aliases_at}
use Rattle.buffer_rules.specs.Sheets.{SheetList}
use Rattle.buffer_rules.specs.Nodes.{AreKept, Numbered, uncut_all, nodes_from}
use Rattle.editor_buffer.specs.OpenSheet.{OpenSheet}
use Rattle.editor_buffer.specs.Standing.{OpenList, sheets_of, bare_all, Stands, AreInForce, Drafted, aliases_named}
use Rattle.editor_buffer.proofs.Places.{each_along}
use Rattle.doc_nodes.specs.Heads.{heads}
use Rattle.editor_buffer.proofs.BareNodes.{same_named, heads_along}
use Rattle.editor_buffer.proofs.FirstDraft.{bare_standing}
use Rattle.editor_buffer.proofs.PairLists.{AllZip-length, put_at}
use Rattle.editor_buffer.specs.Cutting.{IsCutTo, IsPut, IsCutUpTo, IsCutWhole}
use Rattle.editor_buffer.specs.declared.cutting.Cutting.{Cutting}
use Rattle.editor_buffer.specs.declared.cutting.Remade.{Remade}
use Rattle.editor_buffer.proofs.CutSteps.{cut_one}

pub length_sheets : (opened : OpenList) → length (sheets_of opened) ≡ length opened
length_sheets opened = length-map opened (λ (p : List ℕ × OpenSheet). (p.0, p.1.sheet))

slice_behind : {X : Type 0} (l : List X) (x : X) (r : List X) (n : ℕ) → length l ≡ n → slice_get (l ++ x ∷ r) n ≡ Some x
slice_behind [] x r zero e = refl
slice_behind [] x r (suc n) e = absurd (omega arith)
slice_behind (y ∷ l) x r zero e = absurd (omega arith)
slice_behind (y ∷ l) x r (suc n) e = slice_behind l x r n (omega arith)

-- what stands at the place, and behind it
pub record IsHere (tip : NodeList) (c : Cutting) (place : ℕ) (rest_open : OpenList) (rest : NodeList) : Type 0 where
  pub opened : List ℕ × OpenSheet
  pub open_more : OpenList
  pub node : List ℕ × Node
  pub more : NodeList
  pub open_is : rest_open ≡ opened ∷ open_more
  pub node_is : rest ≡ node ∷ more
  pub open_at : slice_get c.opened place ≡ Some opened
  pub node_at : slice_get c.nodes place ≡ Some node
  pub drafted : Drafted tip opened node

module _ (tip : NodeList) (sheets : SheetList) (first place : ℕ) (c : Cutting) (is : IsCutUpTo tip sheets first place c) where
  fronts : length is.front_open ≡ place
  fronts = AllZip-length Stands is.front_open is.front is.done ∙ is.place_is

  here_of : (ro : OpenList) (rn : NodeList) → is.rest_open ≡ ro → is.rest ≡ rn → AllZip (Drafted tip) ro rn → place < length c.opened
      → IsHere tip c place ro rn
  here_of [] rn e f all within = absurd (omega (arith, ap length (is.open_is ∙ ap (λ os. is.front_open ++ os) e ∙ append-nil is.front_open), fronts))
  here_of (o ∷ os) [] e f all within = absurd all
  here_of (o ∷ os) (n ∷ ns) e f all within = record {
    opened = o;
    open_more = os;
    node = n;
    more = ns;
    open_is = refl;
    node_is = refl;
    open_at = ap (λ (l : OpenList). slice_get l place) (is.open_is ∙ ap (λ l. is.front_open ++ l) e) ∙ slice_behind is.front_open o os place fronts;
    node_at = ap (λ (l : NodeList). slice_get l place) (is.nodes_is ∙ ap (λ l. is.front ++ l) f) ∙ slice_behind is.front n ns place is.place_is;
    drafted = all.0;
  }

  pub here : place < length c.opened → IsHere tip c place is.rest_open is.rest
  here within = here_of is.rest_open is.rest refl refl is.drafted within

  -- where the node at the place stays
  pub step_stay : (at : IsHere tip c place is.rest_open is.rest) (d : Cutting)
      → IsCutTo tip at.opened.0 at.opened.1 (aliases_at (uncut_all sheets) place).pairs c.next at.node.1 c.next
      → at.opened.1.cut_under ≡ Some (aliases_at (uncut_all sheets) place).pairs → found in_order at.opened.0 tip ≡ Some at.node.1
      → d.opened ≡ c.opened → d.nodes ≡ c.nodes → d.next ≡ c.next → d.untouched.items ≡ c.untouched.items ++ true ∷ []
      → IsCutUpTo tip sheets first (place + 1) d
  step_stay at d to under there opens nodes next marks =
      let name = at.opened.0 in
      let To : ℕ → Type 0 = λ n. IsCutTo tip name at.opened.1 (aliases_at (uncut_all sheets) place).pairs c.next at.node.1 n in
      let Sorted : OpenList → Type 0 = IsSorted in_order in
      let Rising : NodeList → Type 0 = IsSorted in_order in
      let node_at : is.rest ≡ (name, at.node.1) ∷ at.more =
      at.node_is ∙ ap (λ k. let one : List ℕ × Node = (k, at.node.1) in one ∷ at.more) (sym at.drafted.0) in
      cut_one tip sheets first place c d is name at.opened.1 at.opened.1 at.node.1 at.node.1 at.open_more at.more true
      at.open_is node_at (subst To (sym next) to)
      (ap (λ u. let o : OpenSheet = record { sheet = at.opened.1.sheet; cut_under = u } in o) under)
      (opens ∙ is.open_is ∙ ap (λ os. is.front_open ++ os) at.open_is)
      (nodes ∙ is.nodes_is ∙ ap (λ ns. is.front ++ ns) node_at)
      (subst Sorted (sym opens) is.sorted_open) (subst Rising (sym nodes) is.sorted) marks (λ t. there) (omega (arith, next, is.least))

  -- where it is cut
  pub step_put : (at : IsHere tip c place is.rest_open is.rest) (made : Remade) (d : Cutting)
      → IsCutTo tip at.opened.0 at.opened.1 (aliases_at (uncut_all sheets) place).pairs c.next made.node made.next
      → made.opened ≡ record { sheet = at.opened.1.sheet; cut_under = Some (aliases_at (uncut_all sheets) place).pairs }
      → IsPut c at.opened.0 made d → IsCutUpTo tip sheets first (place + 1) d
  step_put at made d to open_to to_put =
      let name = at.opened.0 in
      let To : ℕ → Type 0 = λ n. IsCutTo tip name at.opened.1 (aliases_at (uncut_all sheets) place).pairs c.next made.node n in
      let node_at : is.rest ≡ (name, at.node.1) ∷ at.more =
      at.node_is ∙ ap (λ k. let one : List ℕ × Node = (k, at.node.1) in one ∷ at.more) (sym at.drafted.0) in
      let opens : c.opened ≡ is.front_open ++ at.opened ∷ at.open_more = is.open_is ∙ ap (λ os. is.front_open ++ os) at.open_is in
      let nodes : c.nodes ≡ is.front ++ (name, at.node.1) ∷ at.more = is.nodes_is ∙ ap (λ ns. is.front ++ ns) node_at in
      cut_one tip sheets first place c d is name at.opened.1 made.opened at.node.1 made.node at.open_more at.more false
      at.open_is node_at (subst To (sym to_put.next_is) to) open_to
      (to_put.open_is ∙ ap (put in_order (name, made.opened)) opens
      ∙ put_at nat_list_cmp_total is.front_open at.opened made.opened at.open_more (subst (IsSorted in_order) opens is.sorted_open))
      (to_put.nodes_are ∙ ap (put in_order (name, made.node)) nodes
      ∙ put_at nat_list_cmp_total is.front (name, at.node.1) made.node at.more (subst (IsSorted in_order) nodes is.sorted))
      to_put.sorted_open to_put.sorted to_put.marks_are (λ t. absurd (cc))
      (omega (arith, to_put.next_is, to.next_is, is.least))

  -- at the end all are cut
  pub cut_end : place ≡ length sheets → IsCutWhole tip sheets first c
  cut_end all =
      let count : length c.opened ≡ length sheets = sym (length_sheets c.opened) ∙ ap length is.sheets_are in
      let none_open : is.rest_open ≡ [] = nil_from_length is.rest_open
      (omega (arith, ap length is.open_is, length-append is.front_open is.rest_open, fronts, count)) in
      let none : is.rest ≡ [] = nil_from_length is.rest (sym (AllZip-length (Drafted tip) is.rest_open is.rest is.drafted) ∙ ap length none_open) in
      let opens : c.opened ≡ is.front_open = is.open_is ∙ ap (λ os. is.front_open ++ os) none_open ∙ append-nil is.front_open in
      let nodes : c.nodes ≡ is.front = is.nodes_is ∙ ap (λ ns. is.front ++ ns) none ∙ append-nil is.front in
      let bare : bare_all is.front ≡ uncut_all (sheets_of is.front_open) = bare_standing is.front_open is.front is.done in
      let heads_are : heads c.nodes ≡ heads (uncut_all sheets) =
      ap heads nodes ∙ heads_along is.front (uncut_all (sheets_of is.front_open)) bare
      ∙ ap (λ os. heads (uncut_all (sheets_of os))) (sym opens) ∙ ap (λ ss. heads (uncut_all ss)) is.sheets_are in
      let from : nodes_from tip (uncut_all sheets) place (sheets_of is.rest_open) c.next ≡ record { nodes = []; next = c.next } =
      ap (λ (os : OpenList). nodes_from tip (uncut_all sheets) place (sheets_of os) c.next) none_open in
      record {
        nodes_are = nodes ∙ sym (append-nil is.front) ∙ ap (λ (m : Numbered). is.front ++ m.nodes) (sym from) ∙ is.made;
        next_is = ap (λ (m : Numbered). m.next) (sym from) ∙ is.then;
        sheets_are = is.sheets_are;
        stands = subst (λ os. AllZip Stands os c.nodes) (sym opens) (subst (λ ns. AllZip Stands is.front_open ns) (sym nodes) is.done);
        in_force = subst (λ os. AreInForce c.nodes os) (sym opens) (each_along (λ (x : List ℕ × OpenSheet). x.1.cut_under ≡ aliases_named (uncut_all sheets) x.0) (λ (x : List ℕ × OpenSheet). x.1.cut_under ≡ aliases_named c.nodes x.0)
            (λ x u. u ∙ same_named (uncut_all sheets) c.nodes (sym heads_are) x.0) is.front_open is.in_force);
        least = is.least;
        most = is.most;
        kept = subst (λ ns. AreKept tip c.untouched.items ns) (sym nodes) is.kept;
      }
