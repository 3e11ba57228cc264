-- One node more is cut.
use Rattle.std.proofs.Common.{◌≡◌, ℕ, zero, suc, ◌+◌, ◌<◌, ◌≤◌, Bool, true, List, [], ◌∷◌, ◌++◌, length, Some, refl, sym, ap, subst, ◌∙◌, arith}
use Rattle.std.specs.Prelude.{slice_get}
use Rattle.std.specs.List.{AllZip}
use Rattle.std.proofs.lemmas.List.{append_assoc, length-append}
use Rattle.std.specs.Option.{option_map}
use Rattle.shared_map.specs.Pairs.{IsSorted, found}
use Rattle.pide_base.specs.Ids.{id_end}
use Rattle.doc_nodes.specs.declared.node.Node.{Node}
use Rattle.doc_nodes.specs.Names.{in_order}
use Rattle.doc_nodes.specs.Imports.{NodeList, place_of}
use Rattle.doc_nodes.specs.Aliases.{aliases_at}
use Rattle.doc_nodes.specs.Needs.{AliasList}
use Rattle.buffer_rules.specs.declared.sheet.Sheet.{Sheet}
use Rattle.buffer_rules.specs.Sheets.{SheetList}
use Rattle.buffer_rules.specs.Numbers.{new_count}
use Rattle.buffer_rules.specs.Nodes.{AreKept, Numbered, sources, cut, before_in, uncut_all, nodes_from}
use Rattle.editor_buffer.specs.OpenSheet.{OpenSheet}
use Rattle.editor_buffer.specs.Standing.{OpenList, sheets_of, Stands, Drafted, aliases_named}
use Rattle.editor_buffer.proofs.PairLists.{AllZip-append, AllZip-length}
use Rattle.editor_buffer.specs.CutNodes.{next_after}
use Rattle.editor_buffer.specs.Cutting.{IsCutTo, whole, IsCutUpTo}
use Rattle.editor_buffer.specs.declared.cutting.Cutting.{Cutting}
use Rattle.editor_buffer.proofs.Places.{place_at, each_append}

-- what stands behind a front
pub split_at : {X : Type 0} (l xs : List X) (x : X) → slice_get (l ++ xs) (length l) ≡ Some x → (r : List X) × (xs ≡ x ∷ r)
split_at [] [] x e = absurd (cc)
split_at [] (y ∷ xs) x e = let same : y ≡ x = cc in (xs, ap (λ z. z ∷ xs) same)
split_at (y ∷ l) xs x e = split_at l xs x e

-- no id is given back
pub next_up : (tip all : NodeList) (sheets : SheetList) (p next : ℕ) → next ≤ (nodes_from tip all p sheets next).next
next_up tip all [] p next = omega arith
next_up tip all (pair ∷ pairs) p next =
    let more = new_count (before_in tip pair.0) (sources pair.1 (aliases_at all p).pairs) in
    omega (arith, next_up tip all pairs (p + 1) (next + more))

-- the marks with one more
marks_more : (tip front : NodeList) (marks : List Bool) (n : List ℕ × Node) (b : Bool) → length marks ≡ length front
    → AreKept tip marks front → (b ≡ true → found in_order n.0 tip ≡ Some n.1) → AreKept tip (marks ++ b ∷ []) (front ++ n ∷ [])
marks_more tip [] [] n b len kept new zero pair mark here =
    let is : b ≡ true = cc in
    let same : n ≡ pair = cc in
    let P : List ℕ × Node → Type 0 = λ q. found in_order q.0 tip ≡ Some q.1 in
    subst P same (new is)
marks_more tip [] [] n b len kept new (suc p) pair mark here = absurd (cc)
marks_more tip [] (m ∷ marks) n b len kept new p pair mark here = absurd (omega arith)
marks_more tip (x ∷ front) [] n b len kept new p pair mark here = absurd (omega arith)
marks_more tip (x ∷ front) (m ∷ marks) n b len kept new zero pair mark here = kept zero pair mark here
marks_more tip (x ∷ front) (m ∷ marks) n b len kept new (suc p) pair mark here =
    marks_more tip front marks n b (omega arith) (λ q. kept (suc q)) new p pair mark here

sheets_along : (l r : OpenList) (name : List ℕ) (o o' : OpenSheet) → o'.sheet ≡ o.sheet → sheets_of (l ++ (name, o') ∷ r) ≡ sheets_of (l ++ (name, o) ∷ r)
sheets_along [] r name o o' e = ap (λ s. let one : List ℕ × Sheet = (name, s) in one ∷ sheets_of r) e
sheets_along (x ∷ l) r name o o' e = ap (λ ps. (x.0, x.1.sheet) ∷ ps) (sheets_along l r name o o' e)

module _ (tip : NodeList) (sheets : SheetList) (first place : ℕ) (c d : Cutting) (is : IsCutUpTo tip sheets first place c)
    (name : List ℕ) (o o' : OpenSheet) (n n' : Node) (rest_open : OpenList) (rest : NodeList) (b : Bool)
    (open_at : is.rest_open ≡ (name, o) ∷ rest_open) (node_at : is.rest ≡ (name, n) ∷ rest)
    (to : IsCutTo tip name o (aliases_at (uncut_all sheets) place).pairs c.next n' d.next)
    (open_to : o' ≡ record { sheet = o.sheet; cut_under = Some (aliases_at (uncut_all sheets) place).pairs })
    (open_new : d.opened ≡ is.front_open ++ (name, o') ∷ rest_open) (nodes_new : d.nodes ≡ is.front ++ (name, n') ∷ rest)
    (sorted_open : IsSorted in_order d.opened) (sorted : IsSorted in_order d.nodes)
    (marks : d.untouched.items ≡ c.untouched.items ++ b ∷ []) (mark : b ≡ true → found in_order name tip ≡ Some n') where
  abbrev aliases : AliasList
  aliases = (aliases_at (uncut_all sheets) place).pairs

  stands_new : Stands (name, o') (name, n')
  stands_new =
      let P : OpenSheet → Type 0 = λ q. Stands (name, q) (name, n') in
      subst P (sym open_to) (refl, to.cut_from)

  -- it was cut under the aliases in force in it
  place_new : place_of (uncut_all sheets) name ≡ Some place
  place_new =
      let opens : c.opened ≡ is.front_open ++ (name, o) ∷ rest_open = is.open_is ∙ ap (λ os. is.front_open ++ os) open_at in
      let all : uncut_all (sheets_of (is.front_open ++ (name, o) ∷ rest_open)) ≡ uncut_all sheets = ap (λ os. uncut_all (sheets_of os)) (sym opens) ∙ ap uncut_all is.sheets_are in
      ap (λ ns. place_of ns name) (sym all)
      ∙ place_at is.front_open (name, o) rest_open (subst (IsSorted in_order) opens is.sorted_open)
      ∙ ap (λ k. Some k) (AllZip-length Stands is.front_open is.front is.done ∙ is.place_is)

  under_new : o'.cut_under ≡ aliases_named (uncut_all sheets) name
  under_new = ap (λ (q : OpenSheet). q.cut_under) open_to ∙ sym (ap (λ k. option_map (λ (p : ℕ). (aliases_at (uncut_all sheets) p).pairs) k) place_new)

  tails : AllZip (Drafted tip) rest_open rest
  tails =
      let P : OpenList → Type 0 = λ os. AllZip (Drafted tip) os is.rest in
      let Q : NodeList → Type 0 = λ ns. AllZip (Drafted tip) ((name, o) ∷ rest_open) ns in
      let both : AllZip (Drafted tip) ((name, o) ∷ rest_open) ((name, n) ∷ rest) = subst Q node_at (subst P open_at is.drafted) in
      both.1

  -- what comes of the sheets from the place on
  from_here : nodes_from tip (uncut_all sheets) place (sheets_of is.rest_open) c.next
      ≡ record {
        nodes = (name, n') ∷ (nodes_from tip (uncut_all sheets) (place + 1) (sheets_of rest_open) d.next).nodes;
        next = (nodes_from tip (uncut_all sheets) (place + 1) (sheets_of rest_open) d.next).next;
      }
  from_here =
      let made : ℕ → Node → Numbered = λ then node. record {
        nodes = (name, node) ∷ (nodes_from tip (uncut_all sheets) (place + 1) (sheets_of rest_open) then).nodes;
        next = (nodes_from tip (uncut_all sheets) (place + 1) (sheets_of rest_open) then).next;
      } in
      ap (λ (os : OpenList). nodes_from tip (uncut_all sheets) place (sheets_of os) c.next) open_at
      ∙ ap (λ then. made then (cut o.sheet aliases (before_in tip name) c.next)) (sym to.next_is)
      ∙ ap (made d.next) (sym to.node_is)

  pub cut_one : 1 ≤ d.next → IsCutUpTo tip sheets first (place + 1) d
  cut_one least = record {
    front_open = is.front_open ++ (name, o') ∷ [];
    rest_open = rest_open;
    front = is.front ++ (name, n') ∷ [];
    rest = rest;
    open_is = open_new ∙ sym (append_assoc is.front_open ((name, o') ∷ []) rest_open);
    nodes_is = nodes_new ∙ sym (append_assoc is.front ((name, n') ∷ []) rest);
    place_is = length-append is.front ((name, n') ∷ []) ∙ ap (λ k. k + 1) is.place_is;
    sorted_open = sorted_open;
    sorted = sorted;
    done = AllZip-append Stands is.front_open ((name, o') ∷ []) is.front ((name, n') ∷ []) is.done (stands_new, tt);
    in_force = each_append (λ (x : List ℕ × OpenSheet). x.1.cut_under ≡ aliases_named (uncut_all sheets) x.0) is.front_open ((name, o') ∷ []) is.in_force (under_new, tt);
    drafted = tails;
    sheets_are = ap sheets_of open_new
        ∙ sheets_along is.front_open rest_open name o o' (ap (λ (q : OpenSheet). q.sheet) open_to)
        ∙ ap (λ (os : OpenList). sheets_of (is.front_open ++ os)) (sym open_at)
        ∙ ap sheets_of (sym is.open_is) ∙ is.sheets_are;
    made = append_assoc is.front ((name, n') ∷ []) (nodes_from tip (uncut_all sheets) (place + 1) (sheets_of rest_open) d.next).nodes
        ∙ ap (λ (m : Numbered). is.front ++ m.nodes) (sym from_here) ∙ is.made;
    then = ap (λ (m : Numbered). m.next) (sym from_here) ∙ is.then;
    least = least;
    most = to.within;
    counted = ap (λ bs. length bs) marks ∙ length-append c.untouched.items (b ∷ []) ∙ ap (λ k. k + 1) is.counted;
    kept = subst (λ bs. AreKept tip bs (is.front ++ (name, n') ∷ [])) (sym marks)
        (marks_more tip is.front c.untouched.items (name, n') b (is.counted ∙ sym is.place_is) is.kept mark);
  }

-- where the ids of one node pass the last, so do those of all
pub passes : (tip : NodeList) (sheets : SheetList) (first place : ℕ) (c : Cutting) (is : IsCutUpTo tip sheets first place c)
    (name : List ℕ) (o : OpenSheet) (rest_open : OpenList) → is.rest_open ≡ (name, o) ∷ rest_open
    → id_end < next_after o.sheet (aliases_at (uncut_all sheets) place).pairs (before_in tip name) c.next
    → id_end < (whole tip sheets first).next
passes tip sheets first place c is name o rest_open at above =
    let aliases = (aliases_at (uncut_all sheets) place).pairs in
    let then = next_after o.sheet aliases (before_in tip name) c.next in
    let here : (nodes_from tip (uncut_all sheets) (place + 1) (sheets_of rest_open) then).next ≡ (whole tip sheets first).next =
    ap (λ (os : OpenList). (nodes_from tip (uncut_all sheets) place (sheets_of os) c.next).next) (sym at) ∙ is.then in
    omega (arith, next_up tip (uncut_all sheets) (sheets_of rest_open) (place + 1) then)
