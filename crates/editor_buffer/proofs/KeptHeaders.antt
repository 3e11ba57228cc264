-- Headers of a draft, by its sheets and item by item.
use Rattle.std.proofs.Common.{◌≡◌, ◌↔◌, ℕ, Bool, true, false, IsTrue, List, [], ◌∷◌, Option, Some, None, Result, Ok, refl, sym, ap, subst, ◌∙◌}
use Rattle.std.specs.Result.{IfOk}
use Rattle.std.specs.Bool.{OnTrue}
use Rattle.std.specs.List.{AllZip}
use Rattle.std.proofs.lemmas.Bool.{false≢true}
use Rattle.doc_nodes.specs.declared.node.Node.{Node}
use Rattle.doc_nodes.specs.Imports.{NodeList}
use Rattle.doc_nodes.specs.Needs.{AliasList}
use Rattle.message_values.specs.declared.item.Item.{Item}
use Rattle.message_values.specs.declared.refusal.Refusal.{Refusal}
use Rattle.buffer_rules.specs.declared.sheet.Sheet.{Sheet}
use Rattle.buffer_rules.specs.Sheets.{SheetList, item_once}
use Rattle.buffer_rules.specs.Nodes.{uncut}
use Rattle.editor_buffer.specs.Standing.{OpenList, sheets_of, DraftedUnder, Drafted}
use Rattle.doc_nodes.specs.Heads.{head, heads}
use Rattle.editor_buffer.specs.Heads.{headers_of, KeepHeaders}

head_drafted : (tip : NodeList) (u : Option AliasList) (name : List ℕ) (sheet : Sheet) (node : Node) → DraftedUnder tip u name sheet node → head node ≡ head (uncut sheet)
head_drafted tip None name sheet node is = ap head is
head_drafted tip (Some aliases) name sheet node is = ap head is.0.made

-- the nodes have the headers of the sheets
pub heads_drafted : (tip : NodeList) (os : OpenList) (ns : NodeList) → AllZip (Drafted tip) os ns → heads ns ≡ headers_of (sheets_of os)
heads_drafted tip [] [] is = refl
heads_drafted tip [] (n ∷ ns) is = absurd is
heads_drafted tip (o ∷ os) [] is = absurd is
heads_drafted tip (o ∷ os) (n ∷ ns) is =
    ap (λ name. let one : List ℕ × Node = (name, head n.1) in one ∷ heads ns) (sym is.0.0)
    ∙ ap (λ h. let one : List ℕ × Node = (o.0, h) in one ∷ heads ns) (head_drafted tip o.1.cut_under o.0 o.1.sheet n.1 is.0.1)
    ∙ ap (λ all. (o.0, head (uncut o.1.sheet)) ∷ all) (heads_drafted tip os ns is.1)

module _ (tip : NodeList) (stood stands : Bool) (item : Item) (more : List Item) (os os' : OpenList) (ns ns' : NodeList)
    (before : AllZip (Drafted tip) os ns) (after : AllZip (Drafted tip) os' ns') (once : item_once item (sheets_of os) ≡ Ok (sheets_of os'))
    (told : IsTrue stands ↔ (IsTrue stood × (heads ns' ≡ heads ns))) where
  abbrev Kept : Result SheetList Refusal → Type 0
  Kept r = IfOk r (λ (ss : SheetList). (headers_of ss ≡ headers_of (sheets_of os)) × KeepHeaders more ss)

  -- what is told of one item and the others
  pub keep_next : (IsTrue stands × KeepHeaders more (sheets_of os')) ↔ (IsTrue stood × KeepHeaders (item ∷ more) (sheets_of os))
  keep_next = (
    λ all.
        let same = told.0 all.0 in
        let headers : headers_of (sheets_of os') ≡ headers_of (sheets_of os) =
        sym (heads_drafted tip os' ns' after) ∙ same.1 ∙ heads_drafted tip os ns before in
        (same.0, subst Kept (sym once) (headers, all.1)),
    λ all.
        let kept : Kept (Ok (sheets_of os')) = subst Kept once all.1 in
        (told.1 (all.0, heads_drafted tip os' ns' after ∙ kept.0 ∙ sym (heads_drafted tip os ns before)), kept.1),
  )

-- where headers stand they are those of the beginning
pub stand_next : (stood stands : Bool) (ns ns' whole : NodeList) → IsTrue stands ↔ (IsTrue stood × (heads ns' ≡ heads ns))
    → OnTrue stood (heads ns ≡ heads whole) → OnTrue stands (heads ns' ≡ heads whole)
stand_next true true ns ns' whole told same = (told.0 refl).1 ∙ same
stand_next false true ns ns' whole told same = absurd (false≢true (told.0 refl).0)
stand_next stood false ns ns' whole told same = tt
