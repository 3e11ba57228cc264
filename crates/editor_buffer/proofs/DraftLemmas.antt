-- What items make of open nodes, and of the nodes that come of them.
use Rattle.std.proofs.Common.{◌≡◌, ℕ, true, false, List, ◌∷◌, Option, Some, None, Result, Ok, Err, refl, sym, ap, subst, ◌∙◌}
use Rattle.std.specs.Prelude.{IfOk}
use Rattle.std.specs.Option.{option_map, option_map_or, is_some}
use Rattle.std.specs.List.{AllZip}
use Rattle.std.proofs.lemmas.Bool.{false≢true}
use Rattle.shared_map.specs.Pairs.{found}
use Rattle.shared_map.specs.Changes.{put, without}
use Rattle.doc_nodes.specs.declared.node.Node.{Node}
use Rattle.doc_nodes.specs.Names.{in_order}
use Rattle.doc_nodes.specs.Imports.{NodeList}
use Rattle.text_edits.specs.declared.edit.Edit.{Edit}
use Rattle.message_values.specs.declared.item.Item.{Item}
use Rattle.message_values.specs.declared.item.Perspective.{Perspective}
use Rattle.message_values.specs.declared.item.Change.TheVariants as change
use Rattle.message_values.specs.declared.refusal.Refusal.{Refusal}
use Rattle.message_values.specs.declared.refusal.Refusal.TheVariants.{UnknownNode}
use Rattle.buffer_rules.specs.declared.sheet.Sheet.{Sheet}
use Rattle.buffer_rules.specs.Trying.{◌>>=◌, steps}
use Rattle.buffer_rules.specs.Sheets.{SheetList, blank, sheet_of, sheet_after, change_one, item_once}
use Rattle.buffer_rules.specs.Nodes.{uncut}
use Rattle.editor_buffer.specs.declared.fault.PrepareError.{PrepareError}
use Rattle.editor_buffer.specs.OpenSheet.{OpenSheet}
use Rattle.editor_buffer.specs.Telling.{Tells}
use Rattle.editor_buffer.proofs.KnownTelling.{told_then}
use Rattle.editor_buffer.specs.Standing.{OpenList, sheets_of, bare, DraftedUnder, Drafted}
use Rattle.editor_buffer.proofs.KeyLists.{found-over, over-put, over-without}
use Rattle.editor_buffer.proofs.PairLists.{AllZip-put, AllZip-without}

abbrev pub sheet : OpenSheet → Sheet
sheet o = o.sheet

pub sheets_put : (opened : OpenList) (name : List ℕ) (o : OpenSheet) → sheets_of (put in_order (name, o) opened) ≡ put in_order (name, o.sheet) (sheets_of opened)
sheets_put opened name o = over-put sheet in_order name o opened

sheets_without : (opened : OpenList) (name : List ℕ) → sheets_of (without in_order name opened) ≡ without in_order name (sheets_of opened)
sheets_without opened name = over-without sheet in_order name opened

sheets_found : (opened : OpenList) (name : List ℕ) → found in_order name (sheets_of opened) ≡ option_map sheet (found in_order name opened)
sheets_found opened name = found-over sheet in_order name opened

-- the sheet of a name: that of its node, or a blank one
pub sheet_there : (opened : OpenList) (name : List ℕ) (o : OpenSheet) → found in_order name opened ≡ Some o → sheet_of name (sheets_of opened) ≡ o.sheet
sheet_there opened name o e = ap (λ (s : Option Sheet). option_map_or (λ (t : Sheet). t) s blank) (sheets_found opened name ∙ ap (option_map sheet) e)

pub sheet_blank : (opened : OpenList) (name : List ℕ) → found in_order name opened ≡ None → sheet_of name (sheets_of opened) ≡ blank
sheet_blank opened name e = ap (λ (s : Option Sheet). option_map_or (λ (t : Sheet). t) s blank) (sheets_found opened name ∙ ap (option_map sheet) e)

-- a node that is closed goes, unless it isn't there
pub closed : (opened : OpenList) (name : List ℕ) → is_some (found in_order name opened) ≡ true
    → change_one name change.Close (sheets_of opened) ≡ Ok (sheets_of (without in_order name opened))
closed opened name there =
    ap (λ (s : Option Sheet). answer s) (sheets_found opened name) ∙ go (found in_order name opened) there
  where
    answer : Option Sheet → Result SheetList Refusal
    answer s = option_map_or (λ (t : Sheet). Ok (without in_order name (sheets_of opened))) s (Err UnknownNode)

    go : (o : Option OpenSheet) → is_some o ≡ true → option_map_or (λ (t : Sheet). Ok (without in_order name (sheets_of opened))) (option_map sheet o) (Err UnknownNode)
        ≡ Ok (sheets_of (without in_order name opened))
    go None e = absurd (false≢true e)
    go (Some x) e = ap (λ ss. Ok ss) (sym (sheets_without opened name))

pub unknown : (opened : OpenList) (name : List ℕ) → is_some (found in_order name opened) ≡ false
    → change_one name change.Close (sheets_of opened) ≡ Err UnknownNode
unknown opened name none =
    ap (λ (s : Option Sheet). option_map_or (λ (t : Sheet). Ok (without in_order name (sheets_of opened))) s (Err UnknownNode)) (sheets_found opened name)
    ∙ go (found in_order name opened) none
  where
    go : (o : Option OpenSheet) → is_some o ≡ false → option_map_or (λ (t : Sheet). Ok (without in_order name (sheets_of opened))) (option_map sheet o) (Err UnknownNode)
        ≡ Err UnknownNode
    go None e = refl
    go (Some x) e = absurd (false≢true (sym e))

-- a node that has to be cut is put
pub drafted_put : (tip : NodeList) (opened : OpenList) (nodes : NodeList) (name : List ℕ) (o : OpenSheet) (node : Node)
    → o.cut_under ≡ None → node ≡ uncut o.sheet → AllZip (Drafted tip) opened nodes
    → AllZip (Drafted tip) (put in_order (name, o) opened) (put in_order (name, node) nodes)
drafted_put tip opened nodes name o node none made all =
    AllZip-put (Drafted tip) (λ x y q. q.0) in_order name o node opened nodes
    (refl, subst (λ u. DraftedUnder tip u name o.sheet node) (sym none) (ap bare made)) all

pub drafted_without : (tip : NodeList) (opened : OpenList) (nodes : NodeList) (name : List ℕ) → AllZip (Drafted tip) opened nodes
    → AllZip (Drafted tip) (without in_order name opened) (without in_order name nodes)
drafted_without tip opened nodes name all = AllZip-without (Drafted tip) (λ x y q. q.0) in_order name opened nodes all

-- what is told of the sheet of a node is told of the sheet of its name
pub sheet_told : (opened : OpenList) (name : List ℕ) (o : OpenSheet) (edits : List Edit) (told : Option Perspective) (r : Result OpenSheet PrepareError)
    → found in_order name opened ≡ Some o → Tells sheet r (sheet_after edits told o.sheet) → Tells sheet r (sheet_after edits told (sheet_of name (sheets_of opened)))
sheet_told opened name o edits told r there is = subst (λ s. Tells sheet r (sheet_after edits told s)) (sym (sheet_there opened name o there)) is

pub blank_told : (opened : OpenList) (name : List ℕ) (o : OpenSheet) (edits : List Edit) (told : Option Perspective) (r : Result OpenSheet PrepareError)
    → found in_order name opened ≡ None → o ≡ record { sheet = blank; cut_under = None }
    → Tells sheet r (sheet_after edits told o.sheet) → Tells sheet r (sheet_after edits told (sheet_of name (sheets_of opened)))
blank_told opened name o edits told r none made is =
    subst (λ s. Tells sheet r (sheet_after edits told s)) (ap sheet made ∙ sym (sheet_blank opened name none)) is

-- a value is put by a call
pub put_told : {E V : Type 0} (made : Result (List (List ℕ × V)) E) (map new : List (List ℕ × V)) (name : List ℕ) (value : V) → made ≡ Ok new
    → IfOk made (λ after. after ≡ put in_order (name, value) map) → new ≡ put in_order (name, value) map
put_told {E} {V} made map new name value e told =
    subst (λ (r : Result (List (List ℕ × V)) E). IfOk r (λ after. after ≡ put in_order (name, value) map)) e told

-- the same of lists that are told to be those
pub sheets_put_so : (opened new : OpenList) (name : List ℕ) (o : OpenSheet) → new ≡ put in_order (name, o) opened
    → sheets_of new ≡ put in_order (name, o.sheet) (sheets_of opened)
sheets_put_so opened new name o e = ap sheets_of e ∙ sheets_put opened name o

pub drafted_put_so : (tip : NodeList) (opened new : OpenList) (nodes more : NodeList) (name : List ℕ) (o : OpenSheet) (node : Node)
    → o.cut_under ≡ None → node ≡ uncut o.sheet → new ≡ put in_order (name, o) opened → more ≡ put in_order (name, node) nodes
    → AllZip (Drafted tip) opened nodes → AllZip (Drafted tip) new more
drafted_put_so tip opened new nodes more name o node none made e f all =
    subst (λ os. AllZip (Drafted tip) os more) (sym e)
    (subst (λ ns. AllZip (Drafted tip) (put in_order (name, o) opened) ns) (sym f) (drafted_put tip opened nodes name o node none made all))

pub closed_so : (opened new : OpenList) (name : List ℕ) → new ≡ without in_order name opened → is_some (found in_order name opened) ≡ true
    → change_one name change.Close (sheets_of opened) ≡ Ok (sheets_of new)
closed_so opened new name e there = closed opened name there ∙ ap (λ (os : OpenList). Ok (sheets_of os)) (sym e)

pub drafted_without_so : (tip : NodeList) (opened new : OpenList) (nodes more : NodeList) (name : List ℕ)
    → new ≡ without in_order name opened → more ≡ without in_order name nodes
    → AllZip (Drafted tip) opened nodes → AllZip (Drafted tip) new more
drafted_without_so tip opened new nodes more name e f all =
    subst (λ os. AllZip (Drafted tip) os more) (sym e)
    (subst (λ ns. AllZip (Drafted tip) (without in_order name opened) ns) (sym f) (drafted_without tip opened nodes name all))

-- an item that edits a node
pub item_edited : (name : List ℕ) (edits : List Edit) (told : Option Perspective) (sheets new : SheetList) (s : Sheet)
    → sheet_after edits told (sheet_of name sheets) ≡ Ok s → new ≡ put in_order (name, s) sheets
    → change_one name (change.Edit edits told) sheets ≡ Ok new
item_edited name edits told sheets new s made e =
    ap (λ r. r >>= λ sheet. Ok (put in_order (name, sheet) sheets)) made ∙ ap (λ (ss : SheetList). Ok ss) (sym e)

-- one item and then the others
pub next_item : (item : Item) (more : List Item) (sheets after : SheetList) (whole : Result SheetList Refusal)
    → steps item_once (item ∷ more) sheets ≡ whole → item_once item sheets ≡ Ok after → steps item_once more after ≡ whole
next_item item more sheets after whole same once = sym (ap (λ r. r >>= steps item_once more) once) ∙ same

-- what an item makes of its sheet, and a refusal of the first step is that of all
pub ruleset item_steps = (item_edited, told_then)

-- what a blank sheet makes, and the first refusal
pub ruleset blank_steps = (sheet_told, blank_told)

-- a sheet is put among the others, and its node
pub ruleset put_steps = (sheets_put_so, drafted_put_so)

-- a sheet is closed, and its node goes
pub ruleset closing_steps = (closed_so, unknown, drafted_without_so)
