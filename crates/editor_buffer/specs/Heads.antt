-- Which items leave all headers as they are (this project's own).
use Rattle.std.specs.Prelude.{◌≡◌, [], ◌∷◌, List, IfOk}
use Rattle.doc_nodes.specs.Imports.{NodeList}
use Rattle.doc_nodes.specs.Heads.{heads}
use Rattle.message_values.specs.declared.item.Item.{Item}
use Rattle.buffer_rules.specs.Sheets.{SheetList, item_once}
use Rattle.buffer_rules.specs.Nodes.{uncut_all}

-- the headers of the nodes that are made of sheets
abbrev pub headers_of : SheetList → NodeList
headers_of sheets = heads (uncut_all sheets)

-- each of the items, one after the other, leaves all headers as they are
abbrev pub KeepHeaders : List Item → SheetList → Type 0
KeepHeaders [] sheets = Unit {0}
KeepHeaders (item ∷ items) sheets = IfOk (item_once item sheets)
    (λ after. (headers_of after ≡ headers_of sheets) × KeepHeaders items after)
