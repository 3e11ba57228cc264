-- The nodes that are made of sheets have the headers of their texts.
use Rattle.std.proofs.Common.{◌≡◌, ℕ, ◌+◌, List, [], ◌∷◌, Option, Some, None, refl}
use Rattle.std.specs.List.{AllByRecursion}
use Rattle.std.specs.Option.{option_map_or}
use Rattle.text_words.specs.Identifier.{IsIdentifier}
use Rattle.outer_syntax.specs.Reading.{header_in}
use Rattle.outer_syntax.specs.declared.parts.Header.{Header}
use Rattle.doc_nodes.specs.Imports.{NodeList}
use Rattle.buffer_rules.specs.Nodes.{uncut_all, nodes_from, nodes_after}
use Rattle.buffer_rules.specs.Sheets.{SheetList}
use Rattle.editor_laws.specs.Headed.{IsNamed, AreHeaded}
use Rattle.editor_laws.proofs.HeaderNames.{HeaderLaw, header_named}

text_named : HeaderLaw → (text : List ℕ)
    → AllByRecursion IsIdentifier (option_map_or (λ header. header.imports) (header_in text) [])
    × AllByRecursion IsNamed (option_map_or (λ header. header.keywords) (header_in text) [])
text_named law text = go (header_in text) refl
  where
    go : (o : Option Header) → header_in text ≡ o
        → AllByRecursion IsIdentifier (option_map_or (λ (header : Header). header.imports) o [])
        × AllByRecursion IsNamed (option_map_or (λ (header : Header). header.keywords) o [])
    go None e = (tt, tt)
    go (Some header) e =
        let is = header_named law text header e in (is.imports_are, is.keywords_are)

from_headed : HeaderLaw → (tip all : NodeList) (p : ℕ) (sheets : SheetList) (next : ℕ)
    → AreHeaded (nodes_from tip all p sheets next).nodes
from_headed law tip all p [] next = tt
from_headed law tip all p (pair ∷ sheets) next =
    let named = text_named law pair.1.text in (
      record { imports_are = named.0; keywords_are = named.1 },
      from_headed law tip all (p + 1) sheets _,
    )

pub sheets_headed : HeaderLaw → (tip : NodeList) (sheets : SheetList) (next : ℕ)
    → AreHeaded (nodes_after tip sheets next).nodes
sheets_headed law tip sheets next = from_headed law tip (uncut_all sheets) 0 sheets next
