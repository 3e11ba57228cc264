-- A new text with the same header leaves the headers of a document.
use Rattle.std.proofs.Common.{◌≡◌, ℕ, List, [], ◌∷◌, ◌++◌, sym, refl, subst}
use Rattle.outer_syntax.specs.Reading.{header_in}
use Rattle.buffer_rules.specs.declared.sheet.Sheet.{Sheet}
use Rattle.buffer_rules.specs.Sheets.{SheetList}
use Rattle.soundness_laws.specs.SameHeaders.{SameHeaders}
use Rattle.soundness_laws.specs.Suggesting.{IsEditedAt}

itself : (sheets : SheetList) → SameHeaders sheets sheets
itself [] = tt
itself (pair ∷ sheets) = (refl, refl, itself sheets)

at_front : (front back : SheetList) (name : List ℕ) (sheet : Sheet) (new : List ℕ) → header_in new ≡ header_in sheet.text
    → SameHeaders (front ++ (name, record sheet { text = new }) ∷ back) (front ++ (name, sheet) ∷ back)
at_front [] back name sheet new header = (refl, header, itself back)
at_front (pair ∷ front) back name sheet new header = (refl, refl, at_front front back name sheet new header)

pub same_headers : (sheets others : SheetList) (p : ℕ) (sheet : Sheet) (new : List ℕ) → IsEditedAt sheets others p sheet new → header_in new ≡ header_in sheet.text
    → SameHeaders others sheets
same_headers sheets others p sheet new edited header =
    subst (λ l. SameHeaders l sheets) (sym edited.new_is)
    (subst (λ l. SameHeaders (edited.front ++ (edited.name, record sheet { text = new }) ∷ edited.back) l) (sym edited.old_is)
    (at_front edited.front edited.back edited.name sheet new header))
