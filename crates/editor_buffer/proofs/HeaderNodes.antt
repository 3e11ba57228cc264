-- Nodes of sheets, by the header of the text.
use Rattle.std.proofs.Common.{◌≡◌, ◌↔◌, ℕ, List, [], Option, Some, None, Result, IfOk, sym, ap, ◌∙◌}
use Rattle.std.proofs.lemmas.Result.{IfOk-weaker}
use Rattle.std.specs.Option.{option_map_or}
use Rattle.outer_syntax.specs.Headers.{HasHeader, HasNoHeader}
use Rattle.outer_syntax.specs.Reading.{header_in}
use Rattle.outer_syntax.specs.declared.parts.Header.{Header}
use Rattle.doc_nodes.specs.declared.node.Node.{Node}
use Rattle.buffer_rules.specs.declared.sheet.Sheet.{Sheet}
use Rattle.buffer_rules.specs.Nodes.{uncut}

abbrev of_header : Sheet → Option Header → Node
of_header sheet o = record {
  text = sheet.text;
  entries = [];
  required = sheet.required;
  imports = option_map_or (λ (header : Header). header.imports) o [];
  keywords = option_map_or (λ (header : Header). header.keywords) o [];
}

pub uncut_some : {E : Type 0} → ((t : List ℕ) (h : Header) → HasHeader t h ↔ (header_in t ≡ Some h)) → (sheet : Sheet) (h : Header) (r : Result Node E)
    → HasHeader sheet.text h
    → IfOk r (λ (n : Node). n ≡ record { text = sheet.text; entries = []; required = sheet.required; imports = h.imports; keywords = h.keywords })
    → IfOk r (λ (n : Node). n ≡ uncut sheet)
uncut_some law sheet h r has made =
    IfOk-weaker r (λ (n : Node). n ≡ of_header sheet (Some h)) (λ (n : Node). n ≡ uncut sheet)
    (λ n e. e ∙ ap (of_header sheet) (sym ((law sheet.text h).0 has))) made

pub uncut_none : {E : Type 0} → ((t : List ℕ) → HasNoHeader t ↔ (header_in t ≡ None)) → (sheet : Sheet) (r : Result Node E)
    → HasNoHeader sheet.text
    → IfOk r (λ (n : Node). n ≡ record { text = sheet.text; entries = []; required = sheet.required; imports = []; keywords = [] })
    → IfOk r (λ (n : Node). n ≡ uncut sheet)
uncut_none law sheet r has made =
    IfOk-weaker r (λ (n : Node). n ≡ of_header sheet None) (λ (n : Node). n ≡ uncut sheet)
    (λ n e. e ∙ ap (of_header sheet) (sym ((law sheet.text).0 has))) made

-- the node of a header, and of none
pub ruleset uncut_steps = (uncut_some, uncut_none)
