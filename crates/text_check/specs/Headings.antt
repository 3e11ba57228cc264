-- What the commands of a text go by besides its text: read off its header (this project's own).
use Rattle.std.specs.Prelude.{ℕ, List, [], ◌∷◌, find, true, Option, Some, None}
use Rattle.outer_syntax.specs.Reading.{header_in}
use Rattle.outer_syntax.specs.declared.parts.Header.{Header}
use Rattle.outer_syntax.specs.declared.parts.KeywordPair.{KeywordPair}
use Rattle.doc_nodes.specs.declared.node.Node.{Node}
use Rattle.doc_nodes.specs.Imports.{NodeList, is_bad}
use Rattle.doc_nodes.specs.Aliases.{aliases_at}
use Rattle.language.specs.declared.made.Imports.{Imports}
use Rattle.language.specs.declared.made.Imports.TheVariants.{Ordered, Bad}
use Rattle.language.specs.Lang.{Lang}
use Rattle.text_check.specs.OneText.{text_name}
use Rattle.text_check.specs.declared.heading.Heading.{Heading}

-- a node of a header alone
abbrev pub bare : List (List ℕ) → List KeywordPair → Node
bare imports keywords = record {
  text = [];
  entries = [];
  required = true;
  imports = imports;
  keywords = keywords;
}

-- such a node as the only one of a document
abbrev pub alone : List ℕ → List (List ℕ) → List KeywordPair → NodeList
alone name imports keywords = (name, bare imports keywords) ∷ []

-- its name, its first bad import and its aliases
abbrev pub headed : List ℕ → List (List ℕ) → List KeywordPair → Heading
headed name imports keywords = record {
  name = name;
  bad = find (is_bad (alone name imports keywords)) imports;
  aliases = aliases_at (alone name imports keywords) 0;
}

-- those of a header, if there is one
abbrev pub heading_in : List ℕ → Option Header → Heading
heading_in name None = headed name [] []
heading_in name (Some header) = headed name header.imports header.keywords

-- those of a text
abbrev pub heading_of : List ℕ → Heading
heading_of text = heading_in (text_name text) (header_in text)

-- what the node has from its imports: there are no other nodes
abbrev pub imports_of : {S : Type 0} → Option (List ℕ) → Imports S
imports_of None = Ordered []
imports_of (Some name) = Bad name

-- the state in which its first command begins
abbrev pub begins : {S : Type 0} → Lang S → Heading → S
begins l h = l.start h.name (imports_of h.bad) h.aliases
