-- Headers of identifiers (this project's own).
use Rattle.std.specs.Prelude.{ℕ, List}
use Rattle.std.specs.List.{AllByRecursion}
use Rattle.text_words.specs.Identifier.{IsIdentifier}
use Rattle.outer_syntax.specs.declared.parts.KeywordPair.{KeywordPair}
use Rattle.doc_nodes.specs.Imports.{NodeList}

-- the name that a keyword pair gives to a command is an identifier
abbrev pub IsNamed : KeywordPair → Type 0
IsNamed pair = IsIdentifier pair.name

-- imports are identifiers, and so are the names of keyword pairs
pub record AreNamed (imports : List (List ℕ)) (keywords : List KeywordPair) : Type 0 where
  pub imports_are : AllByRecursion IsIdentifier imports
  pub keywords_are : AllByRecursion IsNamed keywords

-- so are those of all nodes
abbrev pub AreHeaded : NodeList → Type 0
AreHeaded nodes = AllByRecursion (λ pair. AreNamed pair.1.imports pair.1.keywords) nodes
