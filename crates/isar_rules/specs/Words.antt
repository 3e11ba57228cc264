-- The words of a command's source (after Isabelle's outer syntax).
use Rattle.std.specs.Prelude.{ℕ, if◌then◌else◌, List, map, codes}
use Rattle.pide_base.specs.declared.range.Range.{Range}
use Rattle.outer_syntax.specs.Contents.{content_of}
use Rattle.outer_syntax.specs.Tokens.{text_of}
use Rattle.outer_syntax.specs.declared.kind.Kind.{Kind}
use Rattle.outer_syntax.specs.declared.kind.Kind.TheVariants as kind
use Rattle.outer_syntax.specs.declared.token.Token.{Token}
use Rattle.doc_nodes.specs.Names.{equal}
use Rattle.isar_rules.specs.declared.shape.Spot.{Spot}

-- what a token is to a command's shape: a name, a quoted formula, `:`, `-`, or none of these
pub data Word : Type 0 where
  name : Spot → Word
  quoted : Spot → Word
  colon : Word
  dash : Word
  other : Word

-- a text that stands there
abbrev pub spot : List ℕ → Range → Spot
spot text range = record { text = text; range = range }

-- a sign of one scalar
abbrev pub sign : List ℕ → Word
sign text = if equal text (codes ":") then colon
    else (if equal text (codes "-") then dash else other)

-- a token of this kind, these scalars and this place
abbrev pub word : Kind → List ℕ → Range → Word
word kind.Ident text range = name (spot text range)
word kind.String text range = quoted (spot (content_of kind.String text) range)
word kind.Cartouche text range = quoted (spot (content_of kind.Cartouche text) range)
word kind.Sym text range = sign text
word _ text range = other

-- tokens of the source
abbrev pub words : List ℕ → List Token → List Word
words source tokens = map (λ t. word t.kind (text_of source t) t.range) tokens

-- the scalars of a token, and where it stands
abbrev pub spot_of : List ℕ → Token → Spot
spot_of source t = spot (text_of source t) t.range
