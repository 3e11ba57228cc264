-- The names among the words of a command are plain.
use Rattle.std.proofs.Common.{ℕ, Bool, true, false, cond, List, [], ◌∷◌, map, codes}
use Rattle.std.specs.Prelude.{⊤}
use Rattle.std.specs.List.{AllByRecursion}
use Rattle.pide_base.specs.declared.range.Range.{Range}
use Rattle.outer_syntax.specs.Tokens.{text_of}
use Rattle.outer_syntax.specs.Words.{is_in_force}
use Rattle.outer_syntax.specs.declared.kind.Kind.{Kind}
use Rattle.outer_syntax.specs.declared.kind.Kind.TheVariants as kind
use Rattle.outer_syntax.specs.declared.token.Token.{Token}
use Rattle.doc_nodes.specs.Needs.{AliasList, source_tokens}
use Rattle.doc_nodes.specs.Names.{equal}
use Rattle.isar_rules.specs.Words as words
use Rattle.editor_laws.proofs.PlainTexts.{Plain}
use Rattle.editor_laws.proofs.TokenNames.{IfName, TokenPlain, tokens_plain}

pub source_plain : (aliases : AliasList) (source : List ℕ)
    → AllByRecursion (TokenPlain source) (source_tokens aliases source)
source_plain aliases source = tokens_plain (is_in_force (map (λ pair. pair.0) aliases)) source

-- a name among words
abbrev pub WordPlain : words.Word → Type 0
WordPlain (words.name s) = Plain s.text
WordPlain _ = ⊤

sign_plain : (text : List ℕ) → WordPlain (words.sign text)
sign_plain text = go (equal text (codes ":")) (equal text (codes "-"))
  where
    go : (a b : Bool) → WordPlain (cond a words.colon (cond b words.dash words.other))
    go true b = tt
    go false true = tt
    go false false = tt

kind_plain : (k : Kind) (text : List ℕ) (range : Range) → IfName k text
    → WordPlain (words.word k text range)
kind_plain kind.Ident text range plain = plain
kind_plain kind.Sym text range plain = sign_plain text
kind_plain kind.String text range plain = tt
kind_plain kind.Cartouche text range plain = tt
kind_plain _ text range plain = tt

pub words_plain : (source : List ℕ) (ts : List Token) → AllByRecursion (TokenPlain source) ts
    → AllByRecursion WordPlain (words.words source ts)
words_plain source [] all = tt
words_plain source (t ∷ ts) all =
    (kind_plain t.kind (text_of source t) t.range all.0, words_plain source ts all.1)
