-- The names among the tokens of a source are plain.
use Rattle.std.proofs.Common.{ℕ, suc, Bool, true, false, cond, List, [], ◌∷◌, length, All, sym}
use Rattle.std.proofs.Common.{refl, subst, arith}
use Rattle.std.specs.Prelude.{⊤}
use Rattle.std.specs.List.{AllByRecursion}
use Rattle.text_words.specs.Identifier.{IsIdentifier}
use Rattle.text_words.proofs.KnownLists.{each-passing}
use Rattle.outer_syntax.specs.Forms.{dotted}
use Rattle.outer_syntax.specs.Headings.{proper}
use Rattle.outer_syntax.specs.Lexing.{tokens_under}
use Rattle.outer_syntax.specs.Rows.{HasForm}
use Rattle.outer_syntax.specs.Tokens.{text_of, IsToken, AreTokensBetween}
use Rattle.outer_syntax.specs.Words.{is_minor_keyword, kind_of}
use Rattle.outer_syntax.specs.declared.bracket.Bracket.TheVariants.{Comment, String, Cartouche}
use Rattle.outer_syntax.specs.declared.kind.Kind.{Kind}
use Rattle.outer_syntax.specs.declared.kind.Kind.TheVariants as kind
use Rattle.outer_syntax.specs.declared.row.Row.{Row}
use Rattle.outer_syntax.specs.declared.row.Row.TheVariants.{Space, Enclosed, Error, Symbol}
use Rattle.outer_syntax.specs.declared.row.Row.TheVariants.{LongIdent, Word, Sym}
use Rattle.outer_syntax.specs.declared.token.Token.{Token}
use Rattle.outer_syntax.proofs.KnownLexing.{all-tokens}
use Rattle.editor_laws.proofs.PlainTexts.{Plain, spelled, joined, with_first, identifier_plain}

-- a name, long or not, or a command
abbrev pub IfName : Kind → List ℕ → Type 0
IfName kind.Ident s = Plain s
IfName kind.LongIdent s = Plain s
IfName kind.Command s = Plain s
IfName _ s = ⊤

dotted_plain : (names : List (List ℕ)) → All IsIdentifier names → Plain (dotted names)
dotted_plain [] all = spelled refl
dotted_plain (x ∷ names) all =
    with_first refl
    (joined (identifier_plain x (all 0 [] (omega arith)))
    (dotted_plain names (λ k d low. all (suc k) d (omega (arith, low)))))

word_plain : (s : List ℕ) → Plain s → (command minor : Bool)
    → IfName (cond command kind.Command (cond minor kind.Keyword kind.Ident)) s
word_plain s plain true minor = plain
word_plain s plain false true = tt
word_plain s plain false false = plain

row_plain : (names : List ℕ → Bool) (r : Row) (s : List ℕ) → HasForm r s
    → IfName (kind_of names r s) s
row_plain names Space s form = tt
row_plain names (Enclosed Comment) s form = tt
row_plain names (Enclosed String) s form = tt
row_plain names (Enclosed Cartouche) s form = tt
row_plain names Error s form = tt
row_plain names Symbol s form = tt
row_plain names LongIdent s (x, xs, id, some, each, e) =
    subst Plain (sym e) (joined (identifier_plain x id) (dotted_plain xs each))
row_plain names Word s form = word_plain s (identifier_plain s form) (names s) (is_minor_keyword s)
row_plain names Sym s form = tt

abbrev pub TokenPlain : List ℕ → Token → Type 0
TokenPlain text t = IfName t.kind (text_of text t)

token_plain : (names : List ℕ → Bool) (text : List ℕ) (t : Token) → IsToken names text t
    → TokenPlain text t
token_plain names text t (row, some, first, is) =
    subst (λ k. IfName k (text_of text t)) (sym is)
    (row_plain names row (text_of text t) first.longest.fits)

between_plain : (names : List ℕ → Bool) (text : List ℕ) (from to : ℕ) (ts : List Token)
    → AreTokensBetween (λ _. names) text from to ts → AllByRecursion (TokenPlain text) ts
between_plain names text from to [] are = tt
between_plain names text from to (t ∷ ts) are =
    (token_plain names text t are.1, between_plain names text t.range.stop to ts are.2)

pub tokens_plain : (names : List ℕ → Bool) (text : List ℕ)
    → AllByRecursion (TokenPlain text) (proper (tokens_under (λ _. names) text))
tokens_plain names text =
    each-passing (TokenPlain text) _ _
    (between_plain names text 0 (length text) _ (all-tokens (λ _. names) text))
