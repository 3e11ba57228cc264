-- The names of a text's header are identifiers, and stand on the first of its proper tokens.
use Rattle.std.proofs.Common.{◌≡◌, ◌↔◌, ℕ, zero, suc, Bool, List, [], ◌∷◌, ◌++◌, length, take, map}
use Rattle.std.proofs.Common.{codes, Some, sym, refl, ap, subst, ◌∙◌}
use Rattle.std.specs.List.{AllByRecursion}
use Rattle.text_words.specs.Identifier.{IsIdentifier}
use Rattle.text_words.proofs.KnownLists.{each-part, each-passing}
use Rattle.outer_syntax.specs.Headings.{Word, Heading, words, words_of, import_words, pair_words}
use Rattle.outer_syntax.specs.Headings.{flat_pairs, proper}
use Rattle.outer_syntax.specs.Lexing.{tokens_under}
use Rattle.outer_syntax.specs.Tokens.{text_of, IsToken, AreTokensBetween}
use Rattle.outer_syntax.specs.Words.{is_in_force}
use Rattle.outer_syntax.specs.declared.bracket.Bracket.TheVariants.{Comment, String, Cartouche}
use Rattle.outer_syntax.specs.declared.kind.Kind.TheVariants as kind
use Rattle.outer_syntax.specs.declared.row.Row.TheVariants as row
use Rattle.outer_syntax.specs.declared.token.Token.{Token}
use Rattle.outer_syntax.proofs.KnownLexing.{all-tokens, same-tokens}
use Rattle.outer_syntax.specs.Headers.{HasHeader, pair_of}
use Rattle.outer_syntax.specs.Reading.{header_in}
use Rattle.outer_syntax.specs.declared.parts.Header.{Header}
use Rattle.editor_laws.specs.Headed.{IsNamed, AreNamed}

base : List ℕ → Bool
base = is_in_force []

-- an identifier among words
abbrev WordNamed : Word → Type 0
WordNamed w = w.0 ≡ kind.Ident → IsIdentifier w.1

abbrev TokenNamed : List ℕ → Token → Type 0
TokenNamed text t = WordNamed (t.kind, text_of text t)

row_named : (text : List ℕ) (t : Token) → IsToken base text t → TokenNamed text t
unfolding base
row_named text t (row.Space, some, first, is) e = cc
row_named text t (row.Enclosed Comment, some, first, is) e = cc
row_named text t (row.Enclosed String, some, first, is) e = cc
row_named text t (row.Enclosed Cartouche, some, first, is) e = cc
row_named text t (row.Error, some, first, is) e = cc
row_named text t (row.Symbol, some, first, is) e = cc
row_named text t (row.LongIdent, some, first, is) e = cc
row_named text t (row.Sym, some, first, is) e = cc
row_named text t (row.Word, some, first, is) e = first.longest.fits

between_named : (text : List ℕ) (from to : ℕ) (ts : List Token)
    → AreTokensBetween (λ _. base) text from to ts → AllByRecursion (TokenNamed text) ts
between_named text from to [] are = tt
between_named text from to (t ∷ ts) are =
    (row_named text t are.1, between_named text t.range.stop to ts are.2)

-- the proper tokens of a text without aliases
abbrev pub base_tokens : List ℕ → List Token
base_tokens text = proper (tokens_under (λ _. is_in_force []) text)

base_named : (text : List ℕ) → AllByRecursion (TokenNamed text) (base_tokens text)
unfolding base
base_named text =
    each-passing (TokenNamed text) _ _
    (between_named text 0 (length text) _ (all-tokens (λ _. is_in_force []) text))

front_named : (text : List ℕ) (n : ℕ) (ts : List Token) → AllByRecursion (TokenNamed text) ts
    → AllByRecursion WordNamed (words text (take n ts))
front_named text zero ts all = tt
front_named text (suc n) [] all = tt
front_named text (suc n) (t ∷ ts) all = (all.0, front_named text n ts all.1)

-- the names of a heading's imports and pairs
idents_named : (names : List (List ℕ)) → AllByRecursion WordNamed (map (λ n. (kind.Ident, n)) names)
    → AllByRecursion IsIdentifier names
idents_named [] all = tt
idents_named (x ∷ names) all = (all.0 refl, idents_named names all.1)

imports_named : (names : List (List ℕ)) → AllByRecursion WordNamed (import_words names)
    → AllByRecursion IsIdentifier names
imports_named [] all = tt
imports_named (x ∷ names) all = idents_named (x ∷ names) all.1

flat_named : (pairs : List (List ℕ × List ℕ)) → AllByRecursion WordNamed (flat_pairs pairs)
    → AllByRecursion IsNamed (map pair_of pairs)
flat_named [] all = tt
flat_named (p ∷ pairs) all = (all.0 refl, flat_named pairs all.1.1.1)

pairs_named : (pairs : List (List ℕ × List ℕ)) → AllByRecursion WordNamed (pair_words pairs)
    → AllByRecursion IsNamed (map pair_of pairs)
pairs_named [] all = tt
pairs_named (p ∷ pairs) all = flat_named (p ∷ pairs) all.1

heading_named : (h : Heading) → AllByRecursion WordNamed (words_of h)
    → AllByRecursion IsIdentifier h.imports × AllByRecursion IsNamed (map pair_of h.pairs)
heading_named h all =
    let front : List Word =
    (kind.Command, codes "theory") ∷ (kind.Ident, h.name) ∷ import_words h.imports in
    let most = each-part WordNamed front (pair_words h.pairs)
    (each-part WordNamed (front ++ pair_words h.pairs)
    ((kind.Keyword, codes "begin") ∷ []) all).0 in
    (imports_named h.imports most.0.1.1, pairs_named h.pairs most.1)

-- what is known of headers
abbrev pub HeaderLaw : Type 0
HeaderLaw = (text : List ℕ) (h : Header) → HasHeader text h ↔ (header_in text ≡ Some h)

-- the first tokens are the words of the heading that the header is of
pub record IsHeadOf (text : List ℕ) (header : Header) : Type 0 where
  pub heading : Heading
  pub count : ℕ
  pub spelled : words text (take count (base_tokens text)) ≡ words_of heading
  pub imports : header.imports ≡ heading.imports
  pub keywords : header.keywords ≡ map pair_of heading.pairs

pub head_of : HeaderLaw → (text : List ℕ) (header : Header) → header_in text ≡ Some header
    → IsHeadOf text header
head_of law text header e =
    let has : HasHeader text header = (law text header).1 e in
    let same : has.0 ≡ tokens_under (λ _. is_in_force []) text =
    same-tokens (λ _. is_in_force []) text has.0 (tokens_under (λ _. is_in_force []) text) has.3
    (all-tokens (λ _. is_in_force []) text) in
    record {
      heading = has.1;
      count = has.2;
      spelled = ap (λ ts. words text (take has.2 (proper ts))) (sym same) ∙ has.4.spelled;
      imports = ap (λ (h : Header). h.imports) has.5;
      keywords = ap (λ (h : Header). h.keywords) has.5;
    }

pub header_named : HeaderLaw → (text : List ℕ) (header : Header) → header_in text ≡ Some header
    → AreNamed header.imports header.keywords
header_named law text header e =
    let head = head_of law text header e in
    let named = heading_named head.heading
    (subst (AllByRecursion WordNamed) head.spelled
    (front_named text head.count (base_tokens text) (base_named text))) in
    record {
      imports_are = subst (AllByRecursion IsIdentifier) (sym head.imports) named.0;
      keywords_are = subst (AllByRecursion IsNamed) (sym head.keywords) named.1;
    }
