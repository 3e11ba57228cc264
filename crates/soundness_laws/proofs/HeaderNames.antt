-- The names of a header's keyword pairs are names of aliases.
use Rattle.std.proofs.Common.{◌≡◌, ◌↔◌, ℕ, zero, suc, Bool, true, false, cond, List, [], ◌∷◌, ◌++◌, length, take, map, codes, Option, Some, None, sym, refl, subst, ◌∙◌}
use Rattle.std.specs.List.{AllByRecursion}
use Rattle.std.specs.Option.{option_map_or}
use Rattle.std.proofs.lemmas.Bool.{or_parts}
use Rattle.text_words.proofs.KnownLists.{each-part}
use Rattle.outer_syntax.specs.Headings.{Word, Heading, words, words_of, import_words, pair_words, flat_pairs, proper}
use Rattle.outer_syntax.specs.Kinds.{is_proper}
use Rattle.outer_syntax.specs.Tokens.{text_of, IsToken, AreTokensBetween}
use Rattle.outer_syntax.specs.Words.{is_base_command, is_in_force, is_minor_keyword}
use Rattle.outer_syntax.specs.declared.bracket.Bracket.TheVariants.{Comment, String, Cartouche}
use Rattle.outer_syntax.specs.declared.kind.Kind.TheVariants as kind
use Rattle.outer_syntax.specs.declared.row.Row.TheVariants as row
use Rattle.outer_syntax.specs.declared.token.Token.{Token}
use Rattle.outer_syntax.proofs.KnownProper.{proper-cons}
use Rattle.outer_syntax.specs.Headers.{HasHeader, pair_of}
use Rattle.outer_syntax.specs.Reading.{header_in}
use Rattle.outer_syntax.specs.declared.parts.Header.{Header}
use Rattle.outer_syntax.specs.declared.parts.KeywordPair.{KeywordPair}
use Rattle.soundness_laws.specs.AliasNames.{IsAliasName}

names : List ℕ → Bool
names = is_in_force []

-- an identifier among words is such a name
abbrev WordNamed : Word → Type 0
WordNamed w = w.0 ≡ kind.Ident → IsAliasName w.1

word_named : (s : List ℕ) (command minor : Bool) → names s ≡ command → is_minor_keyword s ≡ minor → cond command kind.Command (cond minor kind.Keyword kind.Ident) ≡ kind.Ident
    → (is_base_command s ≡ false) × (is_minor_keyword s ≡ false)
unfolding names
word_named s true minor e f is = cc
word_named s false true e f is = cc
word_named s false false e f is = ((or_parts (is_base_command s) false e).0, f)

abbrev TokenNamed : List ℕ → Token → Type 0
TokenNamed text t = WordNamed (t.kind, text_of text t)

row_named : (text : List ℕ) (t : Token) → IsToken names text t → TokenNamed text t
unfolding names
row_named text t (row.Space, some, first, is) e = cc
row_named text t (row.Enclosed Comment, some, first, is) e = cc
row_named text t (row.Enclosed String, some, first, is) e = cc
row_named text t (row.Enclosed Cartouche, some, first, is) e = cc
row_named text t (row.Error, some, first, is) e = cc
row_named text t (row.Symbol, some, first, is) e = cc
row_named text t (row.LongIdent, some, first, is) e = cc
row_named text t (row.Sym, some, first, is) e = cc
row_named text t (row.Word, some, first, is) e =
    let parts = word_named (text_of text t) (names (text_of text t)) (is_minor_keyword (text_of text t)) refl refl (sym is ∙ e) in
    (first.longest.fits, parts.0, parts.1)

between_named : (text : List ℕ) (from to : ℕ) (ts : List Token) → AreTokensBetween (λ _. names) text from to ts → AllByRecursion (TokenNamed text) ts
between_named text from to [] are = tt
between_named text from to (t ∷ ts) are = (row_named text t are.1, between_named text t.range.stop to ts are.2)

proper_named : (text : List ℕ) (ts : List Token) → AllByRecursion (TokenNamed text) ts → AllByRecursion (TokenNamed text) (proper ts)
proper_named text [] all = tt
proper_named text (t ∷ ts) all = subst (AllByRecursion (TokenNamed text)) (sym (proper-cons t ts)) (go (is_proper t.kind) (proper_named text ts all.1))
  where
    go : (b : Bool) → AllByRecursion (TokenNamed text) (proper ts) → AllByRecursion (TokenNamed text) (cond b (t ∷ proper ts) (proper ts))
    go true more = (all.0, more)
    go false more = more

words_named : (text : List ℕ) (n : ℕ) (ts : List Token) → AllByRecursion (TokenNamed text) ts → AllByRecursion WordNamed (words text (take n ts))
words_named text zero ts all = tt
words_named text (suc n) [] all = tt
words_named text (suc n) (t ∷ ts) all = (all.0, words_named text n ts all.1)

-- the pairs of a heading
abbrev pub PairNamed : List ℕ × List ℕ → Type 0
PairNamed p = IsAliasName p.0

flat_named : (pairs : List (List ℕ × List ℕ)) → AllByRecursion WordNamed (flat_pairs pairs) → AllByRecursion PairNamed pairs
flat_named [] all = tt
flat_named (p ∷ pairs) all = (all.0 refl, flat_named pairs all.1.1.1)

pairs_named : (pairs : List (List ℕ × List ℕ)) → AllByRecursion WordNamed (pair_words pairs) → AllByRecursion PairNamed pairs
pairs_named [] all = tt
pairs_named (p ∷ pairs) all = flat_named (p ∷ pairs) all.1

heading_named : (h : Heading) → AllByRecursion WordNamed (words_of h) → AllByRecursion PairNamed h.pairs
heading_named h all =
    let front : List Word = (kind.Command, codes "theory") ∷ (kind.Ident, h.name) ∷ import_words h.imports in
    let most = (each-part WordNamed (front ++ pair_words h.pairs) ((kind.Keyword, codes "begin") ∷ []) all).0 in
    pairs_named h.pairs (each-part WordNamed front (pair_words h.pairs) most).1

abbrev pub OneNamed : KeywordPair → Type 0
OneNamed pair = IsAliasName pair.name

keywords_named : (pairs : List (List ℕ × List ℕ)) → AllByRecursion PairNamed pairs → AllByRecursion OneNamed (map pair_of pairs)
keywords_named [] all = tt
keywords_named (p ∷ pairs) all = (all.0, keywords_named pairs all.1)

-- what is known of headers
abbrev pub HeaderLaw : Type 0
HeaderLaw = (text : List ℕ) (h : Header) → HasHeader text h ↔ (header_in text ≡ Some h)

header_named : (text : List ℕ) (header : Header) → HasHeader text header → AllByRecursion OneNamed header.keywords
unfolding names
header_named text header (tokens, h, n, under, heading, is) =
    subst (λ (x : Header). AllByRecursion OneNamed x.keywords) (sym is)
    (keywords_named h.pairs (heading_named h (subst (AllByRecursion WordNamed) heading.spelled
    (words_named text n (proper tokens) (proper_named text tokens (between_named text 0 (length text) tokens under))))))

-- the keyword pairs of a text, if it has a header
pub text_named : HeaderLaw → (text : List ℕ) → AllByRecursion OneNamed (option_map_or (λ header. header.keywords) (header_in text) [])
text_named law text = go (header_in text) refl
  where
    go : (o : Option Header) → header_in text ≡ o → AllByRecursion OneNamed (option_map_or (λ (header : Header). header.keywords) o [])
    go (Some header) e = header_named text header ((law text header).1 e)
    go None e = tt
