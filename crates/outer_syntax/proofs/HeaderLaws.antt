-- Each text has one header or none.
use Rattle.std.proofs.Common.{◌≡◌, ◌⊎◌, ℕ, Option, None, Some, List, [], ◌∷◌, ◌++◌, take, drop, map, sym, refl, ap, ◌∙◌, subst, inl, inr, append_assoc}
use Rattle.std.specs.Prelude.{codes, MatchOption}
use Rattle.outer_syntax.specs.Words.{is_in_force}
use Rattle.outer_syntax.specs.Headings.{Heading, Word, flat_pairs, import_words, pair_words, words, words_of, IsHeading, IsHeadingEnd, proper}
use Rattle.outer_syntax.specs.Stages.{end_from}
use Rattle.outer_syntax.specs.Lexing.{tokens_under}
use Rattle.outer_syntax.specs.declared.kind.Kind.{Kind}
use Rattle.outer_syntax.specs.declared.kind.Kind.TheVariants.{Keyword, Ident}
use Rattle.outer_syntax.specs.declared.stage.Stage.TheVariants.{Start}
use Rattle.outer_syntax.specs.declared.token.Token.{Token}
use Rattle.outer_syntax.proofs.KnownHeadings.{heading-end, one-size}
use Rattle.outer_syntax.proofs.KnownLexing.{all-tokens, same-tokens}
use Rattle.outer_syntax.specs.Headers.{header_of, AreBaseTokens, HasHeader, HasNoHeader}
use Rattle.outer_syntax.specs.Reading.{header_in}
use Rattle.outer_syntax.specs.declared.parts.Header.{Header}
use Rattle.outer_syntax.proofs.StopLemmas.{in-tells}

-- the kind and the scalars of the first word
abbrev kind_first : List Word → Kind
kind_first [] = Keyword
kind_first (w ∷ ws) = w.0

abbrev text_first : List Word → List ℕ
text_first [] = []
text_first (w ∷ ws) = w.1

-- the words begin with a keyword
abbrev KeywordFirst : List Word → Type 0
KeywordFirst ws = (name : List ℕ) × (rest : List Word) × (ws ≡ (Keyword, name) ∷ rest)

names-equal : (ns ms : List (List ℕ)) (xs ys : List Word) → KeywordFirst xs → KeywordFirst ys → map (λ n. (Ident, n)) ns ++ xs ≡ map (λ n. (Ident, n)) ms ++ ys → (ns ≡ ms) × (xs ≡ ys)
names-equal [] [] xs ys one other e = (refl, e)
names-equal [] (m ∷ ms) xs ys one other e = let no : Keyword ≡ Ident = ap kind_first (sym one.2 ∙ e) in absurd (cc (no))
names-equal (n ∷ ns) [] xs ys one other e = let no : Ident ≡ Keyword = ap kind_first (e ∙ other.2) in absurd (cc (no))
names-equal (n ∷ ns) (m ∷ ms) xs ys one other e =
    let first : n ≡ m = ap text_first e in
    let rest : map (λ n. (Ident, n)) ns ++ xs ≡ map (λ n. (Ident, n)) ms ++ ys = ap (drop 1) e in
    let more = names-equal ns ms xs ys one other rest in
    ((λ i. first i ∷ more.0 i), more.1)

pairs-equal : (ps qs : List (List ℕ × List ℕ)) → flat_pairs ps ++ (Keyword, codes "begin") ∷ [] ≡ flat_pairs qs ++ (Keyword, codes "begin") ∷ [] → ps ≡ qs
pairs-equal [] [] e = refl
pairs-equal [] (q ∷ qs) e = let no : Keyword ≡ Ident = ap kind_first e in absurd (cc (no))
pairs-equal (p ∷ ps) [] e = let no : Ident ≡ Keyword = ap kind_first e in absurd (cc (no))
pairs-equal (p ∷ ps) (q ∷ qs) e =
    let names : p.0 ≡ q.0 = ap text_first e in
    let strings : p.1 ≡ q.1 = ap (λ ws. text_first (drop 2 ws)) e in
    let more : ps ≡ qs = pairs-equal ps qs (ap (drop 3) e) in
    λ i. (names i, strings i) ∷ more i

keyword-pairs : (ps : List (List ℕ × List ℕ)) → KeywordFirst (pair_words ps ++ (Keyword, codes "begin") ∷ [])
keyword-pairs [] = (codes "begin", [], refl)
keyword-pairs (p ∷ ps) = (codes "keywords", flat_pairs (p ∷ ps) ++ (Keyword, codes "begin") ∷ [], refl)

after-imports : (ps qs : List (List ℕ × List ℕ)) → pair_words ps ++ (Keyword, codes "begin") ∷ [] ≡ pair_words qs ++ (Keyword, codes "begin") ∷ [] → ps ≡ qs
after-imports [] [] e = refl
after-imports [] (q ∷ qs) e = let no : codes "begin" ≡ codes "keywords" = ap text_first e in absurd (cc (no))
after-imports (p ∷ ps) [] e = let no : codes "keywords" ≡ codes "begin" = ap text_first e in absurd (cc (no))
after-imports (p ∷ ps) (q ∷ qs) e = pairs-equal (p ∷ ps) (q ∷ qs) (ap (drop 1) e)

imports-first : (n : List ℕ) (rest : List Word) (ps : List (List ℕ × List ℕ)) → (Keyword, codes "imports") ∷ rest ≡ pair_words ps ++ (Keyword, codes "begin") ∷ [] → ⊥
imports-first n rest [] e = let no : codes "imports" ≡ codes "begin" = ap text_first e in cc (no)
imports-first n rest (p ∷ ps) e = let no : codes "imports" ≡ codes "keywords" = ap text_first e in cc (no)

parts-equal : (ns ms : List (List ℕ)) (ps qs : List (List ℕ × List ℕ)) → import_words ns ++ (pair_words ps ++ (Keyword, codes "begin") ∷ []) ≡ import_words ms ++ (pair_words qs ++ (Keyword, codes "begin") ∷ []) → (ns ≡ ms) × (ps ≡ qs)
parts-equal [] [] ps qs e = (refl, after-imports ps qs e)
parts-equal [] (m ∷ ms) ps qs e = absurd (imports-first m _ ps (sym e))
parts-equal (n ∷ ns) [] ps qs e = absurd (imports-first n _ qs e)
parts-equal (n ∷ ns) (m ∷ ms) ps qs e =
    let rest : map (λ n. (Ident, n)) (n ∷ ns) ++ (pair_words ps ++ (Keyword, codes "begin") ∷ []) ≡ map (λ n. (Ident, n)) (m ∷ ms) ++ (pair_words qs ++ (Keyword, codes "begin") ∷ []) = ap (drop 1) e in
    let more = names-equal (n ∷ ns) (m ∷ ms) _ _ (keyword-pairs ps) (keyword-pairs qs) rest in
    (more.0, after-imports ps qs more.1)

-- a header is told by its words
one-heading : (h k : Heading) → words_of h ≡ words_of k → h ≡ k
one-heading h k e =
    let names : h.name ≡ k.name = ap (λ ws. text_first (drop 1 ws)) e in
    let rest : (import_words h.imports ++ pair_words h.pairs) ++ (Keyword, codes "begin") ∷ [] ≡ (import_words k.imports ++ pair_words k.pairs) ++ (Keyword, codes "begin") ∷ [] = ap (drop 2) e in
    let more = parts-equal h.imports k.imports h.pairs k.pairs (sym (append_assoc (import_words h.imports) (pair_words h.pairs) ((Keyword, codes "begin") ∷ [])) ∙ rest ∙ append_assoc (import_words k.imports) (pair_words k.pairs) ((Keyword, codes "begin") ∷ [])) in
    λ i. record { name = names i; imports = more.0 i; pairs = more.1 i }

pub one-header : (text : List ℕ) (a b : Header) → HasHeader text a → HasHeader text b → a ≡ b
one-header text a b (ts, h, m, tokens, is, e) (us, k, n, tokens', is', e') =
    let same : ts ≡ us = same-tokens (λ _. is_in_force []) text ts us tokens tokens' in
    let there : IsHeading text (proper ts) k n = subst (λ x. IsHeading text (proper x) k n) (sym same) is' in
    let sizes : m ≡ n = one-size text (proper ts) h k m n is there in
    let heads : h ≡ k = one-heading h k (sym is.spelled ∙ ap (λ j. words text (take j (proper ts))) sizes ∙ there.spelled) in
    e ∙ ap header_of heads ∙ sym e'

pub header-apart : (text : List ℕ) (a : Header) → HasHeader text a → HasNoHeader text → ⊥
header-apart text a (ts, h, m, tokens, is, e) (us, tokens', none) =
    none h m (subst (λ x. IsHeading text (proper x) h m) (same-tokens (λ _. is_in_force []) text ts us tokens tokens') is)

by-end : (text : List ℕ) (ts : List Token) → AreBaseTokens text ts → (o : Option ℕ) → IsHeadingEnd text (proper ts) o → HasNoHeader text ⊎ ((h : Header) × HasHeader text h)
by-end text ts is None none = inl (ts, is, none)
by-end text ts is (Some stop) (h, n, last, heading, at, ends) = inr (header_of h, (ts, h, n, is, heading, refl))

pub header-either : (text : List ℕ) → HasNoHeader text ⊎ ((h : Header) × HasHeader text h)
header-either text =
    let ts : List Token = tokens_under (λ _. is_in_force []) text in
    by-end text ts (all-tokens (λ _. is_in_force []) text) (end_from text Start ts) (heading-end text ts)

told-just : (text : List ℕ) (h : Header) (o : Option Header) → MatchOption o (HasNoHeader text) (HasHeader text) → (HasHeader text h → o ≡ Some h) × (o ≡ Some h → HasHeader text h)
told-just text h None none = (λ has. absurd (header-apart text h has none), λ e. absurd (cc (e)))
told-just text h (Some k) has = (λ is. ap Some (one-header text k h has is), λ e. let same : k ≡ h = cc (e) in subst (HasHeader text) same has)

told-none : (text : List ℕ) (o : Option Header) → MatchOption o (HasNoHeader text) (HasHeader text) → (HasNoHeader text → o ≡ None) × (o ≡ None → HasNoHeader text)
told-none text None none = (λ is. refl, λ e. none)
told-none text (Some k) has = (λ none. absurd (header-apart text k has none), λ e. absurd (cc (e)))

pub header-just : (text : List ℕ) (h : Header) → (HasHeader text h → header_in text ≡ Some h) × (header_in text ≡ Some h → HasHeader text h)
header-just text h = told-just text h (header_in text) (in-tells text)

pub header-none : (text : List ℕ) → (HasNoHeader text → header_in text ≡ None) × (header_in text ≡ None → HasNoHeader text)
header-none text = told-none text (header_in text) (in-tells text)
