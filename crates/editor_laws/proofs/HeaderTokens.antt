-- Where a source is a header, the tokens of its names are identifiers.
use Rattle.std.proofs.Common.{◌≡◌, ℕ, zero, suc, List, [], ◌∷◌, ◌++◌, length, take, drop, map}
use Rattle.std.proofs.Common.{codes, ap, ◌∙◌, append_assoc}
use Rattle.std.specs.List.{AllByRecursion}
use Rattle.outer_syntax.specs.Headings.{Word, Heading, words, words_of, import_words, pair_words}
use Rattle.outer_syntax.specs.declared.kind.Kind.{Kind}
use Rattle.outer_syntax.specs.declared.kind.Kind.TheVariants as kind
use Rattle.outer_syntax.specs.declared.token.Token.{Token}

abbrev pub IsIdent : Token → Type 0
IsIdent t = t.kind ≡ kind.Ident

-- the kind of the first word
abbrev kind_first : List Word → Kind
kind_first [] = kind.Space
kind_first (w ∷ ws) = w.0

module _ (source : List ℕ) where
  idents_first : (names : List (List ℕ)) (n : ℕ) (ts : List Token) (rest : List Word)
      → words source (take n ts) ≡ map (λ name. (kind.Ident, name)) names ++ rest
      → AllByRecursion IsIdent (take (length names) ts)
  idents_first [] n ts rest e = tt
  idents_first (x ∷ names) zero ts rest e = cc
  idents_first (x ∷ names) (suc n) [] rest e = cc
  idents_first (x ∷ names) (suc n) (t ∷ ts) rest e =
      (ap kind_first e, idents_first names n ts rest (ap (drop 1) e))

  imports_first : (names : List (List ℕ)) (n : ℕ) (ts : List Token) (rest : List Word)
      → words source (take n ts) ≡ import_words names ++ rest
      → AllByRecursion IsIdent (take (length names) (drop 1 ts))
  imports_first [] n ts rest e = tt
  imports_first (x ∷ names) zero ts rest e = cc
  imports_first (x ∷ names) (suc n) [] rest e = cc
  imports_first (x ∷ names) (suc n) (t ∷ ts) rest e =
      idents_first (x ∷ names) n ts rest (ap (drop 1) e)

  -- the tokens of the theory's name and of the imports
  pub names_first : (h : Heading) (n : ℕ) (one name : Token) (more : List Token)
      → words source (take n (one ∷ name ∷ more)) ≡ words_of h
      → IsIdent name × AllByRecursion IsIdent (take (length h.imports) (drop 1 more))
  names_first h zero one name more e = cc
  names_first h (suc zero) one name more e = cc
  names_first h (suc (suc n)) one name more e = (
    ap (λ ws. kind_first (drop 1 ws)) e,
    imports_first h.imports n more (pair_words h.pairs ++ (kind.Keyword, codes "begin") ∷ [])
        (ap (drop 2) e
        ∙ append_assoc (import_words h.imports) (pair_words h.pairs)
        ((kind.Keyword, codes "begin") ∷ [])),
  )
