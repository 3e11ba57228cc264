-- Identifiers among a command's tokens are free names, where they are read under the aliases.
use Rattle.std.proofs.Common.{◌≡◌, ℕ, Bool, true, false, cond, List, [], ◌∷◌, length, drop, codes, sym, refl, subst, ◌∙◌}
use Rattle.std.specs.Prelude.{⊤}
use Rattle.std.specs.List.{AllByRecursion}
use Rattle.pide_base.specs.declared.range.Range.{Range}
use Rattle.outer_syntax.specs.Headings.{proper}
use Rattle.outer_syntax.specs.Kinds.{is_proper}
use Rattle.outer_syntax.specs.Lexing.{tokens_under}
use Rattle.outer_syntax.specs.Tokens.{text_of, IsToken, AreTokensBetween}
use Rattle.outer_syntax.specs.Words.{is_in_force, is_minor_keyword}
use Rattle.outer_syntax.specs.declared.bracket.Bracket.TheVariants.{Comment, String, Cartouche}
use Rattle.outer_syntax.specs.declared.kind.Kind.{Kind}
use Rattle.outer_syntax.specs.declared.kind.Kind.TheVariants as kind
use Rattle.outer_syntax.specs.declared.row.Row.TheVariants.{Space, Enclosed, Error, Symbol, LongIdent, Word, Sym}
use Rattle.outer_syntax.specs.declared.token.Token.{Token}
use Rattle.outer_syntax.proofs.KnownLexing.{all-tokens}
use Rattle.outer_syntax.proofs.KnownProper.{proper-cons}
use Rattle.doc_nodes.specs.Names.{equal}
use Rattle.isar_rules.specs.Words as words
use Rattle.soundness_laws.specs.Citable.{IsFree}

module _ (aliases : List (List ℕ)) where
  names : List ℕ → Bool
  names = is_in_force aliases

  -- what is true of identifiers alone
  abbrev pub IfIdent : Kind → List ℕ → Type 0
  IfIdent k s = k ≡ kind.Ident → IsFree aliases s

  word_free : (s : List ℕ) (command minor : Bool) → names s ≡ command → is_minor_keyword s ≡ minor → cond command kind.Command (cond minor kind.Keyword kind.Ident) ≡ kind.Ident
      → (names s ≡ false) × (is_minor_keyword s ≡ false)
  word_free s true minor e f is = cc
  word_free s false true e f is = cc
  word_free s false false e f is = (e, f)

  row_free : (text : List ℕ) (t : Token) → IsToken names text t → IfIdent t.kind (text_of text t)
  unfolding names
  row_free text t (Space, some, first, is) e = cc
  row_free text t (Enclosed Comment, some, first, is) e = cc
  row_free text t (Enclosed String, some, first, is) e = cc
  row_free text t (Enclosed Cartouche, some, first, is) e = cc
  row_free text t (Error, some, first, is) e = cc
  row_free text t (Symbol, some, first, is) e = cc
  row_free text t (LongIdent, some, first, is) e = cc
  row_free text t (Sym, some, first, is) e = cc
  row_free text t (Word, some, first, is) e =
      let parts = word_free (text_of text t) (names (text_of text t)) (is_minor_keyword (text_of text t)) refl refl (sym is ∙ e) in
      (first.longest.fits, parts.0, parts.1)

  abbrev pub TokenFree : List ℕ → Token → Type 0
  TokenFree text t = IfIdent t.kind (text_of text t)

  between_free : (text : List ℕ) (from to : ℕ) (ts : List Token) → AreTokensBetween (λ _. names) text from to ts → AllByRecursion (TokenFree text) ts
  between_free text from to [] are = tt
  between_free text from to (t ∷ ts) are = (row_free text t are.1, between_free text t.range.stop to ts are.2)

  proper_free : (text : List ℕ) (ts : List Token) → AllByRecursion (TokenFree text) ts → AllByRecursion (TokenFree text) (proper ts)
  proper_free text [] all = tt
  proper_free text (t ∷ ts) all = subst_sym (go (is_proper t.kind) (proper_free text ts all.1))
    where
      go : (b : Bool) → AllByRecursion (TokenFree text) (proper ts) → AllByRecursion (TokenFree text) (cond b (t ∷ proper ts) (proper ts))
      go true more = (all.0, more)
      go false more = more

      subst_sym : AllByRecursion (TokenFree text) (cond (is_proper t.kind) (t ∷ proper ts) (proper ts)) → AllByRecursion (TokenFree text) (proper (t ∷ ts))
      subst_sym h = subst (AllByRecursion (TokenFree text)) (sym (proper-cons t ts)) h

  -- a name among words is free
  abbrev pub WordFree : words.Word → Type 0
  WordFree (words.name s) = IsFree aliases s.text
  WordFree _ = ⊤

  sign_free : (text : List ℕ) → WordFree (words.sign text)
  sign_free text = go (equal text (codes ":")) (equal text (codes "-"))
    where
      go : (a b : Bool) → WordFree (cond a words.colon (cond b words.dash words.other))
      go true b = tt
      go false true = tt
      go false false = tt

  kind_free : (k : Kind) (text : List ℕ) (range : Range) → IfIdent k text → WordFree (words.word k text range)
  kind_free kind.Ident text range free = free refl
  kind_free kind.Sym text range free = sign_free text
  kind_free kind.String text range free = tt
  kind_free kind.Cartouche text range free = tt
  kind_free _ text range free = tt

  words_free : (source : List ℕ) (ts : List Token) → AllByRecursion (TokenFree source) ts → AllByRecursion WordFree (words.words source ts)
  words_free source [] all = tt
  words_free source (t ∷ ts) all = (kind_free t.kind (text_of source t) t.range all.0, words_free source ts all.1)

  pub tokens_free : (source : List ℕ) → AllByRecursion (TokenFree source) (proper (tokens_under (λ _. is_in_force aliases) source))
  unfolding names
  tokens_free source = proper_free source _ (between_free source 0 (length source) _ (all-tokens (λ _. is_in_force aliases) source))

  pub rest_free : (source : List ℕ) (ts : List Token) → AllByRecursion (TokenFree source) ts → AllByRecursion WordFree (words.words source (drop 1 ts))
  rest_free source [] all = tt
  rest_free source (t ∷ ts) all = words_free source ts all.1
