-- Where a header ends is told by the text's tokens, whatever aliases they are read under.
use Rattle.std.proofs.Common.{◌≡◌, ℕ, Bool, true, false, List, [], ◌∷◌, length, map, Some, refl, sym, ap, subst, ◌∙◌}
use Rattle.std.proofs.lemmas.Bool.{false≢true}
use Rattle.std.specs.Prelude.{if◌then◌else◌}
use Rattle.outer_syntax.specs.Renaming.{is_word, renamed}
use Rattle.outer_syntax.specs.Stages.{after_token, is_ended, given, end_from}
use Rattle.outer_syntax.specs.Lexing.{tokens_under}
use Rattle.outer_syntax.specs.Tokens.{text_of, IsToken, AreTokensBetween}
use Rattle.outer_syntax.specs.Words.{kind_of, is_in_force}
use Rattle.outer_syntax.specs.declared.bracket.Bracket.TheVariants.{Comment, String, Cartouche}
use Rattle.outer_syntax.specs.declared.kind.Kind.{Kind}
use Rattle.outer_syntax.specs.declared.row.Row.{Row}
use Rattle.outer_syntax.specs.declared.row.Row.TheVariants.{Space, Enclosed, Error, Symbol, LongIdent, Word, Sym}
use Rattle.outer_syntax.specs.declared.stage.Stage.{Stage}
use Rattle.outer_syntax.specs.declared.stage.Stage.TheVariants.{Start}
use Rattle.outer_syntax.specs.declared.token.Token.{Token}
use Rattle.outer_syntax.proofs.KnownKept.{renamed-token, renamed-range}
use Rattle.outer_syntax.proofs.KnownLexing.{AreStaged, all-tokens, same-tokens, given-none}

-- a word's kind is that of a word
word_kind : (names : List ℕ → Bool) (row : Row) (s : List ℕ) (k : Kind) → k ≡ kind_of names row s → is_word k ≡ true → kind_of names Word s ≡ k
word_kind names Word s k e w = sym e
word_kind names Space s k e w = absurd (false≢true (sym (ap is_word e) ∙ w))
word_kind names (Enclosed Comment) s k e w = absurd (false≢true (sym (ap is_word e) ∙ w))
word_kind names (Enclosed String) s k e w = absurd (false≢true (sym (ap is_word e) ∙ w))
word_kind names (Enclosed Cartouche) s k e w = absurd (false≢true (sym (ap is_word e) ∙ w))
word_kind names Error s k e w = absurd (false≢true (sym (ap is_word e) ∙ w))
word_kind names Symbol s k e w = absurd (false≢true (sym (ap is_word e) ∙ w))
word_kind names LongIdent s k e w = absurd (false≢true (sym (ap is_word e) ∙ w))
word_kind names Sym s k e w = absurd (false≢true (sym (ap is_word e) ∙ w))

-- a token under some names is itself under these
itself : (names : List ℕ → Bool) (text : List ℕ) (t : Token) → IsToken names text t → renamed names text t ≡ t
itself names text t (row, some, first, kind) = go (is_word t.kind) refl
  where
    go : (b : Bool) → is_word t.kind ≡ b → (if b then record t { kind = kind_of names Word (text_of text t) } else t) ≡ t
    go true w = ap (λ k. record t { kind = k }) (word_kind names row (text_of text t) t.kind kind w)
    go false w = refl

module _ (aliases : List (List ℕ)) (text : List ℕ) where
  abbrev pub base : Token → Token
  base t = renamed (is_in_force []) text t

  based : (stage : Stage) (from to : ℕ) (ts : List Token) → AreStaged aliases text stage from to ts
      → AreTokensBetween (λ _. is_in_force []) text from to (map base ts)
  based stage from to [] same = same
  based stage from to (t ∷ ts) ((start, token), rest) =
      let same : (base t).range ≡ t.range = renamed-range (is_in_force []) text t in (
        ap (λ r. r.start) same ∙ start,
        renamed-token (is_in_force (given stage aliases)) (is_in_force []) text t token,
        subst (λ r. AreTokensBetween (λ _. is_in_force []) text r.stop to (map base ts)) (sym same)
            (based (after_token text stage t) t.range.stop to ts rest),
      )

  same_read : (ts : List Token) (s : Stage) (from to : ℕ) → is_ended s ≡ false → AreStaged aliases text s from to ts
      → end_from text s (map base ts) ≡ end_from text s ts
  same_read [] s from to on is = refl
  same_read (t ∷ ts) s from to on ((start, token), rest) =
      let plain : is_in_force (given s aliases) ≡ is_in_force [] = ap is_in_force (given-none s aliases on) in
      let unaliased : IsToken (is_in_force []) text t = subst (λ names. IsToken names text t) plain token in
      ap (λ u. end_from text s (u ∷ map base ts)) (itself (is_in_force []) text t unaliased)
      ∙ go (is_ended (after_token text s t)) refl
      (λ e. same_read ts (after_token text s t) t.range.stop to e rest)
    where
      go : (b : Bool) → is_ended (after_token text s t) ≡ b
          → (is_ended (after_token text s t) ≡ false → end_from text (after_token text s t) (map base ts) ≡ end_from text (after_token text s t) ts)
          → (if b then Some t.range.stop else end_from text (after_token text s t) (map base ts))
          ≡ (if b then Some t.range.stop else end_from text (after_token text s t) ts)
      go true e more = refl
      go false e more = more e

  -- the tokens without aliases
  pub base_tokens : (ts : List Token) → AreStaged aliases text Start 0 (length text) ts
      → tokens_under (λ _. is_in_force []) text ≡ map base ts
  base_tokens ts is = same-tokens (λ _. is_in_force []) text (tokens_under (λ _. is_in_force []) text) (map base ts)
      (all-tokens (λ _. is_in_force []) text) (based Start 0 (length text) ts is)

  -- the header ends where these tell
  pub end_read : (ts : List Token) → AreStaged aliases text Start 0 (length text) ts
      → end_from text Start (tokens_under (λ _. is_in_force []) text) ≡ end_from text Start ts
  end_read ts is = ap (end_from text Start) (base_tokens ts is) ∙ same_read ts Start 0 (length text) refl is
