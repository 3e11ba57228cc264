-- The tokens of a command's text where a space and more stand behind it.
use Rattle.std.proofs.Common.{◌≡◌, ℕ, ◌-◌, ◌<◌, Bool, true, false, List, [], ◌∷◌, ◌++◌, length, drop, sym, refl, ap, ◌∙◌, subst, arith}
use Rattle.std.specs.List.{AllByRecursion, prefix_len}
use Rattle.std.proofs.lemmas.Bool.{both_ways}
use Rattle.std.proofs.lemmas.List.{append-nil}
use Rattle.text_words.specs.Blanks.{is_blank}
use Rattle.outer_syntax.specs.Kinds.{is_command}
use Rattle.outer_syntax.specs.Rows.{rank, IsFirstRow}
use Rattle.outer_syntax.specs.Stages.{after_token, after_tokens}
use Rattle.outer_syntax.specs.Tokens.{IsToken, AreTokensBetween, text_of}
use Rattle.outer_syntax.specs.Words.{is_in_force, kind_of}
use Rattle.outer_syntax.specs.declared.bracket.Bracket.TheVariants.{Comment, String, Cartouche}
use Rattle.outer_syntax.specs.declared.row.Row.{Row}
use Rattle.outer_syntax.specs.declared.row.Row.TheVariants.{Space, Enclosed, Error, Symbol, LongIdent, Word, Sym}
use Rattle.outer_syntax.specs.declared.stage.Stage.{Stage}
use Rattle.outer_syntax.specs.declared.stage.Stage.TheVariants.{Ended, Absent}
use Rattle.outer_syntax.specs.declared.token.Token.{Token}
use Rattle.outer_syntax.proofs.KnownReading.{IsOn, no-header, ended-stays, absent-stays}
use Rattle.outer_syntax.proofs.KnownLexing.{AreStaged, all-tokens}
use Rattle.soundness_laws.specs.Insertion.{EndsWell, IsCommandText}
use Rattle.soundness_laws.proofs.SpacedTokens.{spaced}
use Rattle.soundness_laws.proofs.SpanSizes.{EndsProper}
use Rattle.soundness_laws.proofs.BlankLemmas.{no-blanks}
use Rattle.soundness_laws.proofs.StagedLemmas.{on-given, staged-steady, after-steady}

pub proper-ends : (ts : List Token) → EndsWell ts → EndsProper ts
proper-ends [] ends = ends
proper-ends (t ∷ []) ends = ends.0
proper-ends (t ∷ u ∷ ts) ends = proper-ends (u ∷ ts) ends

-- the tokens of the text, read from a stage on, come to another
pub record Inside (names : List (List ℕ)) (w q : List ℕ) (s next : Stage) : Type 0 where
  pub word : Token
  pub more : List Token
  pub begins : is_command word.kind ≡ true
  pub no_other : AllByRecursion (λ t. is_command t.kind ≡ false) more
  pub ends : EndsProper (word ∷ more)
  pub staged : AreStaged names (w ++ 32 ∷ q) s 0 (length w) (word ∷ more)
  pub after : after_tokens (w ++ 32 ∷ q) s (word ∷ more) ≡ next

module _ (names : List (List ℕ)) (w q : List ℕ) where
  between : (under : List (List ℕ)) (one : IsCommandText under w) → AreTokensBetween (λ _. is_in_force under) w 0 (length w) (one.word ∷ one.more)
  between under one = subst (AreTokensBetween (λ _. is_in_force under) w 0 (length w)) one.tokens_are (all-tokens (λ _. is_in_force under) w)

  made : (under : List (List ℕ)) (one : IsCommandText under w) (s next : Stage) → AreStaged names w s 0 (length w) (one.word ∷ one.more)
      → after_tokens w s (one.word ∷ one.more) ≡ next → Inside names w q s next
  made under one s next staged after =
      let here : AreStaged names (w ++ []) s 0 (length w) (one.word ∷ one.more) =
      subst (λ t. AreStaged names t s 0 (length w) (one.word ∷ one.more)) (sym (append-nil w)) staged in
      let far = spaced names w [] q s 0 (one.word ∷ one.more) here one.ends in
      record {
        word = one.word;
        more = one.more;
        begins = one.begins;
        no_other = one.no_other;
        ends = proper-ends (one.word ∷ one.more) one.ends;
        staged = far.staged;
        after = far.after ∙ ap (λ t. after_tokens t s (one.word ∷ one.more)) (append-nil w) ∙ after;
      }

  -- behind a header
  pub inside-ended : IsCommandText names w → Inside names w q Ended Ended
  inside-ended one =
      made names one Ended Ended (staged-steady names w Ended (ended-stays w) 0 (length w) (one.word ∷ one.more) (between names one))
      (after-steady w Ended (ended-stays w) (one.word ∷ one.more))

  -- where none has ended
  pub inside-on : (s : Stage) → IsOn s → IsCommandText [] w → Inside names w q s Absent
  inside-on s on one =
      let is = between [] one in
      let next : after_token w s one.word ≡ Absent = no-header w s one.word on one.begins in
      made [] one s Absent (
        (is.0, subst (λ g. IsToken (is_in_force g) w one.word) (sym (on-given s names on)) is.1),
        subst (λ n. AreStaged names w n one.word.range.stop (length w) one.more) (sym next) (staged-steady names w Absent (absent-stays w) one.word.range.stop (length w) one.more is.2),
      )
      (ap (λ n. after_tokens w n one.more) next ∙ after-steady w Absent (absent-stays w) one.more)

-- a command's row is not that of blanks
command-row : (g : List ℕ → Bool) (row : Row) (s : List ℕ) → is_command (kind_of g row s) ≡ true → 0 < rank row
command-row g Space s e = absurd (both_ways false refl e)
command-row g (Enclosed Comment) s e = omega arith
command-row g (Enclosed String) s e = omega arith
command-row g (Enclosed Cartouche) s e = omega arith
command-row g Error s e = omega arith
command-row g Symbol s e = omega arith
command-row g LongIdent s e = omega arith
command-row g Word s e = omega arith
command-row g Sym s e = omega arith

-- a text that begins with a command begins with no blank
pub no-blank-first : (g : List ℕ → Bool) (text : List ℕ) (t : Token) → t.range.start ≡ 0 → is_command t.kind ≡ true → IsToken g text t → prefix_len is_blank text ≡ 0
no-blank-first g text t starts command (row, some, first, kinds) =
    no-blanks text row (t.range.stop - t.range.start) (subst (λ n. IsFirstRow (drop n text) row (t.range.stop - t.range.start)) starts first)
    (command-row g row (text_of text t) (ap is_command (sym kinds) ∙ command))
