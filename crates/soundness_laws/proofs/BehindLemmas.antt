-- What blanks are to the tokens behind them.
use Rattle.std.proofs.Common.{◌≡◌, inl, inr, ℕ, ◌+◌, ◌-◌, ◌<◌, ◌≤◌, false, List, [], ◌∷◌, ◌++◌, length, drop, sym, refl, ap, ◌∙◌, subst, ⊎_elim, arith, length-append}
use Rattle.std.specs.List.{prefix_len}
use Rattle.std.proofs.lemmas.Bool.{both_ways, cases_lt, cond-false}
use Rattle.std.proofs.lemmas.List.Sums.{prefix_len-le-length}
use Rattle.std.proofs.Math.Seq.{drop-append_seam}
use Rattle.text_words.specs.Blanks.{is_blank}
use Rattle.outer_syntax.specs.Kinds.{is_proper, is_command}
use Rattle.outer_syntax.specs.Rows.{rank, IsFirstRow}
use Rattle.outer_syntax.specs.Stages.{after_word, given}
use Rattle.outer_syntax.specs.Tokens.{text_of}
use Rattle.outer_syntax.specs.Words.{is_in_force, kind_of}
use Rattle.outer_syntax.specs.declared.bracket.Bracket.TheVariants.{Comment, String, Cartouche}
use Rattle.outer_syntax.specs.declared.kind.Kind.TheVariants as kind
use Rattle.outer_syntax.specs.declared.row.Row.{Row}
use Rattle.outer_syntax.specs.declared.row.Row.TheVariants.{Space, Enclosed, Error, Symbol, LongIdent, Word, Sym}
use Rattle.outer_syntax.specs.declared.stage.Stage.{Stage}
use Rattle.outer_syntax.specs.declared.token.Token.{Token}
use Rattle.outer_syntax.proofs.KnownLexing.{AreStaged}
use Rattle.command_spans.specs.Cutting.{spans_of}
use Rattle.soundness_laws.proofs.SpanSizes.{Waits}
use Rattle.soundness_laws.proofs.SpanLemmas.{ranges, ranges-improper}
use Rattle.soundness_laws.proofs.BlankLemmas.{blanks-of, no-blanks}

-- the tokens behind the blanks that follow a place
pub record Behind (names : List (List ℕ)) (p q : List ℕ) (s : Stage) (back : List Token) : Type 0 where
  pub rest : List Token
  pub n : ℕ
  pub blanks : prefix_len is_blank q ≡ n
  pub staged : AreStaged names (p ++ q) s (length p + n) (length (p ++ q)) rest
  pub waits : Waits rest
  pub same : ranges (spans_of rest) ≡ ranges (spans_of back)

lowest : (r : Row) → rank r ≤ 0 → r ≡ Space
lowest Space low = refl
lowest (Enclosed Comment) low = absurd (omega (arith, low))
lowest (Enclosed String) low = absurd (omega (arith, low))
lowest (Enclosed Cartouche) low = absurd (omega (arith, low))
lowest Error low = absurd (omega (arith, low))
lowest Symbol low = absurd (omega (arith, low))
lowest LongIdent low = absurd (omega (arith, low))
lowest Word low = absurd (omega (arith, low))
lowest Sym low = absurd (omega (arith, low))

waits-on : (t : Token) (ts : List Token) → is_proper t.kind ≡ false → is_command t.kind ≡ false → Waits (t ∷ ts) → Waits ts
waits-on t ts improper other (inl command) = absurd (both_ways (is_command t.kind) other command)
waits-on t ts improper other (inr more) = more.1

pub behind : (names : List (List ℕ)) (p q : List ℕ) (s : Stage) (back : List Token) → Waits back → AreStaged names (p ++ q) s (length p) (length (p ++ q)) back → Behind names p q s back
behind names p q s [] waits is = record {
  rest = [];
  n = 0;
  blanks = omega (arith, prefix_len-le-length is_blank q, is, length-append p q);
  staged = omega (arith, is);
  waits = waits;
  same = refl;
}
behind names p q s (t ∷ ts) waits ((starts, (row, some, first, kinds)), more) =
    let here : IsFirstRow q row (t.range.stop - t.range.start) =
    subst (λ r. IsFirstRow r row (t.range.stop - t.range.start)) (drop-append_seam p q) (subst (λ n. IsFirstRow (drop n (p ++ q)) row (t.range.stop - t.range.start)) starts first) in
    ⊎_elim
    (λ (other : 0 < rank row). record {
      rest = t ∷ ts;
      n = 0;
      blanks = no-blanks q row (t.range.stop - t.range.start) here other;
      staged = ((omega (arith, starts), (row, some, first, kinds)), more);
      waits = waits;
      same = refl;
    })
    (λ (low : rank row ≤ 0).
    let is : row ≡ Space = lowest row low in
    let space : t.kind ≡ kind.Space = kinds ∙ ap (λ r. kind_of (is_in_force (given s names)) r (text_of (p ++ q) t)) is in
    let improper : is_proper t.kind ≡ false = ap is_proper space in
    let n : ℕ = t.range.stop - t.range.start in
    let place : length p + n ≡ t.range.stop = omega (arith, starts, some) in
    record {
      rest = ts;
      n = n;
      blanks = blanks-of q n (subst (λ r. IsFirstRow q r n) is here) (omega (arith, some));
      staged = subst (λ a. AreStaged names (p ++ q) s a (length (p ++ q)) ts) (sym place)
          (subst (λ x. AreStaged names (p ++ q) x t.range.stop (length (p ++ q)) ts) (cond-false (is_proper t.kind) (after_word s (t.kind, text_of (p ++ q) t)) s improper) more);
      waits = waits-on t ts improper (ap is_command space) waits;
      same = sym (ranges-improper t ts improper);
    })
    (cases_lt 0 (rank row))
