use Rattle.std.proofs.Common.{length, sym, subst}
use Rattle.outer_syntax.specs.Tokens.{AreTokensUnder}
use Rattle.outer_syntax.specs.Headings.{AreTokens}
use Rattle.outer_syntax.specs.Lexing.{tokens_under, tokens_of}
use Rattle.outer_syntax.proofs.FitLemmas.{are-under}
use Rattle.outer_syntax.proofs.KnownLexing.{are-tokens}
use Rattle.outer_syntax.proofs.TokenLaws.{one-between, one-tokens, joined-all}
use Rattle.outer_syntax.proofs.law.one_list.Goals as goal

pub returns : goal.returns
returns c = record {
  just = λ text aliases ts. (λ is. one-tokens text aliases ts (tokens_of text aliases) is (are-tokens text aliases), λ e. subst (AreTokens text aliases) (sym e) (are-tokens text aliases));
  under = λ names text ts. (λ is. one-between names text 0 (length text) ts (tokens_under names text) is (are-under names text), λ e. subst (AreTokensUnder names text) (sym e) (are-under names text));
  joins = joined-all;
}
