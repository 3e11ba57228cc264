use Rattle.std.proofs.Common.{ℕ, sym, subst, arith, length-drop}
use Rattle.outer_syntax.specs.Words.{is_in_force}
use Rattle.outer_syntax.specs.Tokens.{AreTokensBetween}
use Rattle.outer_syntax.specs.declared.token.Token.{Token}
use Rattle.outer_syntax.proofs.KnownLexing.{tokens-push}
use Rattle.outer_syntax.proofs.lexer.lex_under.Goals as goal

pub loop-token-preserved : goal.loop-token-preserved
loop-token-preserved c =
    let text = c.args.text.now in
    let names = is_in_force c.args.names.now in
    let t : Token = c.in-Some.token in
    let at = c.in-Some.ensures in (
      omega (arith, at.0, at.1.1, at.1.2.longest.within, length-drop t.range.start text, c.loop-token.invariant.0),
      subst (AreTokensBetween (λ _. names) text 0 t.range.stop) (sym c.in_ok-push.ensures.items)
          (tokens-push (λ _. names) text 0 c.loop-token.place c.loop-token.tokens.items t c.loop-token.invariant.1 at.0 at.1),
    )

pub returns : goal.returns
returns c =
    subst (λ (p : ℕ). AreTokensBetween (λ _. is_in_force c.args.names.now) c.args.text.now 0 p c.loop-token.tokens.items) c.in_default.ensures c.loop-token.invariant.1
