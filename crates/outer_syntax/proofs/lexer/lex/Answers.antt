use Rattle.std.proofs.Common.{◌∙◌, List, ℕ, sym, ap, subst, arith, length-drop}
use Rattle.outer_syntax.specs.Words.{is_in_force}
use Rattle.outer_syntax.specs.Tokens.{IsTokenAt}
use Rattle.outer_syntax.specs.Stages.{after_token, after_tokens, given}
use Rattle.outer_syntax.specs.declared.stage.Stage.{Stage}
use Rattle.outer_syntax.specs.declared.stage.Stage.TheVariants.{Start}
use Rattle.outer_syntax.specs.declared.token.Token.{Token}
use Rattle.outer_syntax.proofs.KnownLexing.{AreStaged, staged-push, after-push, staged-tokens}
use Rattle.outer_syntax.proofs.lexer.lex.Goals as goal

pub loop-token-preserved : goal.loop-token-preserved
loop-token-preserved c =
    let text = c.args.text.now in
    let aliases = c.args.aliases.now in
    let before = c.loop-token.tokens.items in
    let t : Token = c.in-Some.token in
    let names = c.given.ensures in
    let at : IsTokenAt (is_in_force (given (after_tokens text Start before) aliases)) text c.loop-token.place t =
    subst (λ (s : Stage). IsTokenAt (is_in_force (given s aliases)) text c.loop-token.place t) c.loop-token.invariant.stage
    (subst (λ (ns : List (List ℕ)). IsTokenAt (is_in_force ns) text c.loop-token.place t) c.given.ensures c.in-Some.ensures) in
    record {
      within = omega (arith, at.0, at.1.1, at.1.2.longest.within, length-drop t.range.start text, c.loop-token.invariant.within);
      staged = subst (AreStaged aliases text Start 0 t.range.stop) (sym c.in_ok-push.ensures.items) (staged-push aliases text Start 0 c.loop-token.place before t c.loop-token.invariant.staged at);
      stage = c.after_token-stage.ensures ∙ ap (λ (s : Stage). after_token text s t) c.loop-token.invariant.stage ∙ sym (after-push text Start before t) ∙ ap (after_tokens text Start) (sym c.in_ok-push.ensures.items);
    }

pub returns : goal.returns
returns c =
    let text = c.args.text.now in
    staged-tokens text c.args.aliases.now c.loop-token.tokens.items
    (subst (λ (p : ℕ). AreStaged c.args.aliases.now text Start 0 p c.loop-token.tokens.items) c.in_default.ensures c.loop-token.invariant.staged)
