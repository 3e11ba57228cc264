-- A header that is over stays so.
use Rattle.std.proofs.Common.{ℕ, List, take, get_or, sym, ap, ◌∙◌}
use Rattle.outer_syntax.specs.Stages.{after_token, after_tokens}
use Rattle.outer_syntax.specs.declared.stage.Stage.{Stage}
use Rattle.outer_syntax.specs.declared.token.Token.{Token}
use Rattle.outer_syntax.specs.declared.stage.Stage.TheVariants.{Start}
use Rattle.outer_syntax.proofs.KnownLexing.{after-push}
use Rattle.std.proofs.lemmas.List.{take_more}
use Rattle.command_spans.proofs.ReadOn.{no_token, read-on}
use Rattle.command_spans.proofs.edited.read_before.Goals as goal

pub returns-then-is_over-clause-read : goal.returns-then-is_over-clause-read
returns-then-is_over-clause-read c n from = read-on c.args.text.now c.loop-read.stage c.args.tokens.now c.loop-read.read n from c.loop-read.invariant (c.if-is_over.ensures c.args.text.now)

pub loop-read-preserved : goal.loop-read-preserved
loop-read-preserved c =
    let text : List ℕ = c.args.text.now in
    let tokens : List Token = c.args.tokens.now in
    let i : ℕ = c.loop-read.read in
    let t : Token = get_or tokens i no_token in
    c.after_token-stage.ensures ∙ ap (λ (s : Stage). after_token text s t) c.loop-read.invariant
    ∙ sym (after-push text Start (take i tokens) t) ∙ ap (after_tokens text Start) (sym (take_more tokens i no_token c.loop-read-test.true))
