use Rattle.std.proofs.Common.{ℕ, ◌∷◌, ◌++◌, [], drop, sym, refl, ap, ◌∙◌, subst, arith, length-drop, append_assoc}
use Rattle.std.proofs.lemmas.List.{take_rest, drop_all, append-nil}
use Rattle.command_spans.specs.Spans.{IsSpan, AreSpansOf}
use Rattle.command_spans.proofs.SpanLemmas.{span-within, span-more}
use Rattle.command_spans.proofs.cut.spans_of.Goals as goal

pub loop-at-preserved : goal.loop-at-preserved
loop-at-preserved c =
    let tokens = c.args.tokens.now in
    let at : ℕ = c.loop-at.at in
    let n : ℕ = c.first_span-kind.result.1 in
    let is = subst (λ r. IsSpan c.first_span-kind.result.0 r n) (take_rest tokens at) c.first_span-kind.ensures in
    let within = span-within c.first_span-kind.result.0 (drop at tokens) n is in (
      omega (arith, within.1, length-drop at tokens, c.loop-at.invariant.0),
      λ more rest. subst (AreSpansOf tokens) (sym (ap (λ ss. ss ++ more) c.in_ok-push.ensures.items ∙ append_assoc c.loop-at.spans.items (_ ∷ []) more)) (c.loop-at.invariant.1 _ (span-more tokens at n _ _ c.loop-at-test.true is refl refl more rest)),
    )

pub returns : goal.returns
returns c =
    let tokens = c.args.tokens.now in
    subst (AreSpansOf tokens) (append-nil c.loop-at.spans.items) (c.loop-at.invariant.1 [] (drop_all c.loop-at.at tokens (omega arith)))
