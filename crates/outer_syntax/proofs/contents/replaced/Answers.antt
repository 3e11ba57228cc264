use Rattle.std.proofs.Common.{◌≡◌, ℕ, ◌+◌, ◌∷◌, ◌++◌, [], drop, sym, ap, ◌∙◌, append_assoc}
use Rattle.std.proofs.lemmas.List.{take_rest}
use Rattle.outer_syntax.specs.Contents.{first_of, replaced_from}
use Rattle.outer_syntax.proofs.ContentLemmas.{replaced-more}
use Rattle.outer_syntax.proofs.contents.replaced.Goals as goal

pub loop-at-preserved : goal.loop-at-preserved
loop-at-preserved c =
    let s = c.args.inside.now in
    let same : c.first_of-c.result ≡ first_of c.index-inside-at.result (drop (c.loop-at.at + 1) s) = c.first_of-c.ensures ∙ ap (first_of c.index-inside-at.result) (take_rest s (c.loop-at.at + 1)) in
    let step : replaced_from 0 (drop c.loop-at.at s) ≡ c.first_of-c.result.0 ∷ replaced_from 0 (drop (c.loop-at.at + c.first_of-c.result.1) s) =
    replaced-more s c.loop-at.at c.index-inside-at.result c.loop-at-test.true c.index-inside-at.is ∙ ap (λ (p : ℕ × ℕ). p.0 ∷ replaced_from 0 (drop (c.loop-at.at + p.1) s)) (sym same) in
    ap (λ r. r ++ replaced_from 0 (drop (c.loop-at.at + c.first_of-c.result.1) s)) c.in_ok-push.ensures.items
    ∙ append_assoc c.loop-at.content.items (c.first_of-c.result.0 ∷ []) _
    ∙ ap (λ r. c.loop-at.content.items ++ r) (sym step)
    ∙ c.loop-at.invariant
