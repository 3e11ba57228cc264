use Rattle.std.proofs.Common.{◌≡◌, ◌∙◌, List, ℕ, sym, subst, arith}
use Rattle.outer_syntax.specs.Boundaries.{Rises, number_at}
use Rattle.outer_syntax.proofs.NumberLemmas.{number-is}
use Rattle.outer_syntax.proofs.boundaries.Boundaries.number_from.Goals as goal

pub returns-else-places-n-clause-value : goal.returns-else-places-n-clause-value
returns-else-places-n-clause-value c =
    let places : List ℕ = c.as_slice-places.result.now in
    let whole : places ≡ c.args.self.now = c.as_slice-places.ensures.value ∙ c.self.view_is in
    let rises : Rises places = subst Rises (sym c.as_slice-places.ensures.value) c.self.invariant.2 in
    subst (λ (xs : List ℕ). c.loop-n.n ≡ number_at xs c.args.offset) whole
    (number-is places c.args.offset c.loop-n.n c.loop-n.invariant.0 rises c.loop-n.invariant.1 (λ inside. c.if-places-n.false))

pub returns-after-loop-n-clause-value : goal.returns-after-loop-n-clause-value
returns-after-loop-n-clause-value c =
    let places : List ℕ = c.as_slice-places.result.now in
    let whole : places ≡ c.args.self.now = c.as_slice-places.ensures.value ∙ c.self.view_is in
    let rises : Rises places = subst Rises (sym c.as_slice-places.ensures.value) c.self.invariant.2 in
    subst (λ (xs : List ℕ). c.loop-n.n ≡ number_at xs c.args.offset) whole
    (number-is places c.args.offset c.loop-n.n c.loop-n.invariant.0 rises c.loop-n.invariant.1 (λ inside. absurd (omega arith)))
