use Rattle.std.proofs.Common.{◌≡◌, ℕ, ◌+◌, ◌<◌, ◌≤◌, List, length, drop, sym, ap, ◌∙◌, subst, arith, length-drop}
use Rattle.std.proofs.lemmas.List.{take_rest}
use Rattle.outer_syntax.specs.Brackets.{piece, after}
use Rattle.outer_syntax.specs.declared.bracket.Mark.{Mark}
use Rattle.outer_syntax.specs.declared.bracket.Mark.TheVariants.{Open, Close, Other}
use Rattle.outer_syntax.proofs.BracketLemmas.{piece-some}
use Rattle.outer_syntax.proofs.LeftLemmas.{IsLeft, left-start, left-more, left-none, left-found, last-fits}
use Rattle.outer_syntax.proofs.bracket.inside_len.Goals as goal
use Rattle.outer_syntax.proofs.bracket.inside_len.Goals.{After-after-depth}

-- the loop has come one piece further
one_piece : (c : After-after-depth) → IsLeft c.args.bracket c.args.inside.now c.after-depth.result (c.loop-at.at + c.piece-mark.result.1)
one_piece c =
    let b = c.args.bracket in
    let same : c.piece-mark.result ≡ piece b (drop c.loop-at.at c.args.inside.now) = c.piece-mark.ensures ∙ ap (piece b) (take_rest c.args.inside.now c.loop-at.at) in
    subst (λ d. IsLeft b c.args.inside.now d (c.loop-at.at + c.piece-mark.result.1)) (sym c.after-depth.ensures)
    (subst (λ (p : Mark × ℕ). IsLeft b c.args.inside.now (after p.0 c.loop-at.depth) (c.loop-at.at + p.1)) (sym same) (left-more c.loop-at.invariant.left c.loop-at.invariant.positive c.loop-at-test.true))

pub loop-at-init : goal.loop-at-init
loop-at-init c = record { positive = omega arith; small = omega arith; left = left-start _ _ }

pub loop-at-preserved : goal.loop-at-preserved
loop-at-preserved c = record {
  positive = omega arith;
  small = grow c.piece-mark.result.0 c.after-depth.ensures;
  left = one_piece (goal.at.loop-at-preserved c).After-after-depth;
} where
  some : 0 < c.piece-mark.result.1
  some = subst (λ (p : Mark × ℕ). 0 < p.1) (sym c.piece-mark.ensures) (piece-some c.args.bracket _)

  grow : (m : Mark) → c.after-depth.result ≡ after m c.loop-at.depth → c.after-depth.result ≤ c.loop-at.at + c.piece-mark.result.1 + 1
  grow Open e = omega (arith, e, some)
  grow Close e = omega (arith, e)
  grow Other e = omega (arith, e)

pub returns-then-depth-eq0 : goal.returns-then-depth-eq0
returns-then-depth-eq0 c =
    let b = c.args.bracket in
    let rest : List ℕ = drop c.loop-at.at c.args.inside.now in
    let same : c.piece-mark.result ≡ piece b rest = c.piece-mark.ensures ∙ ap (piece b) (take_rest c.args.inside.now c.loop-at.at) in
    let none : after (piece b rest).0 c.loop-at.depth ≡ 0 = sym (ap (λ (p : Mark × ℕ). after p.0 c.loop-at.depth) same) ∙ sym c.after-depth.ensures ∙ c.if-depth-eq0.true in
    let fits : c.piece-mark.result.1 ≤ length rest = subst (λ (p : Mark × ℕ). p.1 ≤ length rest) (sym same) (last-fits b c.loop-at.depth rest c.loop-at.invariant.positive none) in
    left-found b c.args.inside.now _
    (subst (λ d. IsLeft b c.args.inside.now d (c.loop-at.at + c.piece-mark.result.1)) c.if-depth-eq0.true (one_piece (goal.at.returns-then-depth-eq0 c).After-after-depth))
    (omega (arith, c.loop-at-test.true, fits, length-drop c.loop-at.at c.args.inside.now))

pub returns : goal.returns
returns c = left-none c.loop-at.invariant.left c.loop-at.invariant.positive c.loop-at-test.false
