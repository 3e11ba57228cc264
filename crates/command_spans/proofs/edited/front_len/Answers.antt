use Rattle.std.proofs.Common.{◌≡◌, ◌⊎◌, ℕ, ◌+◌, ◌<◌, ◌≤◌, true, List, length, drop, get_or, inl, inr, refl, sym, ap, ◌∙◌, subst, arith}
use Rattle.std.proofs.lemmas.List.{drop_all}
use Rattle.outer_syntax.specs.declared.token.Token.{Token}
use Rattle.command_spans.specs.Spans.{Is}
use Rattle.command_spans.specs.CutTexts.{Rising, boundary_at}
use Rattle.command_spans.specs.Reparsing.{before, is_space, is_space_below, restart}
use Rattle.command_spans.proofs.PlaceLemmas.{first-boundary, before-at, rising-split}
use Rattle.command_spans.proofs.RestartLemmas.{restart_from, restart-late, step-space, step-other, same-got}
use Rattle.command_spans.proofs.ReadOn.{no_token, space-below, space-other, boundary-is}
use Rattle.command_spans.proofs.edited.front_len.Goals as goal
use Rattle.command_spans.proofs.edited.front_len.Goals.{then-is_space, else-is_space}

pub loop-i-init : goal.loop-i-init
loop-i-init c = record {
  within = omega arith;
  found = inl refl;
  rest = λ len rises. ap (λ (r : ℕ). restart_from c.args.place r c.args.tokens.now) (first-boundary 0 len c.args.tokens.now rises);
}

-- the restart that the rest of the tokens tells
front-is : (place len : ℕ) (tokens : List Token) (front : ℕ) → Rising 0 len tokens → front ≤ length tokens → boundary_at len tokens front ≡ restart place tokens → front ≡ before (restart place tokens) tokens
front-is place len tokens front rises within same =
    sym (before-at 0 len tokens front within rises)
    ∙ ap (λ (r : ℕ). before r tokens) same

pub loop-i-preserved : goal.loop-i-preserved
loop-i-preserved c =
    let tokens : List Token = c.args.tokens.now in
    let place : ℕ = c.args.place in
    let i : ℕ = c.loop-i.i in
    let within : i < length tokens = c.loop-i-test.true in
    let kind : c.is_space.result ≡ is_space (get_or tokens i no_token).kind = c.is_space.ensures in
    let low : (get_or tokens i no_token).range.start < place = c.if-place-token.false in
    elim c.if-is_space.branch [
      | then-is_space w ↦
          let space : is_space_below place (get_or tokens i no_token) ≡ true = space-below place (get_or tokens i no_token) (sym kind ∙ w.if-is_space.true) low in
          record {
            within = omega (arith, w.front-is);
            found = inr (λ d. ap (λ (k : ℕ). is_space_below place (get_or tokens k d)) w.front-is ∙ ap (is_space_below place) (same-got tokens i d no_token within) ∙ space);
            rest = λ len rises. ap (λ (k : ℕ). restart_from place (boundary_at len tokens k) (drop (i + 1) tokens)) w.front-is ∙ step-space place len tokens i within (boundary_at len tokens c.loop-i.front) space ∙ c.loop-i.invariant.rest len rises;
          }
      | else-is_space w ↦ record {
        within = omega (arith, w.front-is, c.loop-i.invariant.within);
        found = subst (λ (k : ℕ). (k ≡ 0) ⊎ Is (is_space_below place) true tokens k) (sym w.front-is) c.loop-i.invariant.found;
        rest = λ len rises. ap (λ (k : ℕ). restart_from place (boundary_at len tokens k) (drop (i + 1) tokens)) w.front-is ∙ step-other place len tokens i within (boundary_at len tokens c.loop-i.front) (space-other place (get_or tokens i no_token) (sym kind ∙ w.if-is_space.false)) ∙ c.loop-i.invariant.rest len rises;
      }
    ]

pub returns-then-place-token-clause-front : goal.returns-then-place-token-clause-front
returns-then-place-token-clause-front c =
    let tokens : List Token = c.args.tokens.now in
    let i : ℕ = c.loop-i.i in
    let len : ℕ = c.requires.rising.0 in
    let rises : Rising 0 len tokens = c.requires.rising.1 in
    let within : i < length tokens = c.loop-i-test.true in
    let late : c.args.place ≤ (get_or tokens i no_token).range.start = c.if-place-token.true in
    front-is c.args.place len tokens c.loop-i.front rises (omega (arith, c.loop-i.invariant.within, within))
    (sym (restart-late c.args.place (boundary_at len tokens c.loop-i.front) (boundary_at len tokens i) len (drop i tokens) (omega (arith, late, boundary-is len tokens i no_token within)) (rising-split 0 len tokens i (omega arith) rises).1) ∙ c.loop-i.invariant.rest len rises)

pub returns-clause-front : goal.returns-clause-front
returns-clause-front c =
    let tokens : List Token = c.args.tokens.now in
    let i : ℕ = c.loop-i.i in
    let len : ℕ = c.requires.rising.0 in
    let rises : Rising 0 len tokens = c.requires.rising.1 in
    let past : length tokens ≤ i = c.loop-i-test.false in
    let upto : i ≤ length tokens = c.loop-i.auto.i-end in
    front-is c.args.place len tokens c.loop-i.front rises (omega (arith, c.loop-i.invariant.within, upto))
    (sym (ap (λ (ts : List Token). restart_from c.args.place (boundary_at len tokens c.loop-i.front) ts) (drop_all i tokens past)) ∙ c.loop-i.invariant.rest len rises)
