use Rattle.std.proofs.Common.{◌≡◌, ℕ, ◌<◌, List, ◌∷◌, ◌++◌, [], length, get_or, sym, refl, ap, ◌∙◌, subst, arith}
use Rattle.std.proofs.lemmas.List.{map-append}
use Rattle.outer_syntax.specs.Symbols.{AreSymbols, AreSymbolsBetween}
use Rattle.outer_syntax.specs.Boundaries.{boundaries_of, Rises}
use Rattle.outer_syntax.proofs.SymbolLemmas.{between-push}
use Rattle.outer_syntax.proofs.Laws.{one-between}
use Rattle.outer_syntax.proofs.FunctionLemmas.{are-symbols}
use Rattle.outer_syntax.proofs.BoundaryLemmas.{boundaries-rise}
use Rattle.outer_syntax.proofs.boundaries.Boundaries.of.Goals as goal

pub loop-start-preserved : goal.loop-start-preserved
loop-start-preserved c =
    let ss = c.loop-start.invariant.1.0 in
    let here : ℕ = c.loop-start.start in
    let next : ℕ = c.symbol_end-start.result in (
      c.symbol_end-start.ensures.within,
      (
        ss ++ (here, next) ∷ [],
        between-push c.args.text.now 0 here next ss c.loop-start.invariant.1.1 c.symbol_end-start.ensures.at,
        c.in_ok-push-2.ensures.items ∙ ap (λ (xs : List ℕ). xs ++ next ∷ []) c.loop-start.invariant.1.2
            ∙ ap (λ (xs : List ℕ). 0 ∷ xs) (sym (map-append (λ (s : ℕ × ℕ). s.1) ss ((here, next) ∷ []))),
      ),
    )

pub invariant_of-result : goal.invariant_of-result
invariant_of-result c =
    let ss = c.loop-start.invariant.1.0 in
    let same = sym c.loop-start.invariant.1.2 in (
      subst (λ (xs : List ℕ). 0 < length xs) same (omega arith),
      subst (λ (xs : List ℕ). get_or xs 0 0 ≡ 0) same refl,
      subst Rises same (boundaries-rise c.args.text.now c.loop-start.start ss c.loop-start.invariant.1.1),
    )

pub returns : goal.returns
returns c =
    let text = c.args.text.now in
    let ss = c.loop-start.invariant.1.0 in
    let ends : c.loop-start.start ≡ length text = omega arith in
    let all : AreSymbols text ss = subst (λ p. AreSymbolsBetween text 0 p ss) ends c.loop-start.invariant.1.1 in
    c.loop-start.invariant.1.2 ∙ ap boundaries_of (one-between text 0 (length text) ss _ all (are-symbols text))
