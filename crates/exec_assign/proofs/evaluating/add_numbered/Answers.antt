use Rattle.std.proofs.Common.{ap, sym, ◌∙◌, ◌+◌, ◌++◌, ◌∷◌, [], List, ℕ, arith, append_assoc}
use Rattle.std.specs.List.{range_with_len}
use Rattle.exec_assign.proofs.RowSteps.{range_more}
use Rattle.exec_assign.proofs.evaluating.add_numbered.Goals as goal

pub numbers-preserved : goal.numbers-preserved
numbers-preserved c =
    let old = c.args.all.now in
    let n = c.numbers.counter in
    record {
      added = c.in_ok-push.ensures.ok
          ∙ ap (λ (xs : List ℕ). xs ++ c.in_ok-id.id ∷ []) c.numbers.invariant.added
          ∙ ap (λ (x : ℕ). (old ++ range_with_len c.args.next n) ++ x ∷ []) (c.in_ok-id.ensures.ok ∙ c.numbers.invariant.number_is)
          ∙ append_assoc old (range_with_len c.args.next n) ((c.args.next + n) ∷ [])
          ∙ ap (λ (xs : List ℕ). old ++ xs) (sym (range_more c.args.next n));
      number_is = omega (arith, c.numbers.invariant.number_is);
      within = omega (arith, c.in_ok-id.ensures.within);
    }
