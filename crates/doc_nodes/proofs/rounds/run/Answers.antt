use Rattle.std.proofs.Common.{◌≡◌, ◌+◌, ◌-◌, ◌||◌, ◌++◌, suc, true, length, sym, ap, ◌∙◌, subst, arith}
use Rattle.text_words.specs.Members.{has}
use Rattle.doc_nodes.specs.Rounds.{round, after_rounds}
use Rattle.doc_nodes.specs.Looks.{marked, AreMarks}
use Rattle.doc_nodes.proofs.RoundLemmas.{round_within, after_step, marks_more}
use Rattle.doc_nodes.proofs.rounds.run.Goals as goal

pub mark-requires : goal.mark-requires
mark-requires c = λ p h.
    let within = round_within c.args.rows.now c.rounds.order.items p (subst (λ xs. has xs p ≡ true) (c.deref.ensures.value ∙ c.rounds.invariant.last) h) in
    omega (arith, within, c.rounds.auto.marks, c.requires.marks)

-- the last round is ordered now, and the next one is found
pub rounds-preserved : goal.rounds-preserved
rounds-preserved c =
    let pushed : c.extend_from_slice.new.self.items ≡ c.rounds.order.items ++ c.rounds.last.items =
    c.in_ok-extend_from_slice.ensures.items ∙ ap (λ xs. c.rounds.order.items ++ xs) c.deref-in-rounds.ensures.value in
    let are : AreMarks c.mark.new.marks (c.rounds.order.items ++ c.rounds.last.items) =
    marks_more _ _ _ _ c.rounds.invariant.marks
    (λ p. c.mark.ensures p ∙ ap (λ xs. marked c.rounds.marks p || has xs p) c.deref.ensures.value) in
    let lent : c.deref-in-rounds-2.result.now ≡ c.rounds.last.items = c.deref-in-rounds-2.ensures.value in
    let left : length c.args.rows.now - c.rounds.counter ≡ suc (length c.args.rows.now - (c.rounds.counter + 1)) = omega arith in
    record {
      rest = ap (λ xs. after_rounds c.args.rows.now (length c.args.rows.now - (c.rounds.counter + 1)) xs) pushed
          ∙ after_step _ _ _ _ _ left c.rounds.invariant.last
          ∙ c.rounds.invariant.rest;
      last = c.in_ok-last-2.ensures.round c.rounds.order.items
          (subst (λ xs. AreMarks c.mark.new.marks (c.rounds.order.items ++ xs)) (sym lent) are)
          (lent ∙ c.rounds.invariant.last)
          ∙ ap (λ xs. round c.args.rows.now xs) (ap (λ xs. c.rounds.order.items ++ xs) lent ∙ sym pushed);
      marks = λ p. subst (λ xs. marked c.mark.new.marks p ≡ has xs p) (sym pushed) (are p);
      scanned = c.in_ok-last-2.ensures.scanned;
    }
