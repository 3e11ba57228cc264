use Rattle.std.proofs.Common.{◌≡◌, ◌≤◌, ◌+◌, suc, length, get_or, ◌∙◌, sym, subst, arith}
use Rattle.std.proofs.lemmas.Bool.{eqb-true, eqb-false}
use Rattle.std.proofs.lemmas.List.{get_or_read}
use Rattle.text_words.specs.Longest.{HasNoFront, IsLongest}
use Rattle.outer_syntax.specs.Names.{IsMarkedName}
use Rattle.outer_syntax.proofs.NameLemmas.{caret-some, caret-none, plain-finds}
use Rattle.outer_syntax.proofs.KnownSplits.{split-first}
use Rattle.outer_syntax.proofs.name.marked_name.Goals as goal
use Rattle.outer_syntax.proofs.name.marked_name.Goals.{then-is_empty-via-then-is_empty, then-is_empty-via-else-is_empty+then-text-ne94}

pub returns-in-Some : goal.returns-in-Some
returns-in-Some c =
    let within : 1 ≤ length c.args.text.now = omega (arith, eqb-false (length c.args.text.now) 0 (sym c.if-is_empty.ensures)) in
    let first : get_or c.args.text.now 0 0 ≡ 94 = sym (get_or_read c.args.text.now 0 _ within c.index-text-0.is 0) ∙ c.if-text-ne94.false in
    let more : suc c.in-Some.n ≡ c.in-Some.n + 1 = omega arith in
    subst (IsLongest IsMarkedName c.args.text.now) more
    (subst (λ s. IsLongest IsMarkedName s (suc c.in-Some.n)) (sym (split-first c.args.text.now 94 within first)) (caret-some _ c.in-Some.n c.in-Some.ensures))

pub returns-in-None : goal.returns-in-None
returns-in-None c =
    let within : 1 ≤ length c.args.text.now = omega (arith, eqb-false (length c.args.text.now) 0 (sym c.if-is_empty.ensures)) in
    let first : get_or c.args.text.now 0 0 ≡ 94 = sym (get_or_read c.args.text.now 0 _ within c.index-text-0.is 0) ∙ c.if-text-ne94.false in
    subst (HasNoFront IsMarkedName) (sym (split-first c.args.text.now 94 within first)) (caret-none _ c.in-None.ensures)

pub returns-then-is_empty : goal.returns-then-is_empty
returns-then-is_empty c =
    plain-finds c.args.text.now _
    (λ nonempty caret. elim c.then-is_empty.branch [
      | then-is_empty-via-then-is_empty w ↦ omega (arith, eqb-true (length c.args.text.now) 0 (sym w.if-is_empty.ensures))
      | then-is_empty-via-else-is_empty+then-text-ne94 w ↦ w.if-text-ne94.true (get_or_read c.args.text.now 0 _ nonempty w.index-text-0.is 0 ∙ caret)
    ])
    c.closed_name.ensures
