use Rattle.std.proofs.Common.{◌≡◌, ◌<◌, ◌+◌, Bool, true, false, List, length, map, drop, get_or, sym, ap, ◌∙◌, subst, arith, rules}
use Rattle.std.specs.List.{range_with_len}
use Rattle.pide_base.specs.Ids.{id_end}
use Rattle.doc_nodes.specs.Imports.{order}
use Rattle.exec_rules.specs.declared.row.Assigned.{Assigned}
use Rattle.exec_rules.specs.Keys.{nothing_assigned, assigned_at}
use Rattle.exec_rules.specs.Assigning.{Work, assign_one}
use Rattle.exec_assign.specs.Fitting.{RowsFit}
use Rattle.exec_assign.specs.Telling.{update_version}
use Rattle.exec_assign.specs.Work.{HasStood}
use Rattle.exec_assign.proofs.WorkLemmas.{all_rises, turn_next, turn_over}
use Rattle.exec_assign.proofs.ProgressLemmas.{all_places}
use Rattle.exec_assign.proofs.FitLemmas.{rows_fit}
use Rattle.exec_assign.proofs.update.Update.assign.Goals as goal

pub places-preserved : goal.places-preserved
places-preserved g c =
    let places = c.order-place-items.result.now in
    let inv = c.places.invariant in (
      assign_one c.args.self.now inv.0 (get_or places c.places.place-index 0),
      c.in_ok-assign_one.ensures.ok inv.0 inv.1,
      turn_next c.args.self.now c.graph.result.now places c.places.place-index c.args.next inv.0 c.graph.ensures c.order-place-items.ensures c.places-test.true inv.2,
    )

pub returns-in_err-assign_one-clause-limit : goal.returns-in_err-assign_one-clause-limit
returns-in_err-assign_one-clause-limit g c = λ is.
    let places = c.order-place-items.result.now in
    let inv = c.places.invariant in
    let one : Work = assign_one c.args.self.now inv.0 (get_or places c.places.place-index 0) in
    let over : id_end < one.next = c.in_err-assign_one.ensures.limit inv.0 inv.1 (search rules) in
    omega (
      arith,
      over,
      all_rises c.args.self.now (drop (c.places.place-index + 1) (order c.args.self.now.nodes)) one,
      ap (λ (w : Work). w.next)
          (turn_next c.args.self.now c.graph.result.now places c.places.place-index c.args.next inv.0 c.graph.ensures c.order-place-items.ensures c.places-test.true inv.2),
    )

pub returns-clause-assigned : goal.returns-clause-assigned
returns-clause-assigned g c =
    let inv = c.places.invariant in
    let whole = turn_over c.args.self.now c.graph.result.now c.order-place-items.result.now c.places.place-index c.args.next inv.0
    c.graph.ensures c.order-place-items.ensures c.places-test.false inv.2 in
    c.from_vec.ensures
    ∙ all_places c.places.progress.all.items inv.0.done (length c.args.self.now.nodes) inv.1.are inv.1.all_long
    ∙ ap (λ (w : Work). map (assigned_at w.done) (range_with_len 0 (length c.args.self.now.nodes))) whole

pub returns-clause-homes : goal.returns-clause-homes
returns-clause-homes g c =
    let inv = c.places.invariant in
    let whole = turn_over c.args.self.now c.graph.result.now c.order-place-items.result.now c.places.place-index c.args.next inv.0
    c.graph.ensures c.order-place-items.ensures c.places-test.false inv.2 in
    c.from_vec-2.ensures ∙ inv.1.homes_are ∙ ap (λ (w : Work). w.homes) whole

pub returns-clause-next : goal.returns-clause-next
returns-clause-next g c =
    let inv = c.places.invariant in
    inv.1.next_is
    ∙ ap (λ (w : Work). w.next)
    (turn_over c.args.self.now c.graph.result.now c.order-place-items.result.now c.places.place-index c.args.next inv.0
    c.graph.ensures c.order-place-items.ensures c.places-test.false inv.2)

pub returns-clause-within : goal.returns-clause-within
returns-clause-within g c = c.places.invariant.1.within

pub returns-clause-rows : goal.returns-clause-rows
returns-clause-rows g c =
    let inv = c.places.invariant in
    let whole = turn_over c.args.self.now c.graph.result.now c.order-place-items.result.now c.places.place-index c.args.next inv.0
    c.graph.ensures c.order-place-items.ensures c.places-test.false inv.2 in
    subst (λ (all : List Assigned). RowsFit (update_version c.args.self.now all))
    (sym c.from_vec.ensures)
    (rows_fit c.args.self.now (λ p pair key next i row. c.rows_law.ensures.prints c.args.self.now p pair key next i row) (order c.args.self.now.nodes) c.args.next
    c.places.progress.all.items inv.0.done inv.1.are (ap (λ (w : Work). w.done) whole))

pub returns-clause-standing : goal.returns-clause-standing
returns-clause-standing g c = λ p pair mark at.
    let inv = c.places.invariant in
    let here : get_or c.from_vec.result p nothing_assigned ≡ assigned_at inv.0.done p = ap (λ (all : List Assigned). get_or all p nothing_assigned) c.from_vec.ensures ∙ inv.1.are p in
    let marked = subst (λ (marks : List Bool). get_or marks p false ≡ true) c.from_vec-3.ensures mark in
    subst (HasStood c.args.self.now pair) (sym here) (inv.1.stood p pair marked at)
