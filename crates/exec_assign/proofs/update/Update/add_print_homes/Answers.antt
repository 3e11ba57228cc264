use Rattle.std.proofs.Common.{◌≡◌, ◌++◌, List, drop, get_or, sym, ap, ◌∙◌, arith, append-nil}
use Rattle.doc_nodes.specs.declared.node.Entry.{Entry}
use Rattle.exec_rules.specs.declared.home.Home.{Home}
use Rattle.exec_assign.proofs.RowLemmas.{print_next, homes_over}
use Rattle.exec_assign.proofs.update.Update.add_print_homes.Goals as goal

pub prints-preserved : goal.prints-preserved
prints-preserved g c =
    let es = c.args.node.now.entries in
    let same : c.as_slice-entries.result.now ≡ es = c.as_slice-entries.ensures ∙ c.get.ensures in
    let entry = c.index-entries-place.result in
    print_next c.args.node.now c.args.self.now.blobs es c.args.evaluations.now c.args.live.now c.prints.place entry c.index-evaluations-place.result c.live_at-kept.result
    c.prints.homes.items _ _ (omega (arith, c.prints-test.true, c.requires)) c.prints-test.true
    (c.index-entries-place.is ∙ ap (λ (xs : List Entry). get_or xs c.prints.place entry) same)
    c.index-evaluations-place.is c.live_at-kept.ensures c.in_ok-add_print_home.ensures c.prints.invariant

pub returns : goal.returns
returns g c =
    sym (append-nil c.prints.homes.items)
    ∙ ap (λ (rest : List Home). c.prints.homes.items ++ rest)
    (sym (homes_over c.args.node.now c.args.self.now.blobs (drop c.prints.place c.args.node.now.entries) c.args.evaluations.now (drop c.prints.place c.args.live.now) c.prints.place c.prints-test.false))
    ∙ c.prints.invariant
