use Rattle.std.proofs.Common.{◌≡◌, ◌++◌, List, get_or, sym, ap, ◌∙◌, append-nil}
use Rattle.doc_nodes.specs.declared.node.Entry.{Entry}
use Rattle.exec_rules.specs.declared.home.Home.{Home}
use Rattle.exec_assign.proofs.HomeLemmas.{eval_next, eval_over}
use Rattle.exec_assign.proofs.update.Update.eval_homes.Goals as goal

pub fresh-preserved : goal.fresh-preserved
fresh-preserved g c =
    let same : c.as_slice-entries.result.now ≡ c.args.node.now.entries = c.as_slice-entries.ensures ∙ c.get.ensures in
    let entry = c.index-entries-place.result in
    eval_next c.args.node.now c.args.self.now.blobs c.args.head.now c.args.evaluations.now c.fresh.place entry c.in_ok-input.input c.in_ok-home.field-0
    c.fresh.homes.items _ _ c.fresh-test.true c.requires
    (c.index-entries-place.is ∙ ap (λ (xs : List Entry). get_or xs c.fresh.place entry) same)
    c.in_ok-input.ensures c.in_ok-home.ensures c.in_ok-push.ensures.items c.fresh.invariant

pub returns : goal.returns
returns g c =
    sym (append-nil c.fresh.homes.items)
    ∙ ap (λ (rest : List Home). c.fresh.homes.items ++ rest)
    (sym (eval_over c.args.node.now c.args.self.now.blobs c.args.head.now c.args.evaluations.now c.fresh.place c.requires c.fresh-test.false))
    ∙ c.fresh.invariant
