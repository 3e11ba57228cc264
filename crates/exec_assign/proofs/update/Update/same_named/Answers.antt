use Rattle.std.proofs.Common.{◌≡◌, sym, ap, subst, ◌∙◌, true}
use Rattle.std.specs.Prelude.{not, is_some, ◌&&◌}
use Rattle.std.specs.Ordering.{is_eq}
use Rattle.shared_map.specs.Pairs.{found}
use Rattle.doc_nodes.specs.Names.{in_order, equal}
use Rattle.exec_rules.specs.Assigning.{Update, times}
use Rattle.exec_assign.specs.Untouched.{AreChanged}
use Rattle.exec_assign.proofs.BlobLemmas.{same_blob_is, none_found}
use Rattle.exec_assign.proofs.update.Update.same_named.Goals as goal

pub returns-then-is_eq : goal.returns-then-is_eq
returns-then-is_eq g c =
    let none : c.is_none.result ≡ not (is_some (found in_order c.args.now.now c.self.inside.changed.now)) =
    none_found c.get.result _ c.is_none.result c.get.ensures c.is_none.ensures in
    let same : true ≡ equal c.args.now.now c.args.before.now = sym c.if-is_eq.true ∙ c.is_eq.ensures ∙ ap is_eq c.cmp.ensures in
    none ∙ ap (λ b. b && not (is_some (found in_order c.args.now.now c.self.inside.changed.now))) same
    ∙ same_blob_is c.self.inside.changed.now (times c.args.self.now) c.args.now.now c.args.before.now
    (subst (λ (u : Update). AreChanged c.self.inside.changed.now u.tip.blobs u.blobs) c.self.view_is c.self.invariant.changed_are)
