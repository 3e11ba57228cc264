use Rattle.std.proofs.Common.{◌≡◌, ◌==◌, ◌≤◌, ℕ, List, true, Some, length, sym, ap, ◌∙◌, subst, arith, rules}
use Rattle.doc_nodes.specs.Wanted.{wanted_at}
use Rattle.exec_rules.specs.declared.key.Key.{Key}
use Rattle.exec_rules.specs.declared.row.Assigned.{Assigned}
use Rattle.exec_rules.specs.Keys.{same_key}
use Rattle.exec_rules.specs.Assigning.{Update, assigned_in}
use Rattle.exec_assign.specs.Fitting.{RowsFit}
use Rattle.exec_assign.specs.Untouched.{AreChanged, IsUntouched}
use Rattle.exec_assign.proofs.BlobLemmas.{none_changed}
use Rattle.exec_assign.proofs.StandLemmas.{given_again}
use Rattle.exec_assign.proofs.update.Update.standing.Goals as goal

pub returns-then-wanted-len : goal.returns-then-wanted-len
returns-then-wanted-len g c =
    let u : Update = c.args.self.now in
    let key : Key = c.args.key.now in
    let old : Assigned = c.in_ok-old.old.now in
    let name : List ℕ = c.args.name.now in
    let marked : c.is_untouched.result ≡ true = search rules in
    let untouched : IsUntouched u (name, c.args.node.now) = c.is_untouched.ensures marked name c.args.node.now c.requires in
    let empty : (length c.self.inside.changed.now == 0) ≡ true = sym c.is_empty.ensures ∙ search rules in
    let changed : AreChanged c.self.inside.changed.now u.tip.blobs u.blobs =
    subst (λ (v : Update). AreChanged c.self.inside.changed.now v.tip.blobs v.blobs) c.self.view_is c.self.invariant.changed_are in
    let fits : RowsFit u.tip = subst (λ (v : Update). RowsFit v.tip) c.self.view_is c.self.invariant.rows_fit in
    let had : assigned_in u.tip name ≡ Some old = search rules in
    let keyed : c.get-2.result.now ≡ old.key = c.get-2.ensures ∙ ap (λ (a : Assigned). a.key) c.get.ensures in
    let same : same_key key old.key ≡ true = ap (same_key key) (sym keyed) ∙ sym c.same_key.ensures ∙ c.if-same_key.true in
    let few : wanted_at u.nodes c.args.place ≤ length old.rows =
    omega (arith, c.if-wanted-len.true, c.wanted.ensures, c.len.ensures, ap (λ (a : Assigned). length a.rows) c.get-then-same_key.ensures) in
    record {
      untouched = untouched;
      had = had;
      given = given_again u c.args.place (name, c.args.node.now) key old untouched
          (none_changed c.self.inside.changed.now u.tip.blobs u.blobs empty changed) (fits name) had same
          ((c.key_law.ensures key old.key).0 same) few;
    }
