-- What is visible is assigned.
use Rattle.std.proofs.Common.{◌≡◌, ℕ, inl, true, zip}
use Rattle.std.proofs.lemmas.Bool.{eqb-true, and_parts}
use Rattle.std.specs.Prelude.{◌==◌, flat_map}
use Rattle.exec_rules.specs.declared.row.Assigned.{Assigned}
use Rattle.exec_rules.specs.declared.version.Version.{Version}
use Rattle.exec_rules.specs.Listed.{executions}
use Rattle.core_rules.specs.Assigned.{assigns, assigned_commands, is_visible}
use Rattle.update_plans.proofs.Members.{at_in, any_in, has_in, in_has, in_flat, flat_in, in_zip}
use Rattle.update_plans.proofs.Named.{of_row}
use Rattle.update_plans.proofs.Visible.{test, commands}

pub visible_assigned : (v : Version) (e : ℕ) → is_visible v e ≡ true → assigns v e ≡ true
visible_assigned v e is =
    let found = any_in (test e) (assigned_commands v) is in
    let node = in_flat commands (zip v.nodes v.assigned) found.0 found.1 in
    let at = in_zip v.nodes v.assigned node.0 node.1 in
    let here = in_zip node.0.0.1.entries node.0.1.rows found.0 node.2 in
    let same = eqb-true found.0.1.evaluation e (and_parts (found.0.1.evaluation == e) found.0.0.visible found.2).0 in
    in_has (flat_map executions (flat_map (λ (a : Assigned). a.rows) v.assigned)) e
    (flat_in executions (flat_map (λ (a : Assigned). a.rows) v.assigned) found.0.1 e
    (flat_in (λ (a : Assigned). a.rows) v.assigned node.0.1 found.0.1 (at_in v.assigned at.0 node.0.1 at.2)
    (at_in node.0.1.rows here.0 found.0.1 here.2))
    (has_in (executions found.0.1) e (of_row found.0.1 e (inl same))))
