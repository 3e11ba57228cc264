use Rattle.std.proofs.Common.{◌≡◌, ◌++◌, ℕ, false, List, map, ap, sym, subst, ◌∙◌}
use Rattle.std.specs.List.{AllByRecursion}
use Rattle.std.specs.Prelude.{flat_map}
use Rattle.text_words.specs.Members.{has}
use Rattle.doc_nodes.specs.declared.node.Node.{Node}
use Rattle.exec_rules.specs.Assigning.{rows_in}
use Rattle.core_rules.specs.Assigned.{is_visible}
use Rattle.update_plans.specs.declared.seeing.Sight.{Sight}
use Rattle.update_plans.specs.Sights.{seen_in, hidden}
use Rattle.update_plans.proofs.SightsAre.{others_seen}
use Rattle.update_plans.proofs.SightsSee.{sights_see}
use Rattle.update_plans.proofs.seeing.sights.Goals as goal

pub returns-clause-sees : goal.returns-clause-sees
returns-clause-sees c =
    let before = c.args.before.now in
    let now = c.args.now.now in
    let gone = flat_map (λ (pair : List ℕ × Node). hidden (rows_in before pair.0) (rows_in now pair.0)) before.nodes in
    let seen = flat_map (λ (pair : List ℕ × Node). seen_in c.args.standing.now now pair.0) now.nodes in
    let are = c.in_ok-add_hidden.ensures ∙ ap (λ (xs : List Sight). xs ++ gone) (c.in_ok-add_seen.ensures ∙ ap (λ (xs : List Sight). xs ++ seen) c.new-all.ensures.items) in
    subst (λ (xs : List Sight). AllByRecursion (λ s. is_visible now s.exec ≡ s.visible) xs) (sym are)
    (sights_see before now c.args.standing.now c.requires c.names_law.ensures c.names_law-2.ensures)

pub returns-clause-unseen : goal.returns-clause-unseen
returns-clause-unseen c =
    let before = c.args.before.now in
    let now = c.args.now.now in
    let gone = flat_map (λ (pair : List ℕ × Node). hidden (rows_in before pair.0) (rows_in now pair.0)) before.nodes in
    let seen = flat_map (λ (pair : List ℕ × Node). seen_in c.args.standing.now now pair.0) now.nodes in
    let are = c.in_ok-add_hidden.ensures ∙ ap (λ (xs : List Sight). xs ++ gone) (c.in_ok-add_seen.ensures ∙ ap (λ (xs : List Sight). xs ++ seen) c.new-all.ensures.items) in
    subst (λ (xs : List Sight). (e : ℕ) → has (map (λ s. s.exec) xs) e ≡ false → is_visible now e ≡ is_visible before e) (sym are)
    (others_seen before now c.args.standing.now c.requires c.names_law.ensures c.names_law-2.ensures)
