-- The node is cut under the aliases in force in it.
use Rattle.std.proofs.Common.{rules, ◌≡◌, ◌∙◌, ℕ, [], List, Some, length, sym, ap, ap₂, subst, arith}
use Rattle.std.specs.Prelude.{slice_get}
use Rattle.std.specs.List.{AllByRecursion}
use Rattle.std.proofs.lemmas.Grind.{common_steps}
use Rattle.std.proofs.lemmas.Option.{gets}
use Rattle.doc_nodes.specs.Aliases.{aliases_at}
use Rattle.buffer_rules.specs.Nodes.{ranges_in}
use Rattle.node_check.specs.Nodes.{sheet_of}
use Rattle.node_check.specs.Walking.{LiesIn}
use Rattle.node_check.proofs.KnownCut.{AreCounted}
use Rattle.report_markup.specs.declared.report.Report.{Report}
use Rattle.node_check.specs.declared.commands.NodeRun.{NodeRun}
use Rattle.pide_build.specs.declared.telling.BuiltNode.{BuiltNode}
use Rattle.pide_build.specs.Cutting.{sheets_of}
use Rattle.pide_build.proofs.KnownCut.{lie_there}
use Rattle.pide_build.proofs.Making.{handed_on, makes, of_ok, only_ok, only_one, reported}
use Rattle.pide_build.proofs.batch.Batch.checked.Goals as goal

pub check_node-run-requires : goal.check_node-run-requires
check_node-run-requires g c =
    let nodes = c.args.self.now.before.now.nodes.now in let p = c.args.place in
    let name = c.in-Some.name.now in let node = c.in-Some.node.now in let aliases = c.in-Some-get.aliases.now in
    let here : slice_get nodes p ≡ Some (name, node) = search rules in
    let there : slice_get c.args.self.now.before.now.aliases.now p ≡ Some aliases = grind (arith, common_steps, gets) in
    let same : aliases ≡ aliases_at nodes p = only_one (sym there ∙ c.requires.ready.aliases_are p c.requires.place) in
    let counted : AreCounted = λ now next. (c.ids_law.ensures [] now next).counted in
    let lie = lie_there nodes c.requires.ready.uncut counted (c.places_law.ensures [] (sheets_of nodes) 1) p (name, node) here in
    subst (λ ps. AllByRecursion (LiesIn (length node.text)) (ranges_in (sheet_of node) ps)) (sym (c.get-2.ensures ∙ ap (λ a. a.pairs) same)) lie

pub returns : goal.returns
returns g c =
    let nodes = c.args.self.now.before.now.nodes.now in let p = c.args.place in
    let name = c.in-Some.name.now in let node = c.in-Some.node.now in let aliases = c.in-Some-get.aliases.now in
    let here : slice_get nodes p ≡ Some (name, node) = search rules in
    let there : slice_get c.args.self.now.before.now.aliases.now p ≡ Some aliases = grind (arith, common_steps, gets) in
    let same : aliases ≡ aliases_at nodes p = only_one (sym there ∙ c.requires.ready.aliases_are p c.requires.place) in
    let l = g.L.Language.lang in let told = g.T.Telling.told in let begins = c.in_ok-begins.begins in
    let pairs = c.get-2.result.now in let run = c.in_ok-node.run' in
    let named : c.in_ok-node.node ≡ name = search rules in
    let built : List ℕ → List Report → BuiltNode = λ n rs. record { node = n; reports = rs } in
    let told_is : c.in_ok-told.told ≡ told (built c.in_ok-node.node c.from_vec-reports.result) =
    of_ok (λ made. made ≡ told (built c.in_ok-node.node c.from_vec-reports.result)) c.tell-told.result c.in_ok-told.told
    c.in_ok-told.ensures.first c.tell-told.ensures in
    makes l told nodes c.requires.ready.uncut c.args.self.now.before.now.behind.now p name node here begins c.in_ok-begins.ensures
    pairs (c.get-2.ensures ∙ ap (λ a. a.pairs) same) run
    (λ next. of_ok (λ (r : NodeRun _). r.reports.items ≡ reported l node begins pairs next)
    c.check_node-run.result run c.in_ok-node.ensures.second (c.check_node-run.ensures.reports next))
    (λ next. of_ok (λ (r : NodeRun _). r.behind ≡ handed_on l node begins pairs next)
    c.check_node-run.result run c.in_ok-node.ensures.second (c.check_node-run.ensures.behind next))
    (record { told = c.in_ok-told.told; behind = c.in_ok-told.behind }) (only_ok c.in_ok-told.ensures.second)
    (told_is ∙ ap₂ (λ n rs. told (built n rs)) named c.from_vec-reports.ensures)
