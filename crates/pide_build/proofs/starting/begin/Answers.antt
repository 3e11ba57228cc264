-- The node has from its imports what is kept of them.
use Rattle.std.proofs.Common.{rules, ◌≡◌, ◌∙◌, Some, sym, arith}
use Rattle.std.specs.Prelude.{slice_get}
use Rattle.std.proofs.lemmas.Grind.{common_steps}
use Rattle.std.proofs.lemmas.Option.{gets}
use Rattle.std.proofs.lemmas.Result.{IfOk-weaker}
use Rattle.doc_nodes.specs.Looks.{aims_at}
use Rattle.core_rules.specs.Scratch.{begins_at}
use Rattle.pide_build.proofs.Handing.{begins_is, only_one}
use Rattle.pide_build.proofs.starting.begin.Goals as goal

pub returns : goal.returns
returns g c = λ runs pair kept at.
    let l = g.L.Language.lang in let nodes = c.args.before.now.nodes.now in let graph = c.args.before.now.graph.now in
    let name = c.in-Some.name.now in let node = c.in-Some.node.now in
    let names = c.as_slice-names.result.now in let aims = c.aims-aims.result.now in
    let here : slice_get nodes c.args.place ≡ Some (name, node) = search rules in
    let names_so : names ≡ node.imports = search rules in
    let aims_so : aims ≡ aims_at graph.aims c.args.place = search rules in
    let aliases = c.in-Some-get.aliases.now in
    let there : slice_get c.args.before.now.aliases.now c.args.place ≡ Some aliases = grind (arith, common_steps, gets) in
    let aliases_so = only_one (sym there ∙ c.requires.aliases c.args.place c.requires.place) in
    IfOk-weaker c.start-state.result _ (λ state. state ≡ begins_at l nodes runs c.args.place pair)
    (λ state is. is ∙ begins_is l nodes graph c.requires.graph runs c.args.before.now.behind.now kept c.args.place pair at name node names aims
    c.in_ok-imports.imports aliases here names_so aims_so c.in_ok-imports.ensures aliases_so)
    c.start-state.ensures
