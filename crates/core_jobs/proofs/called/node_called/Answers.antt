use Rattle.std.proofs.Common.{ap, sym, ◌∙◌}
use Rattle.std.specs.Option.{option_map}
use Rattle.text_words.proofs.KnownLists.{found_passes}
use Rattle.shared_map.specs.Lent.{lent}
use Rattle.doc_nodes.specs.Names.{equal}
use Rattle.doc_nodes.proofs.KnownNames.{name_is}
use Rattle.core_jobs.proofs.CalledNode.{none_placed}
use Rattle.core_jobs.proofs.called.node_called.Goals as goal

pub returns-in-Some-clause-some : goal.returns-in-Some-clause-some
returns-in-Some-clause-some c =
    name_is _ _ (found_passes (λ pair. equal pair.0 c.args.name.now) c.args.nodes.now _
    (sym c.first_in.ensures ∙ ap (option_map lent) c.in-Some.is))

pub returns-in-None-clause-none : goal.returns-in-None-clause-none
returns-in-None-clause-none c =
    none_placed c.args.nodes.now c.args.name.now (sym c.first_in.ensures ∙ ap (option_map lent) c.in-None.is)
