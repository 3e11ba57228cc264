-- All of its executions have ids.
use Rattle.std.proofs.Common.{◌≡◌, ◌∷◌, List, ℕ, drop, sym, subst}
use Rattle.std.specs.List.{AllByRecursion}
use Rattle.std.proofs.lemmas.List.{take_rest}
use Rattle.text_words.proofs.KnownLists.{first_and_rest}
use Rattle.pide_base.specs.Ids.{IsId}
use Rattle.pide_mirror.specs.Tables.{table_of}
use Rattle.pide_base.proofs.KnownOutcomes.{on_ok_so}
use Rattle.pide_mirror.specs.KeptNodes.{HasId}
use Rattle.pide_mirror.specs.NodeParts.{command_kept}
use Rattle.pide_mirror.proofs.Executions.{command_ids}
use Rattle.pide_mirror.proofs.parts.add_command.Goals as goal

pub returns-clause-executions : goal.returns-clause-executions
returns-clause-executions c =
    let all = c.args.executions.now in
    let first = c.exec-item.result in
    let split : all ≡ first ∷ drop 1 all = first_and_rest all first c.in-len1-up.len_at_least c.exec-item.is in
    let table = table_of c.args.places.now in
    on_ok_so c.add_prints.result _ _ (λ ids. subst (λ (xs : List ℕ). AllByRecursion HasId (command_kept table c.args.aliases.now c.args.entry.now xs)) (sym split)
    (command_ids table c.args.aliases.now c.args.entry.now (first ∷ drop 1 all) (c.get-place.ensures.execution, subst (AllByRecursion IsId) (take_rest all 1) ids)))
    c.add_prints.ensures.executions
