use Rattle.soundness_laws.proofs.OpenGoals.{open_goal}
use Rattle.soundness_laws.proofs.ProvedBy.{proved_by}
use Rattle.soundness_laws.specs.CitableStates.{alias_names}
use Rattle.soundness_laws.proofs.commands.suggested_by.Goals as goal

pub returns-clause-aliased : goal.returns-clause-aliased
returns-clause-aliased c state t citable found =
    let open_is = open_goal state.place (alias_names state) t citable found in
    c.suggested_command.ensures.aliased open_is.goal open_is.locals (alias_names state) t open_is.readable open_is.citable open_is.found

pub returns-clause-bare : goal.returns-clause-bare
returns-clause-bare c state t citable found =
    let open_is = open_goal state.place (alias_names state) t citable found in
    c.suggested_command.ensures.bare open_is.goal open_is.locals (alias_names state) t open_is.readable open_is.citable open_is.found

pub returns-clause-proved : goal.returns-clause-proved
returns-clause-proved c = proved_by c.suggested_proof.ensures
