use Rattle.soundness_laws.proofs.TakenLemmas.{Laws, taken}
use Rattle.soundness_laws.proofs.suggestion_laws.suggest_law.Goals as goal

pub returns : goal.returns
returns c begins sheet before later next last blobs k e s text new unnamed entry_is command_is suggests unbroken applies =
    let laws : Laws = record {
      commands = c.insertion_law.ensures.commands;
      header = c.insertion_law.ensures.header;
      counted = λ olds now n. (c.ids_law.ensures olds now n).counted;
      kept = c.citable_states.ensures.kept;
      aliased = c.suggested_by.ensures.aliased;
      bare = c.suggested_by.ensures.bare;
      proved = c.suggested_by.ensures.proved;
    } in
    taken laws begins sheet before later next last blobs k e s text new unnamed entry_is command_is suggests unbroken applies
