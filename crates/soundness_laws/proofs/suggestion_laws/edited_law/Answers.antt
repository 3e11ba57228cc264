use Rattle.soundness_laws.proofs.TakenNodes.{Laws, taken_at}
use Rattle.soundness_laws.proofs.suggestion_laws.edited_law.Goals as goal

pub returns : goal.returns
returns c sheets others p sheet tip old next last blobs run k e s text new edited comes entry_is command_is suggests unbroken applies =
    let laws : Laws = record {
      taken = c.document_law.ensures.taken;
      counted = λ before now n. (c.ids_law.ensures before now n).counted;
      every = c.order_law.ensures.every;
      once = c.order_law.ensures.once;
    } in
    taken_at laws sheets others p sheet blobs text new k edited tip old next last run e s comes entry_is command_is suggests unbroken applies
