use Rattle.test_documents.proofs.assigned.made_by_two.Goals as goal

pub made_of-requires-2-clause-rows : goal.made_of-requires-2-clause-rows
made_of-requires-2-clause-rows c = c.in_ok-one.ensures.rows
