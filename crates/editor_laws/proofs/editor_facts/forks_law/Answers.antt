use Rattle.editor_laws.proofs.ForkedSteps.{step_forks}
use Rattle.editor_laws.proofs.editor_facts.forks_law.Goals as goal

pub returns : goal.returns
returns c = λ source blob before. step_forks source blob before
    (c.refused_law.ensures source blob before)
