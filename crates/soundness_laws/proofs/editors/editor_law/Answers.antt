-- The law of messages, for the command language.
use Rattle.soundness_laws.proofs.editors.editor_law.Goals as goal

pub returns-clause-going : goal.returns-clause-going
returns-clause-going c service history events moves follows =
    c.messages_law.ensures.going service history events moves c.isar_law.ensures follows

pub returns-clause-sees : goal.returns-clause-sees
returns-clause-sees c service history ahead h e events moves follows is ends =
    c.messages_law.ensures.sees service history ahead h e events moves c.isar_law.ensures follows is ends
