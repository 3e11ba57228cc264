use Rattle.soundness_laws.proofs.SuggestedCommands.{aliased_command, bare_command}
use Rattle.soundness_laws.proofs.suggested_texts.suggested_command.Goals as goal

pub returns-clause-aliased : goal.returns-clause-aliased
returns-clause-aliased c = aliased_command

pub returns-clause-bare : goal.returns-clause-bare
returns-clause-bare c = bare_command
