use Rattle.soundness_laws.proofs.LexemeTokens.{lexemes_are}
use Rattle.soundness_laws.proofs.lexemes.written_tokens.Goals as goal

pub returns : goal.returns
returns c is_command lexemes fitting = lexemes_are is_command lexemes fitting
