-- A name is ASCII, so it is UTF-8.
use Rattle.std.proofs.Common.{subst}
use Rattle.std.specs.Str.{IsUtf8}
use Rattle.std.proofs.lemmas.Str.{IsUtf8-from_ascii}
use Rattle.reply_messages.proofs.Names.{name_is_ascii}
use Rattle.reply_messages.proofs.words.NodeNameWord.told.Goals as goal

pub returns-in_default : goal.returns-in_default
returns-in_default c = λ name named e. c.in_default.ensures.cases.0 (subst IsUtf8 e (IsUtf8-from_ascii name (name_is_ascii name named)))
