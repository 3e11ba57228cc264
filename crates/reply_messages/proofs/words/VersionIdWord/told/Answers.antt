-- An id is a number.
use Rattle.reply_messages.proofs.ReadTold.{id_told}
use Rattle.reply_messages.proofs.words.VersionIdWord.told.Goals as goal

pub returns-in-Some : goal.returns-in-Some
returns-in-Some c = id_told c.args.bytes.now c.in-Some.number c.new.result c.in-Some.ensures c.new.ensures
