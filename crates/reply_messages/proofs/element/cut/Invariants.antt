-- None of the bytes so far is the byte.
use Rattle.std.proofs.Common.{take}
use Rattle.yxml.specs.Normal.{Lacks}
use Rattle.reply_messages.proofs.element.cut.Given as goal

abbrev pub invariant-bytes : goal.invariant-bytes
invariant-bytes l = Lacks l.byte (take l.place l.text)
