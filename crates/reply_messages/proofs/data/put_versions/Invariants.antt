-- What is written, and what is left, make up the list.
use Rattle.std.proofs.Common.{◌≡◌, ◌++◌, string_bytes, drop, map}
use Rattle.xml_codec.specs.Data.{list_body}
use Rattle.yxml.specs.Spelling.{yxml}
use Rattle.message_values.specs.ShapeBodies.{number_body}
use Rattle.reply_messages.proofs.data.put_versions.Given as goal

abbrev pub invariant-versions : goal.invariant-versions
invariant-versions l = string_bytes l.out ++ yxml (list_body (map number_body (drop l.version-index l.versions)))
    ≡ string_bytes l.initial.out ++ yxml (list_body (map number_body l.versions))
