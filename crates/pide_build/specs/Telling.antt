-- What is told of the nodes of a build (this project's own).
use Rattle.std.specs.Prelude.{ℕ, List, ◌++◌, length}
use Rattle.std.specs.List.{flat_map, sum_by}
use Rattle.reply_messages.specs.declared.told.Told.TheVariants as tells
use Rattle.pide_build.specs.declared.telling.BuiltNode.{BuiltNode}
use Rattle.pide_build.specs.declared.replies.NodeReply.{NodeReply}
use Rattle.pide_build.specs.Replies.{errors_of, node_reply, spelled}

-- of each node its reply
abbrev pub reply_of : BuiltNode → NodeReply
reply_of built = record { bytes = node_reply built; errors = errors_of built }

-- the replies one after the other, and then how many there are, and how many errors they tell
abbrev pub bytes_of : List NodeReply → List ℕ
bytes_of all = flat_map (λ reply. reply.bytes) all
    ++ spelled (tells.Total (length all) (sum_by (λ reply. reply.errors) all))
