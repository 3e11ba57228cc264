-- What a build replies (this project's own).
use Rattle.std.specs.Prelude.{ℕ, Bool, true, false, List, [], ◌∷◌, ◌++◌, filter, length, Result, Ok, Err}
use Rattle.std.specs.List.{flat_map, sum_by}
use Rattle.byte_message.specs.Stream.{plain_spelling}
use Rattle.report_markup.specs.declared.kind.ReportKind.{ReportKind}
use Rattle.report_markup.specs.declared.kind.ReportKind.TheVariants as kind
use Rattle.language.specs.Lang.{Lang}
use Rattle.message_values.specs.declared.refusal.Refusal.{Refusal}
use Rattle.reply_messages.specs.declared.told.Told.{Told}
use Rattle.reply_messages.specs.declared.told.Told.TheVariants as tells
use Rattle.reply_messages.specs.Replies.{reply_chunks}
use Rattle.pide_build.specs.declared.telling.BuiltNode.{BuiltNode}
use Rattle.pide_build.specs.Built.{built_of}
use Rattle.pide_build.specs.Documents.{nodes_of}
use Rattle.pide_build.specs.Theories.{TheoryList, kept_by, next_theories}

-- the bytes of a reply
abbrev pub spelled : Told → List ℕ
spelled told = plain_spelling (reply_chunks told)

-- what a message is replied that makes this of the theories: nothing, unless it is refused
abbrev pub refusal_of : Result TheoryList Refusal → List ℕ
refusal_of (Ok after) = []
refusal_of (Err reason) = spelled (tells.Refused reason)

-- what messages are replied, one after the other
abbrev pub refusals : List (List (List ℕ)) → TheoryList → List ℕ
refusals [] theories = []
refusals (message ∷ messages) theories = refusal_of (next_theories message theories)
    ++ refusals messages (kept_by (next_theories message theories) theories)

-- a report tells an error
abbrev pub tells_error : ReportKind → Bool
tells_error kind.Error = true
tells_error _ = false

-- how many reports of a node do
abbrev pub errors_of : BuiltNode → ℕ
errors_of built = length (filter (λ report. tells_error report.kind) built.reports)

-- the reply of a node
abbrev pub node_reply : BuiltNode → List ℕ
node_reply built = spelled (tells.Built built.node built.reports)

-- the replies of all nodes, and then how many there are, and how many errors
abbrev pub replies_of : List BuiltNode → List ℕ
replies_of all = flat_map node_reply all
    ++ spelled (tells.Total (length all) (sum_by errors_of all))

-- what is replied when all theories are there
abbrev pub build_replies : {S : Type 0} → Lang S → TheoryList → List ℕ
build_replies l theories = replies_of (built_of l (nodes_of theories))
