-- What is looked at, by what is found.
use Rattle.std.proofs.Common.{ℕ, List, Option, Result, Ok}
use Rattle.text_edits.specs.declared.edit.Edit.{Edit}
use Rattle.doc_nodes.specs.declared.node.Node.{Node}
use Rattle.exec_rules.specs.declared.version.Version.{Version}
use Rattle.message_values.specs.declared.refusal.Refusal.{Refusal}
use Rattle.message_values.specs.declared.refusal.Refusal.TheVariants.{UnknownNode}
use Rattle.message_values.specs.Asked.{or_refused}
use Rattle.buffer_laws.specs.buffer_rules_below.Texts.{edit_all}
use Rattle.buffer_laws.specs.buffer_rules_below.Trying.{◌>>=◌}
use Rattle.session_rules.specs.Looking.{Looked}

-- a text of a version, with edits
abbrev pub text_seen : Version → Result (List ℕ) Refusal → Result Looked Refusal
text_seen version r = r >>= λ text. Ok (record { version = version; text = text })

abbrev pub node_seen : List Edit → Version → Option Node → Result Looked Refusal
node_seen edits version o = or_refused UnknownNode o >>= λ node. text_seen version (edit_all edits node.text)
