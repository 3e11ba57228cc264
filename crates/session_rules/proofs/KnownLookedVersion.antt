-- What a snapshot looks at is the version that it names.
use Rattle.std.proofs.Common.{◌≡◌, ℕ, List, Option, None, Some, Result, Ok, Err, ap}
use Rattle.text_edits.specs.declared.edit.Edit.{Edit}
use Rattle.doc_nodes.specs.declared.node.Node.{Node}
use Rattle.exec_rules.specs.declared.version.Version.{Version}
use Rattle.message_values.specs.declared.refusal.Refusal.{Refusal}
use Rattle.message_values.specs.declared.refusal.Refusal.TheVariants.{UnknownVersion}
use Rattle.message_values.specs.Asked.{or_refused}
use Rattle.buffer_laws.specs.buffer_rules_below.Texts.{edit_all}
use Rattle.buffer_laws.specs.buffer_rules_below.Trying.{◌>>=◌}
use Rattle.core_rules.specs.Updates.{node_in}
use Rattle.session_rules.specs.Looking.{Looked}
use Rattle.session_rules.proofs.KnownLooked.{text_seen, node_seen}

text_version : (version : Version) (r : Result (List ℕ) Refusal) (looked : Looked) → text_seen version r ≡ Ok looked → version ≡ looked.version
text_version version (Err reason) looked e = absurd (cc)
text_version version (Ok text) looked e = let same : record { version = version; text = text } ≡ looked = cc in ap (λ (x : Looked). x.version) same

node_version : (edits : List Edit) (version : Version) (o : Option Node) (looked : Looked) → node_seen edits version o ≡ Ok looked → version ≡ looked.version
node_version edits version None looked e = absurd (cc)
node_version edits version (Some node) looked e = text_version version (edit_all edits node.text) looked e

-- it is a live version's
pub seen_version : (name : List ℕ) (edits : List Edit) (o : Option Version) (looked : Looked)
    → (or_refused UnknownVersion o >>= λ version. node_seen edits version (node_in version name)) ≡ Ok looked → o ≡ Some looked.version
seen_version name edits None looked e = absurd (cc)
seen_version name edits (Some version) looked e = ap (λ v. Some v) (node_version edits version (node_in version name) looked e)
