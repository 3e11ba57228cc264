-- What is answered to a snapshot.
use Rattle.std.proofs.Common.{◌≡◌, ℕ, List, [], ◌∷◌, map, Option, Some, None, Result, Ok, Err, sym, ap, ◌∙◌}
use Rattle.std.specs.Prelude.{slice_get}
use Rattle.std.specs.Option.{option_map, option_and_then}
use Rattle.text_words.proofs.KnownLists.{position_found}
use Rattle.text_edits.specs.declared.edit.Edit.{Edit}
use Rattle.shared_map.specs.Pairs.{found}
use Rattle.doc_nodes.specs.declared.node.Node.{Node}
use Rattle.doc_nodes.specs.Imports.{place_of}
use Rattle.doc_nodes.specs.Names.{in_order, equal}
use Rattle.core_tables.specs.Live.{version_of}
use Rattle.exec_rules.specs.declared.version.Version.{Version}
use Rattle.language.specs.Lang.{Lang}
use Rattle.message_values.specs.declared.editor_message.EditorMessage.TheVariants as asks
use Rattle.message_values.specs.declared.refusal.Refusal.{Refusal}
use Rattle.message_values.specs.declared.refusal.Refusal.TheVariants.{UnknownVersion, UnknownNode}
use Rattle.message_values.specs.Asked.{or_refused}
use Rattle.buffer_rules.specs.Trying.{◌>>=◌}
use Rattle.buffer_rules.specs.Texts.{edit_all}
use Rattle.editor_buffer.specs.declared.fault.PrepareError.{PrepareError}
use Rattle.editor_buffer.specs.declared.fault.PrepareError.TheVariants.{Refused, NoMemory}
use Rattle.editor_buffer.specs.Telling.{TellsError}
use Rattle.core_rules.specs.Updates.{node_in}
use Rattle.reply_messages.specs.declared.told.Told.{Told}
use Rattle.session_rules.specs.declared.service.Service.{Service}
use Rattle.session_rules.specs.Session.{Session, document}
use Rattle.session_rules.specs.Accepting.{taken}
use Rattle.session_rules.specs.Looking.{Looked, looked_at}
use Rattle.session_rules.specs.Replies.{told_to}
use Rattle.session_rules.proofs.KnownLooked.{text_seen, node_seen}
use Rattle.keeping_rules.specs.session_replies_below.Spelling.{reply_spelling}
use Rattle.keeping_rules.specs.Looks.{IsLook}
use Rattle.keeping_rules.proofs.KnownNothingDue.{nothing_due}
use Rattle.document_session.specs.Looks.{IsFound, LookedSo}

-- the node of a name is what the map has at it
pub node_found : (version : Version) (name : List ℕ) → node_in version name ≡ found in_order name version.nodes
node_found version name = ap (λ (o : Option (List ℕ × Node)). option_map (λ pair. pair.1) o)
    (position_found (λ (pair : List ℕ × Node). equal pair.0 name) version.nodes)

-- a node that the map has is found, with its text
pub found_so : {S : Type 0} (l : Lang S) (s : Session) (id : ℕ) (name text : List ℕ) (version : Version) (node : Node)
    → version_of (document l s).live id ≡ Some version → found in_order name version.nodes ≡ Some node → text ≡ node.text
    → IsFound l s id name text
found_so l s id name text version node live at text_is = record {
  version = version;
  live = live;
  node = node;
  stands = node_found version name ∙ at;
  text_is = text_is;
}

-- a node that is found has a place
pub placed : (version : Version) (name : List ℕ) (node : Node) → node_in version name ≡ Some node → place_of version.nodes name ≡ None → ⊥
placed version name node at none =
    let gone : None ≡ Some node = sym (ap (λ (o : Option ℕ). option_map (λ (pair : List ℕ × Node). pair.1)
    (option_and_then (slice_get version.nodes) o)) none) ∙ at in absurd (cc)

-- what is looked at, by what is found
abbrev version_seen : List ℕ → List Edit → Option Version → Result Looked Refusal
version_seen name edits o = or_refused UnknownVersion o >>= λ version. node_seen edits version (node_in version name)

module _ {S : Type 0} (l : Lang S) (service : Service) (s : Session) (id : ℕ) (name : List ℕ) (edits : List Edit) where
  abbrev after : Result Looked Refusal → Result Session Refusal
  after r = r >>= λ looked. Ok s

  pub no_version : version_of (document l s).live id ≡ None → taken l service s (Ok (asks.Snapshot id name edits)) ≡ Err UnknownVersion
  no_version none = ap (λ (o : Option Version). after (version_seen name edits o)) none

  module _ (version : Version) (live : version_of (document l s).live id ≡ Some version) where
    seen : (o : Option Node) → node_in version name ≡ o → looked_at l s id name edits ≡ node_seen edits version o
    seen o at = ap (version_seen name edits) live ∙ ap (node_seen edits version) at

    pub no_node : node_in version name ≡ None → taken l service s (Ok (asks.Snapshot id name edits)) ≡ Err UnknownNode
    no_node none = ap after (seen None none)

  module _ (text : List ℕ) (there : IsFound l s id name text) where
    text_is : (r : Result (List ℕ) Refusal) → edit_all edits text ≡ r → looked_at l s id name edits ≡ text_seen there.version r
    text_is r edited = seen there.version there.live (Some there.node) there.stands
        ∙ ap (λ (t : List ℕ). text_seen there.version (edit_all edits t)) (sym there.text_is) ∙ ap (text_seen there.version) edited

    -- its text doesn't take the edits, or memory runs out
    pub not_edited : {A : Type 0} (bytes : A → List ℕ) (e : PrepareError) → TellsError e (edit_all edits text)
        → LookedSo l service s (asks.Snapshot id name edits) bytes (Err e)
    not_edited bytes (Refused reason) told = ap after (text_is (Err reason) told)
    not_edited bytes NoMemory told = tt

    -- it does, and this is told
    pub shown : (behind : List ℕ) (t : Told) (bytes : List ℕ) → edit_all edits text ≡ Ok behind
        → told_to l service s (Ok (asks.Snapshot id name edits)) ≡ t ∷ []
        → bytes ≡ reply_spelling t
        → IsLook l service s (Ok (asks.Snapshot id name edits)) bytes
    shown behind t bytes edited told is = record {
      accepted = ap after (text_is (Ok behind) edited);
      settled = tt;
      told = ap (λ (ts : List Told). map reply_spelling ts) told ∙ ap (λ (b : List ℕ). b ∷ [])
          (sym is);
      rests = nothing_due (taken l service s (Ok (asks.Snapshot id name edits)));
    }
