-- What a mirror tells of a node is what the session tells.
use Rattle.std.proofs.Common.{◌≡◌, ℕ, List, [], ◌∷◌, map, Option, None, Some, Result, Ok, Err, refl, sym, ap, ◌∙◌}
use Rattle.std.specs.Option.{option_map}
use Rattle.text_edits.specs.declared.edit.Edit.{Edit}
use Rattle.core_tables.specs.Live.{version_of}
use Rattle.core_rules.specs.Shown.{pending}
use Rattle.core_rules.specs.Updates.{node_in}
use Rattle.doc_nodes.specs.Imports.{place_of}
use Rattle.doc_nodes.specs.declared.node.Node.{Node}
use Rattle.exec_rules.specs.declared.version.Version.{Version}
use Rattle.language.specs.Lang.{Lang}
use Rattle.message_values.specs.declared.editor_message.EditorMessage.TheVariants as asks
use Rattle.message_values.specs.declared.refusal.Refusal.{Refusal}
use Rattle.message_values.specs.declared.refusal.Refusal.TheVariants.{UnknownVersion, UnknownNode}
use Rattle.message_values.specs.Asked.{or_refused}
use Rattle.buffer_rules.specs.Texts.{edit_all}
use Rattle.buffer_rules.specs.Trying.{◌>>=◌}
use Rattle.reply_messages.specs.declared.told.Told.{Told}
use Rattle.reply_messages.specs.declared.told.Told.TheVariants as tells
use Rattle.session_rules.specs.declared.service.Service.{Service}
use Rattle.session_rules.specs.Accepting.{taken}
use Rattle.session_rules.specs.Looking.{Looked, looked_at}
use Rattle.session_rules.specs.Replies.{is_outdated, markup, told_to}
use Rattle.session_rules.specs.Session.{Session, document}
use Rattle.session_rules.specs.Shown.{finished_reports, protocol_reports}
use Rattle.document_session.specs.session_replies_below.Spelling.{reply_spelling}
use Rattle.document_session.specs.keeping_rules_below.Looks.{IsLook}
use Rattle.mirror_rules.specs.Images.{Image, Mirror}
use Rattle.pide_mirror.specs.Looking.{NodeShown, node_of}
use Rattle.mirror_rules.specs.Looking.{View, text_at, view_in, view_of}
use Rattle.mirror_rules.specs.Parts.{node_parts}
use Rattle.editor_laws.specs.Shown.{view_shown}
use Rattle.mirror_serve.specs.Looks.{markup_in, text_in}
use Rattle.mirror_serve.proofs.SameTexts.{same_texts}

module _ {S : Type 0} (l : Lang S) (service : Service) (s : Session) (m : Mirror) (version : ℕ) (name : List ℕ)
    (sees : (edits : List Edit) → view_in m version name edits ≡ view_shown l s version name edits) where
  abbrev seen_of : List Edit → Looked → View
  seen_of edits looked = record {
    reports = finished_reports l s.events looked.version name edits;
    pending = pending l s.events (document l s) looked.version name;
    outdated = is_outdated edits;
  }

  -- the text is that of the node's place
  text_by : (edits : List Edit) → text_in version name edits m ≡ (or_refused UnknownVersion (version_of m.live version) >>= λ image.
      or_refused UnknownNode (place_of image.nodes name) >>= λ p. edit_all edits (text_at image.nodes p))
  text_by edits = live (version_of m.live version)
    where
      shown : Image → ℕ → NodeShown
      shown image p = (text_at image.nodes p, node_parts image p)

      placed : (image : Image) (o : Option ℕ) → (or_refused UnknownNode (option_map (shown image) o) >>= λ node. edit_all edits node.0)
          ≡ (or_refused UnknownNode o >>= λ p. edit_all edits (text_at image.nodes p))
      placed image None = refl
      placed image (Some p) = refl

      live : (o : Option Image) → ((or_refused UnknownVersion o >>= λ image. or_refused UnknownNode (node_of image name)) >>= λ node. edit_all edits node.0)
          ≡ (or_refused UnknownVersion o >>= λ image. or_refused UnknownNode (place_of image.nodes name) >>= λ p. edit_all edits (text_at image.nodes p))
      live None = refl
      live (Some image) = placed image (place_of image.nodes name)

  texts : (edits : List Edit) → text_in version name edits m ≡ (looked_at l s version name edits >>= λ looked. Ok looked.text)
  texts edits = text_by edits ∙ same_texts UnknownVersion UnknownNode (λ (image : Image). place_of image.nodes name) (λ image p. text_at image.nodes p)
      (λ image p edits t. view_of (node_parts image p) edits) (λ (v : Version). node_in v name) (λ v (node : Node). node.text)
      (λ v t. record { version = v; text = t }) seen_of (λ (looked : Looked). looked.text) (λ v t. refl)
      (version_of m.live version) (version_of (document l s).live version) sees edits

  -- the reply to a snapshot
  pub markup_so : (edits : List Edit) → markup_in s.protocol version name edits m
      ≡ (looked_at l s version name edits >>= λ looked. Ok (markup l s version name edits looked))
  markup_so edits = go (looked_at l s version name edits) (sees edits) (texts edits)
    where
      tell : View → List ℕ → Told
      tell view text = tells.Markup version name (protocol_reports s.protocol text view.reports) view.pending view.outdated

      go : (r : Result Looked Refusal) → view_in m version name edits ≡ (r >>= λ looked. Ok (seen_of edits looked))
          → text_in version name edits m ≡ (r >>= λ looked. Ok looked.text)
          → markup_in s.protocol version name edits m ≡ (r >>= λ looked. Ok (markup l s version name edits looked))
      go (Ok looked) view text =
          ap (λ v. v >>= λ view. text_in version name edits m >>= λ text. Ok (tell view text)) view
          ∙ ap (λ t. t >>= λ text. Ok (tell (seen_of edits looked) text)) text
      go (Err reason) view text = ap (λ v. v >>= λ view. text_in version name edits m >>= λ text. Ok (tell view text)) view

  -- the session would accept it so
  pub looks_so : (edits : List Edit) (told : Told) → markup_in s.protocol version name edits m ≡ Ok told
      → IsLook l service s (Ok (asks.Snapshot version name edits)) (reply_spelling told)
      × (told_to l service s (Ok (asks.Snapshot version name edits)) ≡ told ∷ [])
  looks_so edits told is = go (looked_at l s version name edits) refl (sym (markup_so edits) ∙ is)
    where
      go : (r : Result Looked Refusal) → looked_at l s version name edits ≡ r → (r >>= λ looked. Ok (markup l s version name edits looked)) ≡ Ok told
          → IsLook l service s (Ok (asks.Snapshot version name edits)) (reply_spelling told)
          × (told_to l service s (Ok (asks.Snapshot version name edits)) ≡ told ∷ [])
      go (Err reason) found same = let no : ⊥ = cc in absurd no
      go (Ok looked) found same =
          let one : markup l s version name edits looked ≡ told = cc in
          let all : told_to l service s (Ok (asks.Snapshot version name edits)) ≡ told ∷ [] = rw found (ap (λ t. t ∷ []) one) in (
            record {
              accepted = rw found refl;
              settled = tt;
              told = ap (map reply_spelling) all;
              rests = rw found refl;
            },
            all,
          )

  -- or refuse it
  pub refuses_so : (edits : List Edit) (reason : Refusal) → markup_in s.protocol version name edits m ≡ Err reason
      → (taken l service s (Ok (asks.Snapshot version name edits)) ≡ Err reason)
      × (told_to l service s (Ok (asks.Snapshot version name edits)) ≡ tells.Refused reason ∷ [])
  refuses_so edits reason is = go (looked_at l s version name edits) refl (sym (markup_so edits) ∙ is)
    where
      go : (r : Result Looked Refusal) → looked_at l s version name edits ≡ r → (r >>= λ looked. Ok (markup l s version name edits looked)) ≡ Err reason
          → (taken l service s (Ok (asks.Snapshot version name edits)) ≡ Err reason)
          × (told_to l service s (Ok (asks.Snapshot version name edits)) ≡ tells.Refused reason ∷ [])
      go (Ok looked) found same = let no : ⊥ = cc in absurd no
      go (Err why) found same = let one : why ≡ reason = cc in (rw found (ap (λ r. Err r) one), rw found (ap (λ r. tells.Refused r ∷ []) one))
