-- A version more, on both sides.
use Rattle.std.proofs.Common.{◌≡◌, ℕ, ◌≤◌, Bool, true, false, List, [], ◌∷◌, ◌++◌, length, Some, Result, Ok, Err, refl, ap, subst, ◌∙◌, arith}
use Rattle.std.specs.Prelude.{slice_get, nat_lt, if◌then◌else◌}
use Rattle.text_words.specs.Members.{has}
use Rattle.doc_nodes.specs.declared.node.Node.{Node}
use Rattle.core_tables.specs.declared.versions.Live.{Live}
use Rattle.exec_rules.specs.declared.row.Row.{Row}
use Rattle.exec_rules.specs.declared.version.Version.{Version}
use Rattle.exec_rules.specs.Assigning.{rows_in}
use Rattle.exec_rules.specs.Listed.{executions}
use Rattle.language.specs.Lang.{Lang}
use Rattle.message_values.specs.declared.refusal.Refusal.{Refusal}
use Rattle.message_values.specs.declared.refusal.Refusal.TheVariants.{Limit, VersionNotHigher}
use Rattle.buffer_rules.specs.declared.sheet.Document.{Document}
use Rattle.buffer_rules.specs.Nodes.{nodes_after}
use Rattle.buffer_rules.specs.Preparing.{Buffer, prepared, within_limits}
use Rattle.buffer_rules.specs.Trying.{◌>>=◌}
use Rattle.buffer_rules.specs.Updates.{Asked, document_after}
use Rattle.core_rules.specs.declared.event.Event.TheVariants as event
use Rattle.core_rules.specs.Numbered.{grown}
use Rattle.core_rules.specs.Assigned.{assigns}
use Rattle.core_rules.specs.Doc.{assignment_of, assigned_version}
use Rattle.core_rules.specs.Legal.{IsLegal as IsLegalList}
use Rattle.core_rules.specs.Standing.{is_done}
use Rattle.core_rules.proofs.KnownNumbers.{length_grown}
use Rattle.session_rules.specs.Replies.{rows_told}
use Rattle.session_rules.specs.Session.{Session, document}
use Rattle.session_rules.specs.Updating.{runs_out, with_buffer}
use Rattle.session_rules.specs.Updating as updating
use Rattle.session_rules.specs.Keeping.{KeepsFront}
use Rattle.mirror_rules.specs.Images.{Image, Mirror}
use Rattle.mirror_rules.specs.Updates.{image_after, buffer_after, with_tip}
use Rattle.editor_laws.proofs.Facts.{Facts}
use Rattle.editor_laws.proofs.Known.{AreFilled, ImageOf, image_on, reported_on}
use Rattle.text_words.proofs.KnownFinds.{any_at}
use Rattle.editor_laws.proofs.Mirrors.{Mirrors, live_each, live_long, live_more}
use Rattle.editor_laws.proofs.TipScratch.{last_there}
use Rattle.editor_laws.proofs.Updating.{updated_image}

-- what an update that is accepted prepares
pub record IsTaken {S : Type 0} (l : Lang S) (s : Session) (version : ℕ) (asked : Asked) (after : Session) : Type 0 where
  pub buffer : Buffer
  pub takes : prepared s.buffer (length (document l s).live) asked ≡ Ok buffer
  pub newer : nat_lt (document l s).last version ≡ true
  pub is : with_buffer s version buffer ≡ after

pub taken_update : {S : Type 0} (l : Lang S) (s : Session) (version : ℕ) (asked : Asked) (after : Session)
    → updating.updated_session l s version asked ≡ Ok after → IsTaken l s version asked after
taken_update l s version asked after e = go (nat_lt (document l s).last version) refl e
  where
    made : (b : Buffer) → prepared s.buffer (length (document l s).live) asked ≡ Ok b → nat_lt (document l s).last version ≡ true
        → (over : Bool) → ◌≡◌ {A = Result Session Refusal} (if over then Err Limit else Ok (with_buffer s version b)) (Ok after)
        → IsTaken l s version asked after
    made b is newer true e = absurd (cc)
    made b is newer false e = record { buffer = b; takes = is; newer = newer; is = cc }

    prep : (o : Result Buffer Refusal) → prepared s.buffer (length (document l s).live) asked ≡ o → nat_lt (document l s).last version ≡ true
        → (o >>= λ b. if runs_out (document l s) b then Err Limit else Ok (with_buffer s version b)) ≡ Ok after → IsTaken l s version asked after
    prep (Err reason) is newer e = absurd (cc)
    prep (Ok b) is newer e = made b is newer (runs_out (document l s) b) e

    go : (b : Bool) → nat_lt (document l s).last version ≡ b
        → ◌≡◌ {A = Result Session Refusal} (if b then (prepared s.buffer (length (document l s).live) asked >>= λ b.
        if runs_out (document l s) b then Err Limit else Ok (with_buffer s version b)) else Err VersionNotHigher) (Ok after)
        → IsTaken l s version asked after
    go false newer e = absurd (cc)
    go true newer e = prep (prepared s.buffer (length (document l s).live) asked) refl newer e

-- the nodes that are prepared are those of sheets
pub prepared_filled : {S : Type 0} {l : Lang S} → Facts l → (b b' : Buffer) (live : ℕ) (asked : Asked) → prepared b live asked ≡ Ok b' → AreFilled b'.nodes
prepared_filled facts b b' live asked e = go (document_after asked b.document) e
  where
    by : (document : Document) (c : Bool) → ◌≡◌ {A = Result Buffer Refusal} (if c then Err Limit
        else Ok (record { document = document; nodes = (nodes_after b.nodes document.sheets b.next).nodes; next = (nodes_after b.nodes document.sheets b.next).next })) (Ok b')
        → AreFilled b'.nodes
    by document true e = absurd (cc)
    by document false e =
        let same : record { document = document; nodes = (nodes_after b.nodes document.sheets b.next).nodes; next = (nodes_after b.nodes document.sheets b.next).next } ≡ b' = cc in
        subst (λ (x : Buffer). AreFilled x.nodes) same (facts.filled b.nodes document.sheets b.next)

    go : (o : Result Document Refusal) → (o >>= λ document. within_limits live document (nodes_after b.nodes document.sheets b.next)) ≡ Ok b' → AreFilled b'.nodes
    go (Err reason) e = absurd (cc)
    go (Ok document) e = by document _ e

module _ {S : Type 0} (l : Lang S) (facts : Facts l) (s : Session) (m : Mirror) (is : Mirrors l s m) (version : ℕ) (asked : Asked) (b : Buffer)
    (takes : prepared s.buffer (length (document l s).live) asked ≡ Ok b) (newer : nat_lt (document l s).last version ≡ true)
    (legal : IsLegalList l (event.Update version b.nodes b.document.blobs ∷ s.events))
    (keeps : (p : ℕ) (pair : List ℕ × Node) → slice_get b.nodes p ≡ Some pair
    → KeepsFront (document l s) (document l (with_buffer s version b)).tip p pair) where
  -- the editor's own document takes it too
  pub takes_too : buffer_after m version asked ≡ Ok b
  takes_too =
      ap (λ n. if nat_lt n version then prepared m.buffer (length m.live) asked else Err VersionNotHigher) is.last
      ∙ ap (λ c. if c then prepared m.buffer (length m.live) asked else Err VersionNotHigher) newer
      ∙ ap (λ x. prepared x (length m.live) asked) is.buffer
      ∙ ap (λ n. prepared s.buffer n asked) (live_long l s.events (document l s).homes (document l s).live m.live is.live) ∙ takes

  abbrev new : Version
  new = assigned_version b.nodes b.document.blobs
      (assignment_of (document l s) b.nodes b.document.blobs)

  abbrev pub image : Image
  image = image_after m.tip (rows_told (document l s).tip new) b

  made : (name : List ℕ) (i : ℕ) (row : Row) (x : ℕ) → slice_get (rows_in new name) i ≡ Some row → has (executions row) x ≡ true
      → x ≤ length (grown (document l s).homes (assignment_of (document l s) b.nodes b.document.blobs).homes)
  made name i row x at among = facts.made (event.Update version b.nodes b.document.blobs ∷ s.events) x legal
      (any_at (λ (one : Live Version). assigns one.version x) ((document l s).live ++ record { id = version; version = new } ∷ [])
      (length (document l s).live) (record { id = version; version = new }) (last_there (document l s).live (record { id = version; version = new }))
      (facts.there new name i x row at among))

  new_image : ImageOf l (event.Update version b.nodes b.document.blobs ∷ s.events)
      (grown (document l s).homes (assignment_of (document l s) b.nodes b.document.blobs).homes) new image
  new_image = updated_image l facts.kept s.events (document l s) version b m.tip is.tip legal.1.1.names legal.1.1.commands
      (prepared_filled facts s.buffer b (length (document l s).live) asked takes)
      (λ p late. ap is_done (facts.unmade s.events p legal.0 late)) keeps made

  -- and both have the version
  pub updated_mirrors : Mirrors l (with_buffer s version b) (with_tip m version b image)
  updated_mirrors = record {
    buffer = refl;
    last = refl;
    protocol = is.protocol;
    live = live_more l (event.Update version b.nodes b.document.blobs ∷ s.events)
        (grown (document l s).homes (assignment_of (document l s) b.nodes b.document.blobs).homes) (document l s).live m.live
        (record { id = version; version = new }) (record { id = version; version = image })
        (live_each l s.events (event.Update version b.nodes b.document.blobs ∷ s.events) (document l s).homes
        (grown (document l s).homes (assignment_of (document l s) b.nodes b.document.blobs).homes) (document l s).live m.live
        (λ v im was. image_on l s.events (event.Update version b.nodes b.document.blobs ∷ s.events) (document l s).homes
        (grown (document l s).homes (assignment_of (document l s) b.nodes b.document.blobs).homes) v im was
        (let long = length_grown (document l s).homes (assignment_of (document l s) b.nodes b.document.blobs).homes in omega (arith, long))
        (λ p le. reported_on l s.events (event.Update version b.nodes b.document.blobs ∷ s.events) (document l s).homes
        (assignment_of (document l s) b.nodes b.document.blobs).homes p refl le)) is.live) refl new_image;
    tip = new_image;
  }
