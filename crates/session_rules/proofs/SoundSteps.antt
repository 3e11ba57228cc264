-- A step of a session that is sound: its events stay legal, and both documents agree.
use Rattle.std.proofs.Common.{◌≡◌, ℕ, ◌<◌, ◌≤◌, Bool, true, false, List, ◌∷◌, length, Result, Ok, Err, refl, sym, ap, subst, ◌∙◌, arith}
use Rattle.std.proofs.lemmas.Bool.{ltb-true, ltb-false}
use Rattle.std.specs.Prelude.{if◌then◌else◌, nat_lt}
use Rattle.pide_base.specs.Ids.{id_end}
use Rattle.core_tables.specs.declared.versions.Removing.{Removing}
use Rattle.core_tables.specs.declared.versions.Removing.TheVariants as answer
use Rattle.core_tables.specs.Removal.{removing}
use Rattle.exec_rules.specs.declared.version.Version.{Version}
use Rattle.language.specs.Lang.{Lang}
use Rattle.message_values.specs.declared.refusal.Refusal.{Refusal}
use Rattle.message_values.specs.declared.refusal.Refusal.TheVariants.{VersionNotHigher, UnknownExecution, Limit}
use Rattle.buffer_laws.specs.Fitting.{Agrees, start_doc}
use Rattle.buffer_laws.specs.buffer_rules_below.Trying.{◌>>=◌}
use Rattle.buffer_laws.specs.buffer_rules_below.Updates.{Asked}
use Rattle.buffer_laws.specs.buffer_rules_below.Preparing.{Buffer, prepared}
use Rattle.buffer_laws.specs.buffer_rules_below.Preparing as buffer
use Rattle.core_rules.specs.declared.event.Event.{Event}
use Rattle.core_rules.specs.declared.event.Event.TheVariants as event
use Rattle.core_rules.specs.Assigned.{is_assigned}
use Rattle.core_rules.specs.Doc.{Doc, doc, assignment_of, updated_doc}
use Rattle.core_rules.specs.Legal.{IsLegal as IsLegalList, MayFollow as MayFollowList}
use Rattle.core_rules.specs.Standing.{has_ended, is_open}
use Rattle.core_rules.specs.Updates.{FitsUpdate}
use Rattle.session_rules.specs.Session.{Session, document, with_event}
use Rattle.session_rules.specs.Updating.{runs_out, with_buffer, removed_by}
use Rattle.session_rules.specs.Updating as updating

-- the laws on updates
pub record FitLaws : Type 0 where
  pub fits : (b b' : Buffer) (d : Doc) (live id : ℕ) (asked : Asked) → Agrees b d → prepared b live asked ≡ Ok b' → d.last < id
      → (assignment_of d b'.nodes b'.document.blobs).next ≤ id_end → FitsUpdate d id b'.nodes b'.document.blobs
  pub kept : (b b' : Buffer) (d : Doc) (live id : ℕ) (asked : Asked) (opened : ℕ → Bool) → Agrees b d → prepared b live asked ≡ Ok b'
      → Agrees b' (updated_doc opened d id b'.nodes b'.document.blobs (assignment_of d b'.nodes
      b'.document.blobs))
  pub begins : Agrees buffer.empty_buffer start_doc

module _ {S : Type 0} (l : Lang S) (laws : FitLaws) where
  -- a session's events are legal, and both documents agree
  pub record IsSound (s : Session) : Type 0 where
    pub legal : IsLegalList l s.events
    pub agree : Agrees s.buffer (document l s)

  -- an event that changes neither the tip nor the ids of commands
  abbrev pub Stays : Session → Event → Type 0
  Stays s e = ((doc l (e ∷ s.events)).tip ≡ (doc l s.events).tip) × ((doc l (e ∷ s.events)).commands ≡ (doc l s.events).commands)

  pub still : (s : Session) (e : Event) → IsSound s → MayFollowList l s.events e → Stays s e → IsSound (with_event s e)
  still s e sound may stays = record {
    legal = (sound.legal, may);
    agree = record {
      names = sound.agree.names;
      nodes = ap (λ (v : Version). v.nodes) stays.0 ∙ sound.agree.nodes;
      differ = sound.agree.differ;
      below = sound.agree.below;
      first = omega (arith, stays.1, sound.agree.first);
      headers = sound.agree.headers;
    };
  }

  pub update_sound : (s after : Session) (version : ℕ) (asked : Asked) → has_ended s.events ≡ false → IsSound s
      → updating.updated_session l s version asked ≡ Ok after → IsSound after
  update_sound s after version asked open_ sound e = go (nat_lt (document l s).last version) refl e
    where
      made : (b : Buffer) → prepared s.buffer (length (document l s).live) asked ≡ Ok b → (document l s).last < version
          → (over : Bool) → runs_out (document l s) b ≡ over
          → ◌≡◌ {A = Result Session Refusal} (if over then Err Limit else Ok (with_buffer s version b)) (Ok after) → IsSound after
      made b is newer true over e = absurd (cc)
      made b is newer false over e =
          let same : with_buffer s version b ≡ after = cc in
          let numbers : (assignment_of (document l s) b.nodes b.document.blobs).next ≤ id_end = ltb-false id_end _ over in
          subst IsSound same (record {
            legal = (sound.legal, (open_, laws.fits s.buffer b (document l s) (length (document l s).live) version asked sound.agree is newer numbers));
            agree = laws.kept s.buffer b (document l s) (length (document l s).live) version asked
                (is_open l s.events (document l s).homes) sound.agree is;
          })

      prep : (o : Result Buffer Refusal) → prepared s.buffer (length (document l s).live) asked ≡ o → (document l s).last < version
          → (o >>= λ b. if runs_out (document l s) b then Err Limit else Ok (with_buffer s version b)) ≡ Ok after → IsSound after
      prep (Err reason) is newer e = absurd (cc)
      prep (Ok b) is newer e = made b is newer (runs_out (document l s) b) refl e

      go : (b : Bool) → nat_lt (document l s).last version ≡ b
          → ◌≡◌ {A = Result Session Refusal} (if b then (prepared s.buffer (length (document l s).live) asked >>= λ b.
          if runs_out (document l s) b then Err Limit else Ok (with_buffer s version b)) else Err VersionNotHigher) (Ok after) → IsSound after
      go false newer e = absurd (cc)
      go true newer e = prep (prepared s.buffer (length (document l s).live) asked) refl (ltb-true (document l s).last version newer) e

  pub cancel_sound : (s after : Session) (exec : ℕ) → has_ended s.events ≡ false → IsSound s → updating.cancelled l s exec ≡ Ok after → IsSound after
  cancel_sound s after exec open_ sound e = go (is_assigned (document l s).live exec) refl e
    where
      go : (b : Bool) → is_assigned (document l s).live exec ≡ b
          → ◌≡◌ {A = Result Session Refusal} (if b then Ok (with_event s (event.Cancel exec)) else Err UnknownExecution) (Ok after) → IsSound after
      go false is e = absurd (cc)
      go true is e =
          let same : with_event s (event.Cancel exec) ≡ after = cc in subst IsSound same (still s (event.Cancel exec) sound (open_, is) (refl, refl))

  pub remove_sound : (s after : Session) (ids : List ℕ) → has_ended s.events ≡ false → IsSound s → updating.removed l s ids ≡ Ok after → IsSound after
  remove_sound s after ids open_ sound e = go (removing (document l s).live ids) refl e
    where
      go : (r : Removing) → removing (document l s).live ids ≡ r → removed_by s ids r ≡ Ok after → IsSound after
      go (answer.Unknown id) is e = absurd (cc)
      go answer.Tip is e = absurd (cc)
      go answer.Removed is e =
          let same : with_event s (event.Remove ids) ≡ after = cc in subst IsSound same (still s (event.Remove ids) sound (open_, is) (refl, refl))

  -- a session that changes in other things alone
  pub other_sound : (s after : Session) → IsSound s → after.events ≡ s.events → after.buffer ≡ s.buffer → IsSound after
  other_sound s after sound events same = record {
    legal = subst (IsLegalList l) (sym events) sound.legal;
    agree = subst (λ b. Agrees b (document l after)) (sym same) (subst (λ h. Agrees s.buffer (doc l h)) (sym events) sound.agree);
  }
