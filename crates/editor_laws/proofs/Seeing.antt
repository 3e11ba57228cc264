-- What an editor sees is what the session shows.
use Rattle.std.proofs.Common.{◌≡◌, ℕ, zero, suc, Bool, true, false, cond, List, [], ◌∷◌, Option, Some, None, Result, Ok, Err, refl, ap, sym, subst, ◌∙◌}
use Rattle.std.specs.Prelude.{slice_get, find, ◌==◌}
use Rattle.std.specs.Option.{option_map, option_map_or, option_and_then}
use Rattle.text_edits.specs.declared.edit.Edit.{Edit}
use Rattle.doc_nodes.specs.declared.node.Node.{Node}
use Rattle.doc_nodes.specs.Imports.{place_of}
use Rattle.core_tables.specs.declared.versions.Live.{Live}
use Rattle.core_tables.specs.Live.{version_of}
use Rattle.exec_rules.specs.declared.version.Version.{Version}
use Rattle.language.specs.Lang.{Lang}
use Rattle.message_values.specs.declared.refusal.Refusal.{Refusal}
use Rattle.message_values.specs.declared.refusal.Refusal.TheVariants.{UnknownVersion, UnknownNode}
use Rattle.message_values.specs.Asked.{or_refused}
use Rattle.buffer_rules.specs.Texts.{edit_all}
use Rattle.buffer_rules.specs.Trying.{◌>>=◌}
use Rattle.core_rules.specs.FromScratch.{AllFromScratch}
use Rattle.core_rules.specs.Legal.{IsLegal}
use Rattle.core_rules.specs.Shown.{parts_shown, pending, scratch_shown}
use Rattle.core_rules.specs.Updates.{node_in}
use Rattle.core_rules.proofs.KnownPlaces.{FoundAt, place_found}
use Rattle.session_rules.specs.Looking.{Looked}
use Rattle.session_rules.specs.Replies.{is_outdated}
use Rattle.session_rules.specs.Session.{Session, document}
use Rattle.session_rules.specs.Shown.{finished_reports}
use Rattle.mirror_rules.specs.Images.{Image, Mirror}
use Rattle.mirror_rules.specs.Looking.{View, view_in, text_at, view_of}
use Rattle.mirror_rules.specs.Parts.{node_parts}
use Rattle.mirror_rules.specs.Telling.{IsTold}
use Rattle.editor_laws.specs.Shown.{view_shown}
use Rattle.editor_laws.proofs.Facts.{Facts}
use Rattle.editor_laws.proofs.Known.{ImageOf}
use Rattle.editor_laws.proofs.ReportLaws.{Laws}
use Rattle.editor_laws.proofs.Mirrors.{Mirrors, SameVersion, live_found}
use Rattle.editor_laws.proofs.NodeAlike.{node_seen}

-- where a live version stands
pub record LiveAt (lives : List (Live Version)) (v : Version) : Type 0 where
  pub place : ℕ
  pub one : Live Version
  pub at : slice_get lives place ≡ Some one
  pub is : one.version ≡ v

live_at : (lives : List (Live Version)) (id : ℕ) (v : Version) → version_of lives id ≡ Some v → LiveAt lives v
live_at [] id v e = absurd (cc)
live_at (x ∷ lives) id v e = go (x.id == id) e (live_at lives id v)
  where
    go : (b : Bool) → option_map (λ (y : Live Version). y.version) (cond b (Some x) (find (λ (y : Live Version). y.id == id) lives)) ≡ Some v
        → (version_of lives id ≡ Some v → LiveAt lives v) → LiveAt (x ∷ lives) v
    go true e rest = record { place = zero; one = x; at = refl; is = cc }
    go false e rest = let r : LiveAt lives v = rest e in record { place = suc r.place; one = r.one; at = r.at; is = r.is }

module _ {S : Type 0} (l : Lang S) (laws : Laws) (is_told : IsTold l) (facts : Facts l) (s : Session) (m : Mirror) (legal : IsLegal l s.events)
    (is : Mirrors l s m) (name : List ℕ) (edits : List Edit) where
  abbrev View_of : Version → View
  View_of v = record {
    reports = finished_reports l s.events v name edits;
    pending = pending l s.events (document l s) v name;
    outdated = is_outdated edits;
  }

  abbrev Seen : Image → Option ℕ → Result View Refusal
  Seen im o = or_refused UnknownNode o >>= λ p. edit_all edits (text_at im.nodes p) >>= λ text. Ok (view_of (node_parts im p) edits)

  abbrev Shown : Version → Option Node → Result View Refusal
  Shown v o = (or_refused UnknownNode o >>= λ node. edit_all edits node.text >>= λ text. Ok (record { version = v; text = text }))
      >>= λ (looked : Looked). Ok (View_of looked.version)

  edited : (v : Version) (view : View) (r : Result (List ℕ) Refusal) → view ≡ View_of v
      → ◌≡◌ {A = Result View Refusal} (r >>= λ text. Ok view)
      ((r >>= λ text. Ok (record { version = v; text = text })) >>= λ (looked : Looked). Ok (View_of looked.version))
  edited v view (Err reason) same = refl
  edited v view (Ok text) same = ap (λ x. Ok x) same

  version_seen : (v : Version) (im : Image) → ImageOf l s.events (document l s).homes v im → LiveAt (document l s).live v
      → Seen im (place_of im.nodes name) ≡ Shown v (node_in v name)
  version_seen v im image at =
      ap (λ ns. Seen im (place_of ns name)) image.nodes ∙ go (place_of v.nodes name) refl
    where
      go : (o : Option ℕ) → place_of v.nodes name ≡ o
          → Seen im o ≡ Shown v (option_map (λ (x : List ℕ × Node). x.1) (option_and_then (slice_get v.nodes) o))
      go None none = refl
      go (Some p) there =
          let f : FoundAt v.nodes name p = place_found v.nodes name p there in
          ap (λ ns. edit_all edits (text_at ns p) >>= λ text. Ok (view_of (node_parts im p) edits)) image.nodes
          ∙ ap (λ o. edit_all edits (option_map_or (λ (x : List ℕ × Node). x.1.text) o []) >>= λ text. Ok (view_of (node_parts im p) edits)) f.stands
          ∙ edited v (view_of (node_parts im p) edits) (edit_all edits f.pair.1.text) (viewed f)
          ∙ ap (λ o. Shown v (option_map (λ (x : List ℕ × Node). x.1) o)) (sym f.stands)
        where
          viewed : (f : FoundAt v.nodes name p) → view_of (node_parts im p) edits ≡ View_of v
          viewed f = subst (λ n. view_of (node_parts im p) edits ≡ record {
            reports = finished_reports l s.events v n edits;
            pending = pending l s.events (document l s) v n;
            outdated = is_outdated edits;
          }) f.named
              (node_seen l laws is_told facts s.events legal v im image
              (subst (AllFromScratch l (document l s)) at.is (facts.each s.events at.place at.one legal at.at)) p f.pair f.stands edits
              (subst (λ (x : Version). parts_shown l s.events (document l s) x f.pair.0 ≡ scratch_shown l s.events x f.pair.0) at.is
              (facts.shown s.events at.place at.one f.pair.0 legal at.at)))

  -- in every version, or neither side has it
  pub all_seen : (id : ℕ) → view_in m id name edits ≡ view_shown l s id name edits
  all_seen id = go (version_of (document l s).live id) refl (version_of m.live id) (live_found l s.events (document l s).homes (document l s).live m.live id is.live)
    where
      go : (a : Option Version) → version_of (document l s).live id ≡ a → (b : Option Image) → SameVersion l s.events (document l s).homes a b
          → (or_refused UnknownVersion b >>= λ im. Seen im (place_of im.nodes name))
          ≡ ((or_refused UnknownVersion a >>= λ v. or_refused UnknownNode (node_in v name) >>= λ node.
          edit_all edits node.text >>= λ text. Ok (record { version = v; text = text })) >>= λ (looked : Looked). Ok (View_of looked.version))
      go None at None same = refl
      go (Some v) at (Some im) same = version_seen v im same (live_at (document l s).live id v at)
      go None at (Some im) same = absurd same
      go (Some v) at None same = absurd same
