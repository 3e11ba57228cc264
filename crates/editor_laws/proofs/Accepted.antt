-- What comes of a message that is accepted.
use Rattle.std.proofs.Common.{◌≡◌, ℕ, zero, suc, Bool, true, false, List, [], ◌∷◌, map, Some, Ok, refl, ap, sym, ◌∙◌, arith}
use Rattle.std.proofs.lemmas.Bool.{eqb-true, eq-eqb}
use Rattle.std.specs.Prelude.{slice_get, not, ◌==◌, ◌||◌, ◌&&◌, if◌then◌else◌}
use Rattle.std.specs.List.{list_any}
use Rattle.text_words.specs.Members.{has}
use Rattle.text_words.proofs.KnownMembers.{has_itself, has_passing, has_tail}
use Rattle.core_tables.specs.declared.versions.Live.{Live}
use Rattle.core_tables.specs.declared.versions.Removing.TheVariants as answer
use Rattle.core_tables.specs.Removal.{left}
use Rattle.exec_rules.specs.declared.version.Version.{Version}
use Rattle.language.specs.Lang.{Lang}
use Rattle.message_values.specs.declared.editor_message.EditorMessage.TheVariants as asks
use Rattle.message_values.specs.declared.mode.Mode.{Mode}
use Rattle.reply_messages.specs.declared.told.Told.TheVariants as tells
use Rattle.core_rules.specs.declared.event.Event.TheVariants as event
use Rattle.core_rules.specs.Standing.{is_open}
use Rattle.session_rules.specs.Looking.{Looked}
use Rattle.session_rules.specs.Replies.{cancelling, live_among, markup}
use Rattle.session_rules.specs.Session.{Session, document, with_event}
use Rattle.session_rules.specs.Steps.{Nothing}
use Rattle.mirror_rules.specs.Answers.{Read}
use Rattle.mirror_rules.specs.Images.{Image, Mirror}
use Rattle.editor_laws.proofs.Expected.{cancelled_fine, idle_fine, protocol_fine, removed_fine, settled_fine, snapshot_fine}
use Rattle.editor_laws.proofs.Facts.{Facts}
use Rattle.editor_laws.proofs.Known.{ImageOf, image_on}
use Rattle.editor_laws.proofs.Mirrors.{Mirrors, live_each, live_left, mirrors_event}
use Rattle.editor_laws.proofs.Outcomes.{Outcome, answer_outcome, mirrors_other}

-- an id among others, either way round
flip_has : (x : ℕ) (xs : List ℕ) → list_any (λ id. id == x) xs ≡ has xs x
flip_has x [] = refl
flip_has x (y ∷ xs) = ap (λ b. b || list_any (λ id. id == x) xs) (same (y == x) (x == y) refl refl) ∙ ap (λ b. (x == y) || b) (flip_has x xs)
  where
    same : (a b : Bool) → (y == x) ≡ a → (x == y) ≡ b → a ≡ b
    same true true p q = refl
    same false false p q = refl
    same true false p q = sym (eq-eqb x y (sym (eqb-true y x p))) ∙ q
    same false true p q = sym p ∙ eq-eqb y x (sym (eqb-true x y q))

id_live : {V : Type 0} (lives : List (Live V)) (k : ℕ) (one : Live V) → slice_get lives k ≡ Some one → has (map (λ x. x.id) lives) one.id ≡ true
id_live [] k one at = absurd (cc)
id_live {V} (x ∷ lives) zero one at =
    let same : x ≡ one = cc in ap (λ (y : Live V). has (map (λ z. z.id) (x ∷ lives)) y.id) (sym same) ∙ has_itself (map (λ z. z.id) lives) x.id
id_live (x ∷ lives) (suc k) one at = has_tail x.id one.id (map (λ z. z.id) lives) (id_live lives k one at)

module _ {S : Type 0} (l : Lang S) (facts : Facts l) (mode : Mode) (m : Mirror) (more : List Read) where
  -- the same but for what waits
  pub plain : (s : Session) → Mirrors l s m → Mirrors l (record s { called = true }) (record m { unanswered = more })
  plain s is = mirrors_other l s (record s { called = true }) m (record m { unanswered = more }) is refl refl refl refl

  pub snapshot_outcome : (s : Session) (is : Mirrors l s m) (id : ℕ) (name : List ℕ) (edits : List _) (looked : Looked)
      → m.unanswered ≡ Ok (asks.Snapshot id name edits) ∷ more
      → Outcome l mode m (markup l s id name edits looked ∷ []) (record s { called = true }) Nothing more
  snapshot_outcome s is id name edits looked waits =
      answer_outcome l mode m (Ok (asks.Snapshot id name edits)) more (markup l s id name edits looked) (record s { called = true }) waits
      (snapshot_fine m id name edits _ _ _) refl (plain s is) refl

  pub settle_outcome : (s : Session) (is : Mirrors l s m) (id : ℕ) (stuck : List ℕ) → m.unanswered ≡ Ok (asks.Settle id) ∷ more
      → Outcome l mode m (tells.Settled id stuck ∷ []) (record s { called = true }) Nothing more
  settle_outcome s is id stuck waits =
      answer_outcome l mode m (Ok (asks.Settle id)) more (tells.Settled id stuck) (record s { called = true }) waits (settled_fine m id stuck) refl (plain s is) refl

  cancel_mirrors : (s : Session) → Mirrors l s m → (exec : ℕ)
      → Mirrors l (record (with_event s (event.Cancel exec)) { called = true }) (record m { unanswered = more })
  cancel_mirrors s is exec = mirrors_other l (with_event s (event.Cancel exec)) (record (with_event s (event.Cancel exec)) { called = true }) m (record m { unanswered = more })
      (mirrors_event l s m (event.Cancel exec) is refl refl refl refl (λ p. refl)) refl refl refl refl

  pub cancel_outcome : (s : Session) (is : Mirrors l s m) (exec : ℕ) → m.unanswered ≡ Ok (asks.Cancel exec) ∷ more
      → Outcome l mode m (cancelling l s exec ∷ []) (record (with_event s (event.Cancel exec)) { called = true }) Nothing more
  cancel_outcome s is exec waits = go (is_open l s.events (document l s).homes exec && not (has (document l s).cancelled exec))
    where
      go : (b : Bool) → Outcome l mode m ((if b then tells.Cancelled exec else tells.Idle exec) ∷ []) (record (with_event s (event.Cancel exec)) { called = true }) Nothing more
      go true = answer_outcome l mode m (Ok (asks.Cancel exec)) more (tells.Cancelled exec) _ waits (cancelled_fine m exec) refl (cancel_mirrors s is exec) refl
      go false = answer_outcome l mode m (Ok (asks.Cancel exec)) more (tells.Idle exec) _ waits (idle_fine m exec) refl (cancel_mirrors s is exec) refl

  pub protocol_outcome : (s : Session) (is : Mirrors l s m) (p : _) → m.unanswered ≡ Ok (asks.Protocol p) ∷ more
      → Outcome l mode m (tells.Protocol p ∷ []) (record s { protocol = p; called = true }) Nothing more
  protocol_outcome s is p waits =
      answer_outcome l mode m (Ok (asks.Protocol p)) more (tells.Protocol p) (record s { protocol = p; called = true }) waits (protocol_fine m p) refl
      (record { buffer = is.buffer; last = is.last; protocol = refl; live = is.live; tip = is.tip }) refl

  remove_mirrors : (s : Session) → Mirrors l s m → (ids : List ℕ)
      → Mirrors l (record (with_event s (event.Remove ids)) { called = true })
      (record m { unanswered = more; live = left answer.Removed (live_among (document l s) ids) m.live })
  remove_mirrors s is ids = record {
    buffer = is.buffer;
    last = is.last;
    protocol = is.protocol;
    live = live_left l (event.Remove ids ∷ s.events) (document l s).homes (λ x. list_any (λ id. id == x) ids)
        (λ x. list_any (λ id. id == x) (live_among (document l s) ids)) (document l s).live m.live agree
        (live_each l s.events (event.Remove ids ∷ s.events) (document l s).homes (document l s).homes (document l s).live m.live stays is.live);
    tip = stays (document l s).tip m.tip is.tip;
  }
    where
      stays : (v : Version) (im : Image) → ImageOf l s.events (document l s).homes v im → ImageOf l (event.Remove ids ∷ s.events) (document l s).homes v im
      stays v im was = image_on l s.events (event.Remove ids ∷ s.events) (document l s).homes (document l s).homes v im was (omega arith) (λ p le. refl)

      agree : (k : ℕ) (one : Live Version) → slice_get (document l s).live k ≡ Some one
          → list_any (λ id. id == one.id) ids ≡ list_any (λ id. id == one.id) (live_among (document l s) ids)
      agree k one at = flip_has one.id ids
          ∙ sym (flip_has one.id (live_among (document l s) ids)
          ∙ has_passing (has ids) (map (λ live. live.id) (document l s).live) one.id
          ∙ ap (λ b. has ids one.id && b) (id_live (document l s).live k one at) ∙ both (has ids one.id))
        where
          both : (b : Bool) → (b && true) ≡ b
          both true = refl
          both false = refl

  pub remove_outcome : (s : Session) (is : Mirrors l s m) (ids : List ℕ) → m.unanswered ≡ Ok (asks.RemoveVersions ids) ∷ more
      → Outcome l mode m (tells.Removed (live_among (document l s) ids) ∷ []) (record (with_event s (event.Remove ids)) { called = true }) Nothing more
  remove_outcome s is ids waits =
      answer_outcome l mode m (Ok (asks.RemoveVersions ids)) more (tells.Removed (live_among (document l s) ids)) _ waits
      (removed_fine m ids (live_among (document l s) ids)) refl (remove_mirrors s is ids) refl
