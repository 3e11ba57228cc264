-- Where a settle waits nobody holds a part, so some part is ready.
use Rattle.std.proofs.Common.{◌≡◌, ◌≢◌, ℕ, zero, suc, ◌+◌, ◌<◌, ◌≤◌, Bool, true, false, List, Option, Some, None, Result, Ok, Err, refl, sym, ap, subst, ◌∙◌, arith}
use Rattle.std.proofs.lemmas.Bool.{eqb-true, eqb-false}
use Rattle.std.proofs.lemmas.List.Folds.{find_at}
use Rattle.std.specs.Prelude.{◌==◌, ◌||◌, is_some, if◌then◌else◌, find, slice_get}
use Rattle.std.specs.List.{list_any, position_or_len, range_with_len}
use Rattle.std.specs.Option.{option_map}
use Rattle.pide_base.specs.declared.part.Part.{Part}
use Rattle.core_tables.specs.declared.versions.Live.{Live}
use Rattle.core_tables.specs.Live.{version_of}
use Rattle.exec_rules.specs.declared.version.Version.{Version}
use Rattle.language.specs.Lang.{Lang}
use Rattle.message_values.specs.declared.editor_message.EditorMessage.{EditorMessage}
use Rattle.message_values.specs.declared.editor_message.EditorMessage.TheVariants as asks
use Rattle.message_values.specs.declared.refusal.Refusal.{Refusal}
use Rattle.message_values.specs.declared.refusal.Refusal.TheVariants.{UnknownVersion, StepHeld}
use Rattle.message_values.specs.Asked.{or_refused}
use Rattle.message_values.specs.Workers.{most_workers}
use Rattle.buffer_laws.specs.buffer_rules_below.Trying.{◌>>=◌}
use Rattle.core_rules.specs.declared.event.Event.{Event}
use Rattle.core_rules.specs.Doc.{doc}
use Rattle.core_rules.specs.Ready.{first_ready}
use Rattle.core_rules.specs.Standing.{held}
use Rattle.core_rules.specs.Stuck.{is_settled}
use Rattle.session_rules.specs.declared.entry.Entry.{Entry}
use Rattle.session_rules.specs.declared.service.Service.{Service}
use Rattle.session_rules.specs.Services.{free_workers, is_held_by_script}
use Rattle.session_rules.specs.Session.{Session, document}
use Rattle.session_rules.specs.Heard.{all_heard}
use Rattle.session_rules.specs.History.{session}
use Rattle.session_rules.specs.Legal.{IsLegal, awaited_by, awaited_of}
use Rattle.session_rules.specs.Alone.{IsAlone, IsUnsettled}
use Rattle.session_rules.proofs.KnownNamed.{AskedLaw, IsNamed, only_named}
use Rattle.session_rules.proofs.KnownHolding.{reader_idle}

-- none of some holds anything
none_of : (f : ℕ → Bool) (a n w : ℕ) → a ≤ w → w < a + n → list_any f (range_with_len a n) ≡ false → f w ≡ false
none_of f a zero w least most none = absurd (omega (arith, least, most))
none_of f a (suc n) w least most none = go (f a) refl (a == w) refl none (λ more rest. none_of f (a + 1) n w more (omega (arith, most)) rest)
  where
    go : (b : Bool) → f a ≡ b → (c : Bool) → (a == w) ≡ c → (b || list_any f (range_with_len (a + 1) n)) ≡ false
        → (a + 1 ≤ w → list_any f (range_with_len (a + 1) n) ≡ false → f w ≡ false) → f w ≡ false
    go true e c same rest before = absurd (cc)
    go false e true same rest before = ap f (sym (eqb-true a w same)) ∙ e
    go false e false same rest before = before (omega (arith, least, eqb-false a w same)) rest

-- a live version stands among the live ones
pub live_at : (lives : List (Live Version)) (id : ℕ) (version : Version) → version_of lives id ≡ Some version
    → (k : ℕ) × ((one : Live Version) × (slice_get lives k ≡ Some one) × (one.version ≡ version))
live_at lives id version at = go (find (λ live. live.id == id) lives) refl at
  where
    go : (o : Option (Live Version)) → find (λ live. live.id == id) lives ≡ o → option_map (λ live. live.version) o ≡ Some version
        → (k : ℕ) × ((one : Live Version) × (slice_get lives k ≡ Some one) × (one.version ≡ version))
    go None e is = absurd (cc)
    go (Some one) e is = (position_or_len (λ live. live.id == id) lives, (one, sym (find_at (λ live. live.id == id) lives) ∙ e, cc))

-- what a settle that isn't refused waits for
pub record IsAwaited {S : Type 0} (l : Lang S) (service : Service) (s : Session) (version : Version) : Type 0 where
  pub id : ℕ
  pub live : version_of (document l s).live id ≡ Some version
  pub free : is_held_by_script service s.events ≡ false

module _ {S : Type 0} (l : Lang S) (service : Service) (s : Session) (version : Version) where
  settled_by : (id : ℕ) (o : Option Version) (b : Bool) → version_of (document l s).live id ≡ o → is_held_by_script service s.events ≡ b
      → awaited_by (or_refused UnknownVersion o >>= λ v. if b then Err StepHeld else Ok v) ≡ Some version → IsAwaited l service s version
  settled_by id None b at free e = absurd (cc)
  settled_by id (Some v) true at free e = absurd (cc)
  settled_by id (Some v) false at free e =
      let same : v ≡ version = cc in record { id = id; live = at ∙ ap (λ u. Some u) same; free = free }

  pub awaits : (read : Result EditorMessage Refusal) → awaited_of l service s read ≡ Some version → IsAwaited l service s version
  awaits (Err reason) e = absurd (cc)
  awaits (Ok (asks.Settle id)) e =
      settled_by id (version_of (document l s).live id) (is_held_by_script service s.events) refl refl e
  awaits (Ok (asks.Update version items blobs)) e = absurd (cc)
  awaits (Ok (asks.Snapshot version node edits)) e = absurd (cc)
  awaits (Ok (asks.Cancel exec)) e = absurd (cc)
  awaits (Ok (asks.RemoveVersions versions)) e = absurd (cc)
  awaits (Ok (asks.Protocol protocol)) e = absurd (cc)
  awaits (Ok (asks.Claim w)) e = absurd (cc)
  awaits (Ok (asks.Finish w)) e = absurd (cc)
  awaits (Ok (asks.Theory node text)) e = absurd (cc)

module _ {S : Type 0} (l : Lang S) (service : Service) (law : AskedLaw) (none : free_workers service ≡ 0) (es : List Entry)
    (legal : IsLegal l service (all_heard service es)) (version : Version)
    (is : IsAwaited l service (session l service (all_heard service es)) version) where
  abbrev pub past : List Event
  past = (session l service (all_heard service es)).events

  holds_none : (w : ℕ) (o : Option Part) → held past (suc w) ≡ o → o ≡ None
  holds_none w None e = refl
  holds_none w (Some p) e =
      let named : IsNamed service (suc w) = only_named l service law none es w legal (λ gone. let no : Some p ≡ None = sym e ∙ gone in absurd (cc)) in
      let free : list_any (λ v. is_some (held past v)) (range_with_len 1 most_workers) ≡ false =
      subst (λ v. is_held_by_script v past ≡ false) named.0 is.free in
      let gone : is_some (held past (suc w)) ≡ false =
      none_of (λ v. is_some (held past v)) 1 most_workers (suc w) named.1.0 (omega (arith, named.1.1)) free in
      let there : is_some (held past (suc w)) ≡ true = ap (λ (o : Option Part). is_some o) e in absurd (cc)

  pub nobody_holds : (waited : Option Version) → IsAlone l service waited (all_heard service es) → (w : ℕ) → held past w ≡ None
  nobody_holds waited alone zero = reader_idle l service waited (all_heard service es) alone
  nobody_holds waited alone (suc w) = holds_none w (held past (suc w)) refl

  -- some part is ready
  pub some_ready : (waited : Option Version) → IsAlone l service waited (all_heard service es)
      → ((k : ℕ) (one : Live Version) → first_ready l past ≡ None → ((w : ℕ) → held past w ≡ None)
      → slice_get (doc l past).live k ≡ Some one → is_settled l past (doc l past) one.version ≡ true)
      → IsUnsettled l (session l service (all_heard service es)) version → first_ready l past ≢ None
  some_ready waited alone rest unsettled idle =
      let at = live_at (doc l past).live is.id version is.live in
      let settled : is_settled l past (doc l past) version ≡ true =
      subst (λ v. is_settled l past (doc l past) v ≡ true) at.1.2 (rest at.0 at.1.0 idle (nobody_holds waited alone) at.1.1) in
      absurd (cc)
