-- When an editor's mirror is as the prover's session.
use Rattle.std.proofs.Common.{◌≡◌, ℕ, zero, suc, Bool, true, false, cond, List, [], ◌∷◌, ◌++◌, length, filter, Option, Some, None, refl, ap, sym, subst, ◌∙◌, arith}
use Rattle.std.specs.Prelude.{⊤, slice_get, find, not, ◌==◌, if◌then◌else◌}
use Rattle.std.specs.Option.{option_map}
use Rattle.pide_base.specs.declared.part.Part.{Part}
use Rattle.core_tables.specs.declared.versions.Live.{Live}
use Rattle.core_tables.specs.Live.{version_of}
use Rattle.exec_rules.specs.declared.home.Home.{Home}
use Rattle.exec_rules.specs.declared.version.Version.{Version}
use Rattle.language.specs.Lang.{Lang}
use Rattle.core_rules.specs.declared.event.Event.{Event}
use Rattle.core_rules.specs.Parts.{reports_of}
use Rattle.core_rules.specs.Standing.{is_finished}
use Rattle.core_rules.specs.Doc.{doc}
use Rattle.session_rules.specs.Session.{Session, document, with_event}
use Rattle.mirror_rules.specs.Images.{Image, Mirror}
use Rattle.editor_laws.proofs.Known.{ImageOf, image_on}

-- the live versions, each as the editor has it
abbrev pub AllLive : {S : Type 0} → Lang S → List Event → List Home → List (Live Version) → List (Live Image) → Type 0
AllLive l h homes [] [] = ⊤
AllLive l h homes (a ∷ vs) (b ∷ ims) = (b.id ≡ a.id) × ImageOf l h homes a.version b.version × AllLive l h homes vs ims
AllLive l h homes vs ims = ⊥

-- the editor has what the session has, what waits for an answer aside
pub record Mirrors {S : Type 0} (l : Lang S) (s : Session) (m : Mirror) : Type 0 where
  pub buffer : m.buffer ≡ s.buffer
  pub last : m.last ≡ (document l s).last
  pub protocol : m.protocol ≡ s.protocol
  pub live : AllLive l s.events (document l s).homes (document l s).live m.live
  pub tip : ImageOf l s.events (document l s).homes (document l s).tip m.tip

module _ {S : Type 0} (l : Lang S) where
  pub live_long : (h : List Event) (homes : List Home) (vs : List (Live Version)) (ims : List (Live Image)) → AllLive l h homes vs ims → length ims ≡ length vs
  live_long h homes [] [] all = refl
  live_long h homes [] (b ∷ ims) all = absurd all
  live_long h homes (a ∷ vs) [] all = absurd all
  live_long h homes (a ∷ vs) (b ∷ ims) all = ap suc (live_long h homes vs ims all.2)

  -- what holds of each image
  pub live_each : (h after : List Event) (homes more : List Home) (vs : List (Live Version)) (ims : List (Live Image))
      → ((v : Version) (im : Image) → ImageOf l h homes v im → ImageOf l after more v im) → AllLive l h homes vs ims → AllLive l after more vs ims
  live_each h after homes more [] [] each all = tt
  live_each h after homes more [] (b ∷ ims) each all = absurd all
  live_each h after homes more (a ∷ vs) [] each all = absurd all
  live_each h after homes more (a ∷ vs) (b ∷ ims) each all = (all.0, each a.version b.version all.1, live_each h after homes more vs ims each all.2)

  -- one version more
  pub live_more : (h : List Event) (homes : List Home) (vs : List (Live Version)) (ims : List (Live Image)) (a : Live Version) (b : Live Image)
      → AllLive l h homes vs ims → b.id ≡ a.id → ImageOf l h homes a.version b.version → AllLive l h homes (vs ++ a ∷ []) (ims ++ b ∷ [])
  live_more h homes [] [] a b all same is = (same, is, tt)
  live_more h homes [] (y ∷ ims) a b all same is = absurd all
  live_more h homes (x ∷ vs) [] a b all same is = absurd all
  live_more h homes (x ∷ vs) (y ∷ ims) a b all same is = (all.0, all.1, live_more h homes vs ims a b all.2 same is)

  -- versions are left out on both sides
  pub live_left : (h : List Event) (homes : List Home) (p q : ℕ → Bool) (vs : List (Live Version)) (ims : List (Live Image))
      → ((i : ℕ) (a : Live Version) → slice_get vs i ≡ Some a → p a.id ≡ q a.id) → AllLive l h homes vs ims
      → AllLive l h homes (filter (λ one. not (p one.id)) vs) (filter (λ one. not (q one.id)) ims)
  live_left h homes p q [] [] agree all = tt
  live_left h homes p q [] (b ∷ ims) agree all = absurd all
  live_left h homes p q (a ∷ vs) [] agree all = absurd all
  live_left h homes p q (a ∷ vs) (b ∷ ims) agree all =
      go (not (p a.id)) (not (q b.id)) (ap not (agree zero a refl ∙ ap q (sym all.0))) (live_left h homes p q vs ims (λ i x at. agree (suc i) x at) all.2)
    where
      go : (c d : Bool) → c ≡ d → AllLive l h homes (filter (λ one. not (p one.id)) vs) (filter (λ one. not (q one.id)) ims)
          → AllLive l h homes (cond c (a ∷ filter (λ one. not (p one.id)) vs) (filter (λ one. not (p one.id)) vs))
          (cond d (b ∷ filter (λ one. not (q one.id)) ims) (filter (λ one. not (q one.id)) ims))
      go true true same rest = (all.0, all.1, rest)
      go false false same rest = rest
      go true false same rest = absurd (cc)
      go false true same rest = absurd (cc)

  -- the version of an id, on both sides
  abbrev pub SameVersion : List Event → List Home → Option Version → Option Image → Type 0
  SameVersion h homes None None = ⊤
  SameVersion h homes (Some v) (Some im) = ImageOf l h homes v im
  SameVersion h homes a b = ⊥

  pub live_found : (h : List Event) (homes : List Home) (vs : List (Live Version)) (ims : List (Live Image)) (id : ℕ) → AllLive l h homes vs ims
      → SameVersion h homes (version_of vs id) (version_of ims id)
  live_found h homes [] [] id all = tt
  live_found h homes [] (b ∷ ims) id all = absurd all
  live_found h homes (a ∷ vs) [] id all = absurd all
  live_found h homes (a ∷ vs) (b ∷ ims) id all =
      go (a.id == id) (b.id == id) (ap (λ n. n == id) (sym all.0)) (live_found h homes vs ims id all.2)
    where
      go : (c d : Bool) → c ≡ d → SameVersion h homes (version_of vs id) (version_of ims id)
          → SameVersion h homes (option_map (λ (x : Live Version). x.version) (cond c (Some a) (find (λ (x : Live Version). x.id == id) vs)))
          (option_map (λ (x : Live Image). x.version) (cond d (Some b) (find (λ (x : Live Image). x.id == id) ims)))
      go true true same rest = all.1
      go false false same rest = rest
      go true false same rest = absurd (cc)
      go false true same rest = absurd (cc)

  -- an event that makes no version and finishes no part
  pub mirrors_event : (s : Session) (m : Mirror) (e : Event) → Mirrors l s m
      → (doc l (e ∷ s.events)).homes ≡ (doc l s.events).homes → (doc l (e ∷ s.events)).live ≡ (doc l s.events).live
      → (doc l (e ∷ s.events)).tip ≡ (doc l s.events).tip → (doc l (e ∷ s.events)).last ≡ (doc l s.events).last
      → ((p : Part) → is_finished (e ∷ s.events) p ≡ is_finished s.events p) → Mirrors l (with_event s e) m
  mirrors_event s m e is homes live tip last same = record {
    buffer = is.buffer;
    last = is.last ∙ sym last;
    protocol = is.protocol;
    live = subst (λ hs. AllLive l (e ∷ s.events) hs (doc l (e ∷ s.events)).live m.live) (sym homes)
        (subst (λ vs. AllLive l (e ∷ s.events) (doc l s.events).homes vs m.live) (sym live)
        (live_each s.events (e ∷ s.events) (doc l s.events).homes (doc l s.events).homes (doc l s.events).live m.live stays is.live));
    tip = subst (λ hs. ImageOf l (e ∷ s.events) hs (doc l (e ∷ s.events)).tip m.tip) (sym homes)
        (subst (λ v. ImageOf l (e ∷ s.events) (doc l s.events).homes v m.tip) (sym tip) (stays (doc l s.events).tip m.tip is.tip));
  }
    where
      stays : (v : Version) (im : Image) → ImageOf l s.events (doc l s.events).homes v im → ImageOf l (e ∷ s.events) (doc l s.events).homes v im
      stays v im was = image_on l s.events (e ∷ s.events) (doc l s.events).homes (doc l s.events).homes v im was (omega arith)
          (λ p le. ap (λ b. if b then reports_of l (doc l s.events).homes p else None) (same p))
