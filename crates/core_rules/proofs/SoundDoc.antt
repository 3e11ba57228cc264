-- After each legal list of events all live versions are sound.
use Rattle.std.proofs.Common.{◌≡◌, ℕ, zero, suc, ◌⊎◌, inl, inr, Bool, true, false, cond, List, [], ◌∷◌, ◌++◌, filter, Some, refl, sym, subst, arith}
use Rattle.std.specs.Prelude.{slice_get, nat_lt}
use Rattle.doc_nodes.specs.Imports.{NodeList}
use Rattle.core_tables.specs.declared.versions.Live.{Live}
use Rattle.exec_rules.specs.declared.home.Home.{Home}
use Rattle.exec_rules.specs.declared.version.Version.{Version}
use Rattle.exec_rules.specs.Kept.{BlobList}
use Rattle.exec_rules.specs.Assigning.{greater}
use Rattle.language.specs.Lang.{Lang}
use Rattle.core_rules.specs.declared.event.Event.{Event}
use Rattle.core_rules.specs.declared.event.Event.TheVariants as event
use Rattle.core_rules.specs.Numbered.{grown}
use Rattle.core_rules.specs.Assigned.{command_ids}
use Rattle.core_rules.specs.Standing.{is_open}
use Rattle.core_rules.specs.Doc.{Doc, empty_doc, greatest, assignment_of, assigned_version, doc_after, doc}
use Rattle.core_rules.specs.Updates.{AllDiffer, FitsUpdate}
use Rattle.core_rules.specs.Legal.{IsLegal}
use Rattle.core_rules.proofs.Tables.{AtMost, AreOlder}
use Rattle.core_rules.proofs.Facts.{Facts}
use Rattle.core_rules.proofs.Sound.{IsSound, IsSoundTip, sound_on, extends_grown}
use Rattle.core_rules.proofs.NewVersion.{all_done, new_sound}
use Rattle.core_rules.proofs.KnownGreatest.{at_least, greater_both}

-- all live versions are sound, and so is the tip
pub record IsSoundDoc (d : Doc) : Type 0 where
  pub base : IsSoundTip d
  pub live : (k : ℕ) (one : Live Version) → slice_get d.live k ≡ Some one → IsSound d.homes one.version

empty_sound : IsSoundDoc empty_doc
empty_sound = record {
  base = record {
    older = tt;
    tip = record { long = refl; each = λ p pair at. absurd (cc) };
    most = tt;
    differ = tt;
  };
  live = λ k one at. absurd (cc);
}

all_least : (n : ℕ) (xs : List ℕ) → AtMost (greatest n xs) xs
all_least n [] = tt
all_least n (x ∷ xs) =
    let le = (greater_both (nat_lt n x) n x refl).1 in
    let more = at_least (greater n x) xs in
    (omega (arith, le, more), all_least (greater n x) xs)

module _ {A : Type 0} where
  pub get_pushed : (xs : List A) (y x : A) (k : ℕ) → slice_get (xs ++ y ∷ []) k ≡ Some x → (slice_get xs k ≡ Some x) ⊎ (y ≡ x)
  get_pushed [] y x zero at = inr (cc)
  get_pushed [] y x (suc k) at = absurd (cc)
  get_pushed (z ∷ xs) y x zero at = inl at
  get_pushed (z ∷ xs) y x (suc k) at = get_pushed xs y x k at

  filter_by : (b : Bool) (test : A → Bool) (z x : A) (xs : List A) (k : ℕ)
      → ((j : ℕ) → slice_get (filter test xs) j ≡ Some x → (i : ℕ) × (slice_get xs i ≡ Some x))
      → slice_get (cond b (z ∷ filter test xs) (filter test xs)) k ≡ Some x → (i : ℕ) × (slice_get (z ∷ xs) i ≡ Some x)
  filter_by true test z x xs zero rest at = (zero, at)
  filter_by true test z x xs (suc k) rest at = let found = rest k at in (suc found.0, found.1)
  filter_by false test z x xs k rest at = let found = rest k at in (suc found.0, found.1)

  -- what passes a test was there
  pub get_filtered : (test : A → Bool) (xs : List A) (x : A) (k : ℕ) → slice_get (filter test xs) k ≡ Some x
      → (i : ℕ) × (slice_get xs i ≡ Some x)
  get_filtered test [] x k at = absurd (cc)
  get_filtered test (z ∷ xs) x k at = filter_by (test z) test z x xs k (λ j. get_filtered test xs x j) at

module _ (facts : Facts) (d : Doc) (so : IsSoundDoc d) (opened : ℕ → Bool) where
  update_sound : (id : ℕ) (nodes : NodeList) (blobs : BlobList) → FitsUpdate d id nodes blobs
      → IsSoundDoc (doc_after opened d (event.Update id nodes blobs))
  update_sound id nodes blobs fits =
      let homes : List Home = grown d.homes (assignment_of d nodes blobs).homes in
      let new : Version = assigned_version nodes blobs (assignment_of d nodes blobs) in
      let sound : IsSound homes new = new_sound facts d so.base nodes blobs fits.nodes_fit in
      record {
        base = record {
          older = (all_done facts d so.base nodes blobs fits.nodes_fit).older;
          tip = sound;
          most = all_least d.commands (command_ids nodes);
          differ = fits.commands;
        };
        live = λ k one at. by k one sound (get_pushed d.live (record { id = id; version = new }) one k at);
      }
    where
      by : (k : ℕ) (one : Live Version)
          → IsSound (grown d.homes (assignment_of d nodes blobs).homes) (assigned_version nodes blobs (assignment_of d nodes blobs))
          → (slice_get d.live k ≡ Some one) ⊎ (record { id = id; version = assigned_version nodes blobs (assignment_of d nodes blobs) } ≡ one)
          → IsSound (grown d.homes (assignment_of d nodes blobs).homes) one.version
      by k one sound (inl at) = sound_on d.homes (grown d.homes (assignment_of d nodes blobs).homes)
          (extends_grown d.homes (assignment_of d nodes blobs).homes) one.version (so.live k one at)
      by k one sound (inr e) = subst (λ (x : Live Version). IsSound (grown d.homes (assignment_of d nodes blobs).homes) x.version) e sound

  base_kept : (e : Doc) → e.homes ≡ d.homes → e.tip ≡ d.tip → e.commands ≡ d.commands → IsSoundTip e
  base_kept e homes tip commands = record {
    older = subst AreOlder (sym homes) so.base.older;
    tip = subst (λ hs. IsSound hs e.tip) (sym homes) (subst (IsSound d.homes) (sym tip) so.base.tip);
    most = subst (λ n. AtMost n (command_ids e.tip.nodes)) (sym commands)
        (subst (λ (v : Version). AtMost d.commands (command_ids v.nodes)) (sym tip) so.base.most);
    differ = subst (λ (v : Version). AllDiffer (command_ids v.nodes)) (sym tip) so.base.differ;
  }

  remove_sound : (ids : List ℕ) → IsSoundDoc (doc_after opened d (event.Remove ids))
  remove_sound ids = record {
    base = base_kept (doc_after opened d (event.Remove ids)) refl refl refl;
    live = λ k one at. let was = get_filtered _ d.live one k at in so.live was.0 one was.1;
  }

  cancel_sound : (e : ℕ) → IsSoundDoc (doc_after opened d (event.Cancel e))
  cancel_sound e = record {
    base = base_kept (doc_after opened d (event.Cancel e)) refl refl refl;
    live = so.live;
  }

-- so for each list
pub doc_sound : {S : Type 0} (facts : Facts) (l : Lang S) (h : List Event) → IsLegal l h → IsSoundDoc (doc l h)
doc_sound facts l [] legal = empty_sound
doc_sound facts l (event.Update id nodes blobs ∷ h) legal =
    update_sound facts (doc l h) (doc_sound facts l h legal.0) (is_open l h (doc l h).homes) id nodes blobs legal.1.1
doc_sound facts l (event.Cancel e ∷ h) legal =
    cancel_sound facts (doc l h) (doc_sound facts l h legal.0) (is_open l h (doc l h).homes) e
doc_sound facts l (event.Remove ids ∷ h) legal =
    remove_sound facts (doc l h) (doc_sound facts l h legal.0) (is_open l h (doc l h).homes) ids
doc_sound facts l (event.Claimed who p ∷ h) legal = doc_sound facts l h legal.0
doc_sound facts l (event.Finished who p ∷ h) legal = doc_sound facts l h legal.0
doc_sound facts l (event.Dropped who p ∷ h) legal = doc_sound facts l h legal.0
doc_sound facts l (event.Ended ∷ h) legal = doc_sound facts l h legal.0
