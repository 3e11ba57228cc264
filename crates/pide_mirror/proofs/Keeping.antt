-- A kept version, once a part was reported.
use Rattle.std.proofs.Common.{◌≡◌, ℕ, Bool, true, false, ap, sym, ◌∙◌, refl, List, [], ◌∷◌, ◌++◌, ◌-◌, map, take, drop, length, append_assoc, subst, inl, inr, ◌⊎◌}
use Rattle.std.specs.Prelude.{slice_get, ◌↔◌, ◌||◌, IsTrue}
use Rattle.std.proofs.lemmas.Bool.{or_left, or_right}
use Rattle.std.proofs.lemmas.List.{take_rest, map-append}
use Rattle.std.proofs.lemmas.List.Folds.{list_any-append}
use Rattle.std.specs.List.{AllZip, list_any}
use Rattle.core_tables.specs.declared.versions.Live.{Live}
use Rattle.mirror_rules.specs.Replies.{live_with}
use Rattle.std.specs.List.{AllByRecursion}
use Rattle.text_words.proofs.KnownLists.{each-so}
use Rattle.mirror_rules.specs.Images.{FinishedPart, Image}
use Rattle.mirror_rules.specs.Reports.{PartReport, belongs_in, with_report}
use Rattle.pide_mirror.specs.Places.{PlaceTable, ArePlaced, told_in, IsThere}
use Rattle.pide_mirror.specs.Tables.{table_of, IsTaken}
use Rattle.pide_mirror.specs.Kept.{IsKept, AreKept}
use Rattle.pide_mirror.specs.declared.known.LiveVersion.{LiveVersion}
use Rattle.pide_mirror.specs.declared.known.Known.{Known}
use Rattle.pide_mirror.proofs.Placing.{places_told, taken_belongs, belongs_taken}
use Rattle.pide_mirror.proofs.ToldThere.{there_told}

module _ (old new : PlaceTable) (same : (exec command : ℕ) → new exec command ≡ old exec command) where
  pub same_placed : (im : Image) → ArePlaced old im → ArePlaced new im
  same_placed im placed = record {
    there = λ pair e exec s is. same exec e.command ∙ placed.there pair e exec s is;
    only = λ exec command place at. placed.only exec command place (sym (same exec command) ∙ at);
  }

  pub same_there : (fs : List FinishedPart) → AllByRecursion (IsThere old) fs → AllByRecursion (IsThere new) fs
  same_there fs all = each-so (IsThere old) (IsThere new) (λ f there. (there.0, same f.part.exec f.command ∙ there.1)) fs all

module _ (told : PartReport) (known : Known) (im : Image) (kept : IsKept known im) where
  pub told_kept : (made : Known) → made.nodes ≡ known.nodes → made.rows ≡ known.rows → made.aliases ≡ known.aliases
      → ((exec command : ℕ) → table_of made.places exec command ≡ told_in told (table_of known.places) exec command)
      → IsKept made (with_report told im)
  told_kept made nodes rows aliases places = record {
    nodes = nodes ∙ kept.nodes;
    sorted = kept.sorted;
    differ = kept.differ;
    rows = λ p pair at. let r = kept.rows p pair at in (r.0, ap (λ all. slice_get all p) rows ∙ r.1, r.2);
    aligned = kept.aligned;
    others = kept.others;
    aliases = λ p within. ap (λ all. slice_get all p) aliases ∙ kept.aliases p within;
    places = same_placed (told_in told (table_of known.places)) (table_of made.places) places (with_report told im)
        (places_told told (table_of known.places) im kept.places kept.differ);
    there = same_there (told_in told (table_of known.places)) (table_of made.places) places (with_report told im).finished
        (there_told told (table_of known.places) im kept.places kept.there);
  }

  pub taken_kept : IsTaken told (table_of known.places) → belongs_in told im ≡ true
  taken_kept taken = taken_belongs told (table_of known.places) im kept.places taken.0 taken.1 taken.2 taken.3

  pub kept_taken : belongs_in told im ≡ true → IsTaken told (table_of known.places)
  kept_taken is = belongs_taken told (table_of known.places) im kept.places is

zip_more : {A B : Type 0} (P : A → B → Type 0) (xs : List A) (ys : List B) (x : A) (y : B) → AllZip P xs ys → P x y → AllZip P (xs ++ x ∷ []) (ys ++ y ∷ [])
zip_more P [] [] x y all p = (p, tt)
zip_more P [] (z ∷ ys) x y all p = absurd all
zip_more P (z ∷ xs) [] x y all p = absurd all
zip_more P (z ∷ xs) (w ∷ ys) x y all p = (all.0, zip_more P xs ys x y all.1 p)

or_either : (a b : Bool) → (a || b) ≡ true → (a ≡ true) ⊎ (b ≡ true)
or_either true b is = inl refl
or_either false b is = inr is

module _ (told : PartReport) where
  abbrev belongs_one : Live Image → Bool
  belongs_one one = belongs_in told one.version

  -- the live versions so far have what is told, and the others are as they were
  abbrev pub AreTold : List LiveVersion → List LiveVersion → Bool → List (Live Image) → Type 0
  AreTold rest all taken images = (front back : List (Live Image)) × (images ≡ front ++ back) × AreKept rest back
      × AreKept all (map (live_with told) front) × (IsTrue taken ↔ (list_any belongs_one front ≡ true))

  -- one version more
  pub live_more : (rest : List LiveVersion) (one : LiveVersion) (all : List LiveVersion) (taken now : Bool) (made : Known) (images : List (Live Image))
      → rest ≡ one ∷ drop 1 rest → ((im : Image) → IsKept one.known im → IsKept made (with_report told im))
      → ((im : Image) → IsKept one.known im → IsTrue now ↔ (belongs_in told im ≡ true)) → AreTold rest all taken images
      → AreTold (take (length rest - 1) (drop 1 rest)) (all ++ record { id = one.id; known = made } ∷ []) (taken || now) images
  live_more rest one all taken now made images split kept any (front, [], whole, are, done, is) =
      absurd (subst (λ (r : List LiveVersion). AreKept r []) split are)
  live_more rest one all taken now made images split kept any (front, im ∷ back, whole, are, done, is) =
      let both : AreKept (one ∷ drop 1 rest) (im ∷ back) = subst (λ (r : List LiveVersion). AreKept r (im ∷ back)) split are in
      let mine = any im.version both.0.1 in
      let joined = list_any-append belongs_one front (im ∷ []) in (
        front ++ im ∷ [],
        back,
        whole ∙ sym (append_assoc front (im ∷ []) back),
        subst (λ (r : List LiveVersion). AreKept r back) (sym (take_rest rest 1)) both.1,
        subst (λ (ms : List (Live Image)). AreKept (all ++ record { id = one.id; known = made } ∷ []) ms) (sym (map-append (live_with told) front (im ∷ [])))
            (zip_more _ all (map (live_with told) front) (record { id = one.id; known = made }) (live_with told im) done (both.0.0, kept im.version both.0.1)),
        (
          λ holds. joined ∙ some holds mine,
          λ holds. back_again (sym joined ∙ holds) mine,
        ),
      )
    where
      some : IsTrue (taken || now) → (IsTrue now ↔ (belongs_in told im.version ≡ true)) → (list_any belongs_one front || (belongs_one im || false)) ≡ true
      some holds mine = go (or_either taken now holds)
        where
          go : (taken ≡ true) ⊎ (now ≡ true) → (list_any belongs_one front || (belongs_one im || false)) ≡ true
          go (inl old) = or_left (list_any belongs_one front) (belongs_one im || false) (is.0 old)
          go (inr new) = or_right (list_any belongs_one front) (belongs_one im || false) (or_left (belongs_one im) false (mine.0 new))

      back_again : (list_any belongs_one front || (belongs_one im || false)) ≡ true → (IsTrue now ↔ (belongs_in told im.version ≡ true)) → IsTrue (taken || now)
      back_again holds mine = go (or_either (list_any belongs_one front) (belongs_one im || false) holds)
        where
          last : (belongs_one im || false) ≡ true → belongs_one im ≡ true
          last at = here (or_either (belongs_one im) false at)
            where
              here : (belongs_one im ≡ true) ⊎ (false ≡ true) → belongs_one im ≡ true
              here (inl is_it) = is_it
              here (inr never) = absurd (cc)

          go : (list_any belongs_one front ≡ true) ⊎ ((belongs_one im || false) ≡ true) → IsTrue (taken || now)
          go (inl old) = or_left taken now (is.1 old)
          go (inr new) = or_right taken now (mine.1 (last new))
