-- A part that was begun waits for nothing.
use Rattle.std.proofs.Common.{◌≡◌, ◌⊎◌, inl, inr, ℕ, ◌<◌, ◌≤◌, Bool, true, false, cond, List, [], ◌∷◌, length, refl, ap, sym, ◌∙◌}
use Rattle.std.proofs.lemmas.Bool.{false≢true, cases_lt, and_parts, and_from}
use Rattle.std.specs.Prelude.{◌&&◌}
use Rattle.std.specs.Option.{option_map_or}
use Rattle.std.specs.List.{list_all}
use Rattle.pide_base.specs.declared.part.Part.{Part}
use Rattle.pide_base.specs.declared.part.PartKind.{PartKind}
use Rattle.pide_base.specs.declared.part.PartKind.TheVariants as kind
use Rattle.exec_rules.specs.declared.home.Home.{Home}
use Rattle.language.specs.Lang.{Lang}
use Rattle.core_rules.specs.declared.event.Event.{Event}
use Rattle.core_rules.specs.declared.event.Event.TheVariants as event
use Rattle.core_rules.specs.Numbered.{grown}
use Rattle.core_rules.specs.Parts.{same_part, sources_of, waits_by, waits_for, evaluation}
use Rattle.core_rules.specs.Standing.{Standing, Free, Held, Done, standing, is_done, is_unclaimed, is_finished}
use Rattle.core_rules.specs.Doc.{doc, assignment_of}
use Rattle.core_rules.specs.Ready.{is_part, is_wanted, has_inputs, IsFirst}
use Rattle.core_rules.specs.Legal.{IsLegal}
use Rattle.core_rules.proofs.KnownParts.{part_is}
use Rattle.core_rules.proofs.Holders.{first_free, tells_all}
use Rattle.core_rules.proofs.LiveWithin.{still_done}
use Rattle.core_rules.proofs.KnownStays.{number_grown}
use Rattle.core_rules.proofs.HomesLaw.{unmade}

all_still : (old new : ℕ → Bool) → ((e : ℕ) → old e ≡ true → new e ≡ true) → (es : List ℕ) → list_all old es ≡ true → list_all new es ≡ true
all_still old new still [] all = refl
all_still old new still (e ∷ es) all =
    let parts = and_parts (old e) (list_all old es) all in
    and_from (new e) (list_all new es) (still e parts.0) (all_still old new still es parts.1)

module _ {S : Type 0} (l : Lang S) where
  waits_grown : (hs more : List Home) (k : PartKind) (e : ℕ) → e ≤ length hs → waits_by (grown hs more) k e ≡ waits_by hs k e
  waits_grown hs more kind.Fork e le = refl
  waits_grown hs more kind.Eval e le = ap (λ o. option_map_or (λ (x : Home). sources_of x.input) o []) (number_grown l hs more e le)
  waits_grown hs more kind.Print e le = ap (λ o. option_map_or (λ (x : Home). sources_of x.input) o []) (number_grown l hs more e le)

  first_inputs : (h : List Event) (p : Part) → IsFirst l h p → has_inputs h (doc l h).homes p ≡ true
  first_inputs h p first =
      let a = and_parts (is_part l (doc l h).homes p) (is_wanted (doc l h) p.exec
      && (is_unclaimed (standing h p) && has_inputs h (doc l h).homes p)) first.ready in
      let b = and_parts (is_wanted (doc l h) p.exec)
      (is_unclaimed (standing h p) && has_inputs h (doc l h).homes p) a.1 in
      (and_parts (is_unclaimed (standing h p)) (has_inputs h (doc l h).homes p) b.1).1

  -- what is finished stays so
  stays_done : (h : List Event) (q p : Part) (s : Standing) → (is_done (standing h q) ≡ true → is_done s ≡ true)
      → is_done (standing h p) ≡ true → is_done (cond (same_part q p) s (standing h p)) ≡ true
  stays_done h q p s change is = still_done q p (standing h p) s is
      (λ same done. change (ap (λ x. is_done (standing h x)) (part_is q p same) ∙ done))

  pub begun : (h : List Event) (p : Part) → IsLegal l h → is_unclaimed (standing h p) ≡ false → has_inputs h (doc l h).homes p ≡ true
  begun [] p legal going = absurd (cc)
  begun (event.Update id nodes blobs ∷ h) p legal going =
      go (cases_lt (length (doc l h).homes) p.exec) (begun h p legal.0 going)
    where
      go : (length (doc l h).homes < p.exec) ⊎ (p.exec ≤ length (doc l h).homes) → has_inputs h (doc l h).homes p ≡ true
          → list_all (λ e. is_finished h (evaluation e)) (waits_by (grown (doc l h).homes (assignment_of (doc l h) nodes blobs).homes) p.kind p.exec) ≡ true
      go (inl past) rest = absurd (false≢true (sym going ∙ ap is_unclaimed (unmade l h p legal.0
          past)))
      go (inr le) rest = ap (list_all (λ e. is_finished h (evaluation e)))
          (waits_grown (doc l h).homes (assignment_of (doc l h) nodes blobs).homes p.kind p.exec le) ∙ rest
  begun (event.Cancel e ∷ h) p legal going = begun h p legal.0 going
  begun (event.Remove ids ∷ h) p legal going = begun h p legal.0 going
  begun (event.Ended ∷ h) p legal going = begun h p legal.0 going
  begun (event.Claimed who q ∷ h) p legal going =
      all_still (λ e. is_finished h (evaluation e)) (λ e. is_finished (event.Claimed who q ∷ h) (evaluation e))
      (λ e is. stays_done h q (evaluation e) (Held who)
      (λ done. absurd (false≢true (ap is_done (sym (first_free l h q legal.1.2)) ∙ done))) is)
      (waits_for (doc l h).homes p) (go (same_part q p) refl going (begun h p legal.0))
    where
      go : (b : Bool) → same_part q p ≡ b → is_unclaimed (cond b (Held who) (standing h p)) ≡ false
          → (is_unclaimed (standing h p) ≡ false → has_inputs h (doc l h).homes p ≡ true)
          → has_inputs h (doc l h).homes p ≡ true
      go true same is rest = ap (has_inputs h (doc l h).homes) (sym (part_is q p same)) ∙ first_inputs h q legal.1.2
      go false same is rest = rest is
  begun (event.Finished who q ∷ h) p legal going =
      all_still (λ e. is_finished h (evaluation e)) (λ e. is_finished (event.Finished who q ∷ h) (evaluation e))
      (λ e is. stays_done h q (evaluation e) Done (λ done. refl) is)
      (waits_for (doc l h).homes p) (go (same_part q p) refl going (begun h p legal.0))
    where
      go : (b : Bool) → same_part q p ≡ b → is_unclaimed (cond b Done (standing h p)) ≡ false
          → (is_unclaimed (standing h p) ≡ false → has_inputs h (doc l h).homes p ≡ true)
          → has_inputs h (doc l h).homes p ≡ true
      go true same is rest =
          let holds = (tells_all l h legal.0 who q).0 legal.1.0 in
          rest (ap (λ x. is_unclaimed (standing h x)) (sym (part_is q p same)) ∙ ap is_unclaimed
          holds)
      go false same is rest = rest is
  begun (event.Dropped who q ∷ h) p legal going =
      all_still (λ e. is_finished h (evaluation e)) (λ e. is_finished (event.Dropped who q ∷ h) (evaluation e))
      (λ e is. stays_done h q (evaluation e) Free
      (λ done. absurd (false≢true (ap is_done (sym ((tells_all l h legal.0 who q).0 legal.1.0)) ∙ done))) is)
      (waits_for (doc l h).homes p) (go (same_part q p) refl going (begun h p legal.0))
    where
      go : (b : Bool) → same_part q p ≡ b → is_unclaimed (cond b Free (standing h p)) ≡ false
          → (is_unclaimed (standing h p) ≡ false → has_inputs h (doc l h).homes p ≡ true)
          → has_inputs h (doc l h).homes p ≡ true
      go true same is rest = absurd (cc)
      go false same is rest = rest is
