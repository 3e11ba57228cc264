-- What is finished stays so.
use Rattle.std.proofs.Common.{◌≡◌, ℕ, Bool, true, false, cond, not, List, [], ◌∷◌, Some, refl, ap, subst, ◌∙◌}
use Rattle.std.proofs.lemmas.Bool.{and_parts}
use Rattle.std.specs.Prelude.{◌&&◌, ◌||◌, ◌↔◌}
use Rattle.std.specs.List.{list_any}
use Rattle.pide_base.specs.declared.part.Part.{Part}
use Rattle.language.specs.Lang.{Lang}
use Rattle.core_rules.specs.declared.event.Event.{Event}
use Rattle.core_rules.specs.declared.event.Event.TheVariants as event
use Rattle.core_rules.specs.Doc.{doc}
use Rattle.core_rules.specs.Legal.{IsLegal}
use Rattle.core_rules.specs.Parts.{same_part}
use Rattle.core_rules.specs.Ready.{IsFirst, has_inputs, is_part, is_wanted}
use Rattle.core_rules.specs.Standing.{Standing, Free, Held, Done, held, is_done, is_finished, is_unclaimed, standing}
use Rattle.core_rules.proofs.KnownParts.{part_is}

module _ {S : Type 0} (l : Lang S) (told : (h : List Event) (who : ℕ) (p : Part) → IsLegal l h → (held h who ≡ Some p) ↔ (standing h p ≡ Held who)) where
  -- a part that is taken is free
  first_free : (h : List Event) (p : Part) → IsFirst l h p → is_unclaimed (standing h p) ≡ true
  first_free h p first =
      let whole = and_parts (is_part l (doc l h).homes p) (is_wanted (doc l h) p.exec && (is_unclaimed (standing h p) && has_inputs h (doc l h).homes p)) first.ready in
      let open_ = and_parts (is_wanted (doc l h) p.exec) (is_unclaimed (standing h p) && has_inputs h (doc l h).homes p) whole.1 in
      (and_parts (is_unclaimed (standing h p)) (has_inputs h (doc l h).homes p) open_.1).0

  not_both : (s : Standing) → is_done s ≡ true → is_unclaimed s ≡ false
  not_both Done done = refl
  not_both Free done = absurd (cc)
  not_both (Held w) done = absurd (cc)

  pub stays : (x : Event) (h : List Event) → IsLegal l (x ∷ h) → (p : Part) → is_finished h p ≡ true → is_finished (x ∷ h) p ≡ true
  stays (event.Update id nodes blobs) h legal p done = done
  stays (event.Cancel e) h legal p done = done
  stays (event.Remove ids) h legal p done = done
  stays event.Ended h legal p done = done
  stays (event.Claimed who q) h legal p done = go (same_part q p) refl
    where
      go : (b : Bool) → same_part q p ≡ b → is_done (cond b (Held who) (standing h p)) ≡ true
      go false same = done
      go true same =
          let free : is_unclaimed (standing h p) ≡ true = subst (λ x. is_unclaimed (standing h x) ≡ true) (part_is q p same) (first_free h q legal.1.2) in
          let taken : is_unclaimed (standing h p) ≡ false = not_both (standing h p) done in absurd
          (cc)
  stays (event.Finished who q) h legal p done = go (same_part q p)
    where
      go : (b : Bool) → is_done (cond b Done (standing h p)) ≡ true
      go true = refl
      go false = done
  stays (event.Dropped who q) h legal p done = go (same_part q p) refl
    where
      go : (b : Bool) → same_part q p ≡ b → is_done (cond b Free (standing h p)) ≡ true
      go false same = done
      go true same =
          let at : standing h q ≡ Held who = (told h who q legal.0).0 legal.1.0 in
          let here : standing h p ≡ Held who = subst (λ x. standing h x ≡ Held who) (part_is q p same) at in
          let undone : is_done (standing h p) ≡ false = ap is_done here in absurd (cc)

  -- so none of parts is open that wasn't
  pub all_stay : (x : Event) (h : List Event) → IsLegal l (x ∷ h) → (ps : List Part) → list_any (λ p. not (is_finished h p)) ps ≡ false
      → list_any (λ p. not (is_finished (x ∷ h) p)) ps ≡ false
  all_stay x h legal [] none = refl
  all_stay x h legal (p ∷ ps) none = go (is_finished h p) refl none (all_stay x h legal ps)
    where
      go : (b : Bool) → is_finished h p ≡ b → (not b || list_any (λ q. not (is_finished h q)) ps) ≡ false
          → (list_any (λ q. not (is_finished h q)) ps ≡ false → list_any (λ q. not (is_finished (x ∷ h) q)) ps ≡ false)
          → (not (is_finished (x ∷ h) p) || list_any (λ q. not (is_finished (x ∷ h) q)) ps) ≡ false
      go true is none rest = ap (λ b. not b || list_any (λ q. not (is_finished (x ∷ h) q)) ps) (stays x h legal p is) ∙ rest none
      go false is none rest = absurd (cc)
