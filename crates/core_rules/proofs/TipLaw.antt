-- All that can still be worked on is in the tip.
use Rattle.std.proofs.Common.{◌≡◌, ◌⊎◌, inl, inr, ℕ, Bool, true, false, not, cond, ◌&&◌, List, [], ◌∷◌, ◌++◌, refl, ap, sym, ◌∙◌}
use Rattle.std.proofs.lemmas.Bool.{false≢true, or_parts, and_parts}
use Rattle.std.specs.Prelude.{◌==◌}
use Rattle.std.specs.List.{list_any}
use Rattle.text_words.specs.Members.{has}
use Rattle.exec_rules.specs.declared.version.Version.{Version}
use Rattle.exec_rules.specs.Kept.{BlobList}
use Rattle.doc_nodes.specs.Imports.{NodeList}
use Rattle.language.specs.Lang.{Lang}
use Rattle.core_rules.specs.declared.event.Event.{Event}
use Rattle.core_rules.specs.declared.event.Event.TheVariants as event
use Rattle.core_rules.specs.Numbered.{grown}
use Rattle.core_rules.specs.Assigned.{executions_of, assigns, is_assigned}
use Rattle.core_rules.specs.Parts.{parts_of}
use Rattle.core_rules.specs.Standing.{Free, Held, Done, standing, is_done, is_finished, is_open}
use Rattle.core_rules.specs.Doc.{Doc, dropped, assignment_of, assigned_version, doc}
use Rattle.core_rules.specs.Legal.{IsLegal}
use Rattle.core_rules.specs.Ready.{is_wanted}
use Rattle.text_words.proofs.KnownMembers.{has_both}
use Rattle.core_rules.proofs.Holders.{first_free, tells_all}
use Rattle.core_rules.proofs.KnownParts.{part_is}
use Rattle.core_rules.proofs.KnownStays.{parts_grown}
use Rattle.core_rules.proofs.Facts.{Facts}
use Rattle.core_rules.proofs.SoundDoc.{doc_sound}
use Rattle.core_rules.proofs.LiveAssigns.{pushed_assigns, filtered_assigns, has_filter}
use Rattle.core_rules.proofs.LiveWithin.{any_open, still_done, live_within}

module _ {S : Type 0} (facts : Facts) (l : Lang S) where
  updated : (h : List Event) (legal : IsLegal l h) (e : ℕ) (nodes : NodeList) (blobs : BlobList)
      → (is_assigned (doc l h).live e ≡ true → has (doc l h).cancelled e ≡ false
      → is_open l h (doc l h).homes e ≡ true → assigns (doc l h).tip e ≡ true)
      → has (dropped (is_open l h (doc l h).homes) (doc l h).tip (assigned_version nodes blobs (assignment_of (doc l h) nodes blobs))
      ++ (doc l h).cancelled) e ≡ false
      → is_open l h (grown (doc l h).homes (assignment_of (doc l h) nodes blobs).homes) e ≡ true
      → is_assigned (doc l h).live e ≡ true
      → assigns (assigned_version nodes blobs (assignment_of (doc l h) nodes blobs)) e ≡ true
  updated h legal e nodes blobs before free opened live = go (assigns new e) refl
    where
      d : Doc
      d = doc l h

      new : Version
      new = assigned_version nodes blobs (assignment_of (doc l h) nodes blobs)

      parts : (has (dropped (is_open l h (doc l h).homes) (doc l h).tip new) e ≡ false) × (has (doc l h).cancelled e ≡ false)
      parts = or_parts _ _ (sym (has_both (dropped (is_open l h (doc l h).homes) (doc l h).tip new) (doc l h).cancelled e) ∙ free)

      was_open : is_open l h (doc l h).homes e ≡ true
      was_open = ap (list_any (λ p. not (is_finished h p)))
          (sym (parts_grown l (doc l h).homes (assignment_of (doc l h) nodes blobs).homes e
          (live_within facts l (doc l h) (doc_sound facts l h legal) e live))) ∙ opened

      go : (b : Bool) → assigns new e ≡ b → b ≡ true
      go true is = refl
      go false is = absurd (false≢true (sym parts.0 ∙ has_filter (λ x. is_open l h (doc l h).homes x && not (assigns new x))
          (executions_of (doc l h).tip) e
          (ap (λ b. b && not (assigns new e)) was_open ∙ ap not is) (before live parts.1 was_open)))

  -- an execution that can still be worked on is in the tip
  in_tip_by : (h : List Event) (e : ℕ) → IsLegal l h → is_assigned (doc l h).live e ≡ true → has (doc l h).cancelled e ≡ false
      → is_open l h (doc l h).homes e ≡ true → assigns (doc l h).tip e ≡ true
  in_tip_by [] e legal live free opened = absurd (cc)
  in_tip_by (event.Update id nodes blobs ∷ h) e legal live free opened =
      go (pushed_assigns (doc l h).live (record { id = id; version = assigned_version nodes blobs (assignment_of (doc l h) nodes blobs) })
      e live) (in_tip_by h e legal.0)
    where
      go : (is_assigned (doc l h).live e ≡ true)
          ⊎ (assigns (assigned_version nodes blobs (assignment_of (doc l h) nodes blobs)) e ≡ true)
          → (is_assigned (doc l h).live e ≡ true → has (doc l h).cancelled e ≡ false
          → is_open l h (doc l h).homes e ≡ true → assigns (doc l h).tip e ≡ true)
          → assigns (assigned_version nodes blobs (assignment_of (doc l h) nodes blobs)) e ≡ true
      go (inl was) rest = updated h legal.0 e nodes blobs rest free opened was
      go (inr is) rest = is
  in_tip_by (event.Cancel x ∷ h) e legal live free opened =
      in_tip_by h e legal.0 live (go (is_open l h (doc l h).homes x) free) opened
    where
      go : (b : Bool) → has (cond b (x ∷ (doc l h).cancelled) (doc l h).cancelled) e ≡ false → has (doc l h).cancelled e ≡ false
      go true is = (or_parts (e == x) (has (doc l h).cancelled e) is).1
      go false is = is
  in_tip_by (event.Remove ids ∷ h) e legal live free opened =
      in_tip_by h e legal.0 (filtered_assigns _ (doc l h).live e live) free opened
  in_tip_by (event.Claimed who q ∷ h) e legal live free opened = in_tip_by h e legal.0 live free
      (any_open (is_finished h) (is_finished (event.Claimed who q ∷ h)) (parts_of l (doc l h).homes e)
      (λ p done. still_done q p (standing h p) (Held who) done
      (λ same is. let here = sym is ∙ ap (λ x. is_done (standing h x)) (sym (part_is q p same))
      ∙ ap is_done (first_free l h q legal.1.2) in absurd (cc))) opened)
  in_tip_by (event.Finished who q ∷ h) e legal live free opened = in_tip_by h e legal.0 live free
      (any_open (is_finished h) (is_finished (event.Finished who q ∷ h)) (parts_of l (doc l h).homes e)
      (λ p done. still_done q p (standing h p) Done done (λ same is. refl)) opened)
  in_tip_by (event.Dropped who q ∷ h) e legal live free opened = in_tip_by h e legal.0 live free
      (any_open (is_finished h) (is_finished (event.Dropped who q ∷ h)) (parts_of l (doc l h).homes e)
      (λ p done. still_done q p (standing h p) Free done
      (λ same is. let here = sym is ∙ ap (λ x. is_done (standing h x)) (sym (part_is q p same))
      ∙ ap is_done ((tells_all l h legal.0 who q).0 legal.1.0) in absurd (cc))) opened)
  in_tip_by (event.Ended ∷ h) e legal live free opened = in_tip_by h e legal.0 live free opened

  pub in_tip : (h : List Event) (e : ℕ) → IsLegal l h → is_wanted (doc l h) e ≡ true
      → is_open l h (doc l h).homes e ≡ true → assigns (doc l h).tip e ≡ true
  in_tip h e legal wanted opened =
      let parts = and_parts (is_assigned (doc l h).live e) (not (has (doc l h).cancelled e)) wanted in
      in_tip_by h e legal parts.0 (not-true (has (doc l h).cancelled e) parts.1) opened
    where
      not-true : (b : Bool) → not b ≡ true → b ≡ false
      not-true true is = absurd (cc)
      not-true false is = refl
