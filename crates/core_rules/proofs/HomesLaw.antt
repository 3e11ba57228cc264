-- What executions that live versions assign go by, and those that were not made.
use Rattle.std.proofs.Common.{◌≡◌, ℕ, ◌<◌, ◌≤◌, Bool, true, false, cond, List, [], ◌∷◌, length, map, Some, refl, ap, sym, ◌∙◌, arith}
use Rattle.std.proofs.lemmas.Bool.{false≢true, and_parts}
use Rattle.std.specs.Prelude.{slice_get}
use Rattle.std.specs.Option.{option_map_or}
use Rattle.std.specs.List.{list_any}
use Rattle.pide_base.specs.declared.part.Part.{Part}
use Rattle.core_tables.specs.declared.versions.Live.{Live}
use Rattle.text_words.specs.Members.{has}
use Rattle.exec_rules.specs.declared.row.Row.{Row}
use Rattle.exec_rules.specs.declared.home.Home.{Home}
use Rattle.exec_rules.specs.Assigning.{rows_in}
use Rattle.exec_rules.specs.Listed.{executions}
use Rattle.language.specs.Lang.{Lang}
use Rattle.core_rules.specs.declared.event.Event.{Event}
use Rattle.core_rules.specs.declared.event.Event.TheVariants as event
use Rattle.core_rules.specs.Assigned.{assigns, is_assigned}
use Rattle.core_rules.specs.Parts.{same_part, forks, kinds_by}
use Rattle.core_rules.specs.Standing.{Free, Held, Done, standing}
use Rattle.core_rules.specs.Doc.{doc, assignment_of}
use Rattle.core_rules.specs.Ready.{is_part, IsFirst}
use Rattle.core_rules.specs.Legal.{IsLegal}
use Rattle.core_rules.specs.FromScratch.{AllFromScratch}
use Rattle.core_rules.specs.Sources.{HasHome}
use Rattle.core_rules.specs.Placed.{RowOf}
use Rattle.core_rules.proofs.KnownNumbers.{numbered_past, length_grown}
use Rattle.core_rules.proofs.Facts.{Facts}
use Rattle.core_rules.proofs.SoundDoc.{doc_sound}
use Rattle.core_rules.proofs.LiveWithin.{live_within}
use Rattle.core_rules.proofs.KnownParts.{part_is}
use Rattle.core_rules.proofs.Holders.{tells_all}
use Rattle.core_rules.proofs.RowSources.{has_home}
use Rattle.core_rules.proofs.FromScratchLaw.{from_scratch}
use Rattle.core_rules.proofs.OneName.{tip_sorted}
use Rattle.core_rules.proofs.KnownNamedRows.{found_row, named_once}

module _ {S : Type 0} (facts : Facts) (l : Lang S) (h : List Event) (legal : IsLegal l h) where
  pub live_homes : (k : ℕ) (one : Live _) (e : ℕ) → slice_get (doc l h).live k ≡ Some one → assigns one.version e ≡ true
      → HasHome l (doc l h) one.version e
  live_homes k one e at is =
      let so = doc_sound facts l h legal in
      has_home l (doc l h) so.base.older one.version (facts.nodes one.version.nodes) (so.live k one at) e is

  pub tip_homes : (e : ℕ) → assigns (doc l h).tip e ≡ true → HasHome l (doc l h) (doc l h).tip e
  tip_homes e is =
      let so = doc_sound facts l h legal in
      has_home l (doc l h) so.base.older (doc l h).tip (facts.nodes (doc l h).tip.nodes) so.base.tip e is

  pub live_made : (e : ℕ) → is_assigned (doc l h).live e ≡ true → e ≤ length (doc l h).homes
  live_made e is = live_within facts l (doc l h) (doc_sound facts l h legal) e is

module _ {S : Type 0} (l : Lang S) where
  -- a part that is ready is one of an execution that was made
  ready_made : (h : List Event) (q : Part) → IsFirst l h q → length (doc l h).homes < q.exec → false ≡ true
  ready_made h q first past =
      sym (ap (λ o. list_any (same_part q) (option_map_or
      (λ (x : Home). map (λ k. record { exec = q.exec; kind = k }) (kinds_by x.input (forks l (doc l h).homes q.exec))) o []))
      (numbered_past (doc l h).homes q.exec past))
      ∙ (and_parts (is_part l (doc l h).homes q) _ first.ready).0

  -- nobody works on what was not made
  pub unmade : (h : List Event) (p : Part) → IsLegal l h → length (doc l h).homes < p.exec → standing h p ≡ Free
  unmade [] p legal past = refl
  unmade (event.Update id nodes blobs ∷ h) p legal past = unmade h p legal.0
      (omega (arith, past, length_grown (doc l h).homes (assignment_of (doc l h) nodes blobs).homes))
  unmade (event.Cancel e ∷ h) p legal past = unmade h p legal.0 past
  unmade (event.Remove ids ∷ h) p legal past = unmade h p legal.0 past
  unmade (event.Ended ∷ h) p legal past = unmade h p legal.0 past
  unmade (event.Claimed who q ∷ h) p legal past = go (same_part q p) refl (unmade h p legal.0 past)
    where
      go : (b : Bool) → same_part q p ≡ b → standing h p ≡ Free → cond b (Held who) (standing h p) ≡ Free
      go true same rest = absurd (false≢true (ready_made h q legal.1.2
          (omega (arith, past, ap (λ (x : Part). x.exec) (part_is q p same)))))
      go false same rest = rest
  unmade (event.Finished who q ∷ h) p legal past = go (same_part q p) refl (unmade h p legal.0 past)
    where
      go : (b : Bool) → same_part q p ≡ b → standing h p ≡ Free → cond b Done (standing h p) ≡ Free
      go true same rest =
          let holds = (tells_all l h legal.0 who q).0 legal.1.0 in
          let free = ap (standing h) (part_is q p same) ∙ rest in absurd (cc)
      go false same rest = rest
  unmade (event.Dropped who q ∷ h) p legal past = go (same_part q p) refl (unmade h p legal.0 past)
    where
      go : (b : Bool) → same_part q p ≡ b → standing h p ≡ Free → cond b Free (standing h p) ≡ Free
      go true same rest = refl
      go false same rest = rest

-- where the executions of the tip stand
module _ {S : Type 0} (facts : Facts) (l : Lang S) (h : List Event) (legal : IsLegal l h) where
  tip_scratch : AllFromScratch l (doc l h) (doc l h).tip
  tip_scratch =
      let so = doc_sound facts l h legal in
      from_scratch l (doc l h) so.base.older (doc l h).tip (facts.nodes (doc l h).tip.nodes) so.base.tip

  pub tip_found : (e : ℕ) → assigns (doc l h).tip e ≡ true → RowOf (doc l h).tip e
  tip_found e is = found_row (doc l h).tip e (tip_sorted l h legal) (doc_sound facts l h legal).base.tip.long is

  pub tip_once : (name other : List ℕ) (i j e : ℕ) (r s : Row) → slice_get (rows_in (doc l h).tip name) i ≡ Some r
      → slice_get (rows_in (doc l h).tip other) j ≡ Some s → has (executions r) e ≡ true → has (executions s) e ≡ true
      → (name ≡ other) × (i ≡ j)
  tip_once = named_once l (doc l h) (doc l h).tip (tip_sorted l h legal) tip_scratch
