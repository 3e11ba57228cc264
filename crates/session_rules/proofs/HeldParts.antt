-- What a worker holds is a part of its execution, of the kind that the execution has.
use Rattle.std.proofs.Common.{◌≡◌, ℕ, Bool, true, false, cond, ◌&&◌, ◌||◌, List, [], ◌∷◌, map, Option, Some, None, refl, sym, ap, subst, ◌∙◌}
use Rattle.std.proofs.Math.Bool.{and-false}
use Rattle.std.proofs.lemmas.Bool.{false≢true, and_parts}
use Rattle.std.proofs.lemmas.Option.{none-some, same_Some}
use Rattle.std.specs.Prelude.{◌==◌}
use Rattle.std.specs.List.{list_any}
use Rattle.std.specs.Option.{option_map_or}
use Rattle.pide_base.specs.declared.part.Part.{Part}
use Rattle.pide_base.specs.declared.part.PartKind.{PartKind}
use Rattle.pide_base.specs.declared.part.PartKind.TheVariants as kind
use Rattle.exec_rules.specs.declared.home.Home.{Home}
use Rattle.exec_rules.specs.declared.home.Input.{Input}
use Rattle.exec_rules.specs.declared.home.Input.TheVariants as input
use Rattle.exec_rules.specs.declared.row.Row.{Row}
use Rattle.language.specs.Lang.{Lang}
use Rattle.core_rules.specs.declared.event.Event.{Event}
use Rattle.core_rules.specs.declared.event.Event.TheVariants as event
use Rattle.core_rules.specs.Doc.{assignment_of, doc}
use Rattle.core_rules.specs.Legal.{IsLegal}
use Rattle.core_rules.specs.Numbered.{numbered}
use Rattle.core_rules.specs.Parts.{forks, kinds_by, same_kind, same_part}
use Rattle.core_rules.specs.Ready.{IsFirst, has_inputs, is_part, is_wanted}
use Rattle.core_rules.specs.Standing.{held, is_unclaimed, standing}
use Rattle.core_rules.proofs.KnownNumbers.{numbered_within}
use Rattle.core_rules.proofs.KnownStays.{parts_grown}
use Rattle.session_rules.specs.Reporting.{execution_for}

-- a print takes this up
abbrev pub is_print : Input → Bool
is_print (input.Print e) = true
is_print evaluation = false

module _ {S : Type 0} (l : Lang S) where
  abbrev parts_by : List Home → Part → Option Home → List Part
  parts_by homes p o = option_map_or (λ (h : Home). map (λ k. record { exec = p.exec; kind = k }) (kinds_by h.input (forks l homes p.exec))) o []

  -- a part's execution goes by something
  pub part_homed : (homes : List Home) (p : Part) → is_part l homes p ≡ true → (x : Home) × (numbered homes p.exec ≡ Some x)
  part_homed homes p is = go (numbered homes p.exec) refl is
    where
      go : (o : Option Home) → numbered homes p.exec ≡ o → list_any (same_part p) (parts_by homes p o) ≡ true → (x : Home) × (numbered homes p.exec ≡ Some x)
      go None at is = absurd (false≢true is)
      go (Some x) at is = (x, at)

  first_part : (h : List Event) (p : Part) → IsFirst l h p → is_part l (doc l h).homes p ≡ true
  first_part h p first =
      (and_parts (is_part l (doc l h).homes p) (is_wanted (doc l h) p.exec && (is_unclaimed (standing h p) && has_inputs h (doc l h).homes p)) first.ready).0

  -- what a worker holds
  pub held_part : (h : List Event) → IsLegal l h → (who : ℕ) (p : Part) → held h who ≡ Some p → is_part l (doc l h).homes p ≡ true
  held_part [] legal who p has = absurd (none-some p has)
  held_part (event.Update id nodes blobs ∷ h) legal who p has =
      let is = held_part h legal.0 who p has in
      let homed = part_homed (doc l h).homes p is in
      ap (list_any (same_part p)) (parts_grown l (doc l h).homes (assignment_of (doc l h) nodes blobs).homes p.exec (numbered_within (doc l h).homes p.exec homed.0 homed.1)) ∙ is
  held_part (event.Cancel e ∷ h) legal who p has = held_part h legal.0 who p has
  held_part (event.Remove ids ∷ h) legal who p has = held_part h legal.0 who p has
  held_part (event.Ended ∷ h) legal who p has = held_part h legal.0 who p has
  held_part (event.Claimed w q ∷ h) legal who p has = go (w == who) has (held_part h legal.0 who p)
    where
      go : (b : Bool) → cond b (Some q) (held h who) ≡ Some p → (held h who ≡ Some p → is_part l (doc l h).homes p ≡ true) → is_part l (doc l h).homes p ≡ true
      go true has rest = subst (λ x. is_part l (doc l h).homes x ≡ true) (same_Some q p has) (first_part h q legal.1.2)
      go false has rest = rest has
  held_part (event.Finished w q ∷ h) legal who p has = go (w == who) has (held_part h legal.0 who p)
    where
      go : (b : Bool) → cond b None (held h who) ≡ Some p → (held h who ≡ Some p → is_part l (doc l h).homes p ≡ true) → is_part l (doc l h).homes p ≡ true
      go true has rest = absurd (none-some p has)
      go false has rest = rest has
  held_part (event.Dropped w q ∷ h) legal who p has = go (w == who) has (held_part h legal.0 who p)
    where
      go : (b : Bool) → cond b None (held h who) ≡ Some p → (held h who ≡ Some p → is_part l (doc l h).homes p ≡ true) → is_part l (doc l h).homes p ≡ true
      go true has rest = absurd (none-some p has)
      go false has rest = rest has

  -- the test of a part among parts of other kinds
  other_kind : (p : Part) (k : PartKind) (more : List Part) → same_kind p.kind k ≡ false → list_any (same_part p) (record { exec = p.exec; kind = k } ∷ more) ≡ list_any (same_part p) more
  other_kind p k more other = ap (λ b. b || list_any (same_part p) more) (ap (λ b. (p.exec == p.exec) && b) other ∙ and-false (p.exec == p.exec))

  no_print : (p : Part) (b : Bool) → p.kind ≡ kind.Print → list_any (same_part p) (map (λ k. record { exec = p.exec; kind = k }) (kind.Eval ∷ cond b (kind.Fork ∷ []) [])) ≡ true → ⊥
  no_print p true same is = false≢true (sym (other_kind p kind.Fork [] (ap (λ k. same_kind k kind.Fork) same)) ∙ sym (other_kind p kind.Eval (record { exec = p.exec; kind = kind.Fork } ∷ []) (ap (λ k. same_kind k kind.Eval) same)) ∙ is)
  no_print p false same is = false≢true (sym (other_kind p kind.Eval [] (ap (λ k. same_kind k kind.Eval) same)) ∙ is)

  -- an execution with this input has parts of these kinds alone
  by_input : (p : Part) (i : Input) (b : Bool) (row : Row) → list_any (same_part p) (map (λ k. record { exec = p.exec; kind = k }) (kinds_by i b)) ≡ true → (k : PartKind) → p.kind ≡ k
      → execution_for k row ≡ cond (is_print i) row.print (Some row.evaluation)
  by_input p (input.Print e) b row is kind.Print same = refl
  by_input p (input.Print e) b row is kind.Eval same = absurd (false≢true (sym (other_kind p kind.Print [] (ap (λ k. same_kind k kind.Print) same)) ∙ is))
  by_input p (input.Print e) b row is kind.Fork same = absurd (false≢true (sym (other_kind p kind.Print [] (ap (λ k. same_kind k kind.Print) same)) ∙ is))
  by_input p (input.First head) b row is kind.Print same = absurd (no_print p b same is)
  by_input p (input.Next e) b row is kind.Print same = absurd (no_print p b same is)
  by_input p (input.First head) b row is kind.Eval same = refl
  by_input p (input.First head) b row is kind.Fork same = refl
  by_input p (input.Next e) b row is kind.Eval same = refl
  by_input p (input.Next e) b row is kind.Fork same = refl

  pub its_execution : (homes : List Home) (p : Part) (x : Home) (row : Row) → is_part l homes p ≡ true → numbered homes p.exec ≡ Some x
      → execution_for p.kind row ≡ cond (is_print x.input) row.print (Some row.evaluation)
  its_execution homes p x row is at =
      by_input p x.input (forks l homes p.exec) row (ap (λ o. list_any (same_part p) (parts_by homes p o)) (sym at) ∙ is) p.kind refl
