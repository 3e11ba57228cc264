-- The first unfinished part of an execution is one of its parts, and unfinished.
use Rattle.std.proofs.Common.{◌≡◌, ℕ, Bool, true, false, not, ◌||◌, List, [], ◌∷◌, map, Option, Some, None, refl, ap, sym, ◌∙◌}
use Rattle.std.proofs.lemmas.Bool.{or_left, or_right}
use Rattle.std.specs.List.{list_any}
use Rattle.std.specs.Option.{option_map_or, option_and_then}
use Rattle.pide_base.specs.declared.part.Part.{Part}
use Rattle.pide_base.specs.declared.part.PartKind.{PartKind}
use Rattle.pide_base.specs.declared.part.PartKind.TheVariants as kind
use Rattle.exec_rules.specs.declared.home.Home.{Home}
use Rattle.language.specs.Lang.{Lang}
use Rattle.core_rules.specs.declared.event.Event.{Event}
use Rattle.core_rules.specs.Numbered.{numbered}
use Rattle.core_rules.specs.Parts.{same_part, forks, kinds_by, parts_of}
use Rattle.core_rules.specs.Standing.{is_finished, is_open}
use Rattle.core_rules.specs.Doc.{Doc}
use Rattle.core_rules.specs.Ready.{is_part}
use Rattle.prover_core.specs.Progress.{part, completed_in, next_kind, next_of}
use Rattle.core_rules.proofs.KnownParts.{part_is}
use Rattle.prover_core.proofs.KindsNext.{is_in, finished_is, next_unfinished, among_kinds, next_among, is_next}

module _ {S : Type 0} (l : Lang S) (h : List Event) (d : Doc) (e : ℕ) (k : PartKind) where
  abbrev next_by : Option Home → Option PartKind
  next_by o = option_and_then (λ home. next_kind home.input (forks l d.homes e) (completed_in h e)) o

  abbrev parts_by : Option Home → List Part
  parts_by o = option_map_or (λ home. map (λ x. part e x) (kinds_by home.input (forks l d.homes e))) o []

  part_by : (o : Option Home) → next_by o ≡ Some k → list_any (same_part (part e k)) (parts_by o) ≡ true
  part_by None next = absurd (cc)
  part_by (Some home) next = among_kinds e k (kinds_by home.input (forks l d.homes e))
      ∙ next_among home.input (forks l d.homes e) (completed_in h e) k next

  pub next_is_part : next_of l h d e ≡ Some k → is_part l d.homes (part e k) ≡ true
  next_is_part next = part_by (numbered d.homes e) next

  open_by : (o : Option Home) → next_by o ≡ Some k → is_in k (completed_in h e) ≡ false
  open_by None next = absurd (cc)
  open_by (Some home) next = next_unfinished home.input (forks l d.homes e) (completed_in h e) k next

  pub next_is_open : next_of l h d e ≡ Some k → is_finished h (part e k) ≡ false
  next_is_open next = finished_is h e k ∙ open_by (numbered d.homes e) next

  first_by : (o : Option Home) → list_any (same_part (part e k)) (parts_by o) ≡ true → is_in k (completed_in h e) ≡ false
      → (k ≡ kind.Fork → (completed_in h e).eval ≡ true) → next_by o ≡ Some k
  first_by None is open_ behind = absurd (cc)
  first_by (Some home) is open_ behind = is_next home.input (forks l d.homes e) (completed_in h e) k
      (sym (among_kinds e k (kinds_by home.input (forks l d.homes e))) ∙ is) open_ behind

  pub open_is_next : is_part l d.homes (part e k) ≡ true → is_finished h (part e k) ≡ false
      → (k ≡ kind.Fork → (completed_in h e).eval ≡ true) → next_of l h d e ≡ Some k
  open_is_next is open_ behind = first_by (numbered d.homes e) is (sym (finished_is h e k) ∙ open_) behind

  -- an execution with an unfinished part is open
  pub open_among : (ps : List Part) → list_any (same_part (part e k)) ps ≡ true → is_finished h (part e k) ≡ false
      → list_any (λ p. not (is_finished h p)) ps ≡ true
  open_among [] is open_ = absurd (cc)
  open_among (p ∷ ps) is open_ = go (same_part (part e k) p) refl is (open_among ps)
    where
      go : (b : Bool) → same_part (part e k) p ≡ b → (b || list_any (same_part (part e k)) ps) ≡ true
          → (list_any (same_part (part e k)) ps ≡ true → is_finished h (part e k) ≡ false → list_any (λ q. not (is_finished h q)) ps ≡ true)
          → (not (is_finished h p) || list_any (λ q. not (is_finished h q)) ps) ≡ true
      go true x is rest = or_left _ _ (ap (λ q. not (is_finished h q)) (sym (part_is (part e k) p x)) ∙ ap not open_)
      go false x is rest = or_right _ _ (rest is open_)

  pub next_opens : next_of l h d e ≡ Some k → is_open l h d.homes e ≡ true
  next_opens next = open_among (parts_of l d.homes e) (next_is_part next) (next_is_open next)
