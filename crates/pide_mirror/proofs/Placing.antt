-- The commands that have an execution, once a part of it was reported.
use Rattle.std.proofs.Common.{◌≡◌, ℕ, Bool, true, false, cond, List, [], ◌∷◌, Option, Some, None, refl, ap, sym, ◌∙◌}
use Rattle.std.proofs.lemmas.Bool.{eq-eqb, eqb-true, and_parts, and_from}
use Rattle.std.proofs.Math.Bool.{and-false}
use Rattle.std.specs.Prelude.{find, ◌==◌, ◌&&◌, if◌then◌else◌}
use Rattle.std.specs.Option.{option_map, option_or}
use Rattle.std.specs.List.{list_any}
use Rattle.pide_base.specs.declared.part.Part.{Part}
use Rattle.pide_base.specs.declared.part.PartKind.{PartKind}
use Rattle.pide_base.specs.declared.part.PartKind.TheVariants.{Eval, Fork, Print}
use Rattle.report_markup.specs.declared.report.Report.{Report}
use Rattle.doc_nodes.specs.declared.node.Entry.{Entry}
use Rattle.doc_nodes.specs.declared.node.Node.{Node}
use Rattle.core_rules.specs.Assigned.{command_ids}
use Rattle.core_rules.specs.Parts.{same_part, same_kind}
use Rattle.core_rules.specs.Updates.{AllDiffer}
use Rattle.mirror_rules.specs.Images.{FinishedPart, Image}
use Rattle.mirror_rules.specs.Parts.{is_at, reports_at}
use Rattle.mirror_rules.specs.Reports.{PartReport, belongs_to, belongs_in, finished_at, with_report}
use Rattle.mirror_rules.specs.Rows.{rows_of}
use Rattle.buffer_rules.specs.Cuts.{source}
use Rattle.pide_mirror.specs.Places.{StandsAt, has_execution, place_of, PlaceTable, ArePlaced, with_reports, takes, told_at, told_in}
use Rattle.pide_mirror.specs.declared.place.Place.{Place}
use Rattle.pide_mirror.proofs.Reporting.{reports_then}
use Rattle.text_words.proofs.KnownFinds.{any_at, any_from}

-- a place of these
abbrev pub made : List ℕ → Option (List Report) → Option (List Report) → Option (List Report) → Place
made text eval fork print = record { source = text; eval = eval; fork = fork; print = print }

pub same_place : (text : List ℕ) {a b c x y z : Option (List Report)} → a ≡ x → b ≡ y → c ≡ z → made text a b c ≡ made text x y z
same_place text {a} {b} {c} {x} {y} {z} e f g = ap (λ v. made text v b c) e ∙ ap (λ v. made text x v c) f ∙ ap (λ v. made text x y v) g

module _ (told : PartReport) (im : Image) (pair : List ℕ × Node) (e : Entry) where
  abbrev belongs : Bool
  belongs = belongs_to told pair.1 (rows_of im pair.0) e

  abbrev here : List Report
  here = (finished_at told pair.1 e).reports

  -- a part has what is told of it where it belongs, or what it had
  part_then : AllDiffer (command_ids im.nodes) → StandsAt im.nodes pair e → (p : Part)
      → reports_at (with_report told im) e.command p ≡ cond (belongs && same_part told.part p) (Some here) (reports_at im e.command p)
  part_then differ s p = reports_then told e.command p im pair e differ s refl ∙ go belongs (find (is_at e.command p) im.finished)
    where
      go : (b : Bool) (before : Option FinishedPart) → option_map (λ (f : FinishedPart). f.reports) (option_or (find (is_at e.command p) (if b then finished_at told pair.1 e ∷ [] else [])) before)
          ≡ cond (b && same_part told.part p) (Some here) (option_map (λ (f : FinishedPart). f.reports) before)
      go false before = refl
      go true before = ap (λ b. option_map (λ (f : FinishedPart). f.reports) (option_or (cond (b && same_part told.part p) (Some (finished_at told pair.1 e)) None) before))
          (eq-eqb e.command e.command refl) ∙ same (same_part told.part p)
        where
          same : (b : Bool) → option_map (λ (f : FinishedPart). f.reports) (option_or (cond b (Some (finished_at told pair.1 e)) None) before)
              ≡ cond b (Some here) (option_map (λ (f : FinishedPart). f.reports) before)
          same true = refl
          same false = refl

  module _ (differ : AllDiffer (command_ids im.nodes)) (s : StandsAt im.nodes pair e) (exec : ℕ) where
    abbrev part : PartKind → Part
    part kind = record { exec = exec; kind = kind }

    -- another execution's places stay
    other_place : (told.part.exec == exec) ≡ false → place_of (with_report told im) pair e exec ≡ place_of im pair e exec
    other_place other = same_place (source pair.1.text e.range) (one Eval) (one Fork) (one Print)
      where
        one : (kind : PartKind) → reports_at (with_report told im) e.command (part kind) ≡ reports_at im e.command (part kind)
        one kind = part_then differ s (part kind)
            ∙ ap (λ b. cond (belongs && (b && same_kind told.part.kind kind)) (Some here) (reports_at im e.command (part kind))) other
            ∙ ap (λ b. cond b (Some here) (reports_at im e.command (part kind))) (and-false belongs)

    kinds : (k : PartKind) (eval fork print : Option (List Report))
        → made (source pair.1.text e.range) (cond (same_kind k Eval) (Some here) eval) (cond (same_kind k Fork) (Some here) fork) (cond (same_kind k Print) (Some here) print)
        ≡ with_reports k here (made (source pair.1.text e.range) eval fork print)
    kinds Eval eval fork print = refl
    kinds Fork eval fork print = refl
    kinds Print eval fork print = refl

    -- the execution's own has what is told, where it takes it
    own_place : (told.part.exec == exec) ≡ true → has_execution im pair e exec ≡ true
        → place_of (with_report told im) pair e exec ≡ told_at told (place_of im pair e exec)
    own_place own has_it = same_place (source pair.1.text e.range) (one Eval) (one Fork) (one Print) ∙ go (takes told (place_of im pair e exec))
      where
        there : has_execution im pair e told.part.exec ≡ true
        there = ap (λ x. has_execution im pair e x) (eqb-true told.part.exec exec own) ∙ has_it

        one : (kind : PartKind) → reports_at (with_report told im) e.command (part kind)
            ≡ cond (takes told (place_of im pair e exec) && same_kind told.part.kind kind) (Some here) (reports_at im e.command (part kind))
        one kind = part_then differ s (part kind)
            ∙ ap (λ b. cond ((b && takes told (place_of im pair e exec)) && same_part told.part (part kind)) (Some here) (reports_at im e.command (part kind))) there
            ∙ ap (λ b. cond (takes told (place_of im pair e exec) && (b && same_kind told.part.kind kind)) (Some here) (reports_at im e.command (part kind))) own

        go : (b : Bool) → made (source pair.1.text e.range) (cond (b && same_kind told.part.kind Eval) (Some here) (reports_at im e.command (part Eval)))
            (cond (b && same_kind told.part.kind Fork) (Some here) (reports_at im e.command (part Fork)))
            (cond (b && same_kind told.part.kind Print) (Some here) (reports_at im e.command (part Print)))
            ≡ (if b then with_reports told.part.kind here (place_of im pair e exec) else place_of im pair e exec)
        go false = refl
        go true = kinds told.part.kind (reports_at im e.command (part Eval)) (reports_at im e.command (part Fork)) (reports_at im e.command (part Print))

-- what maps to something was there
mapped : {A B : Type 0} (f : A → B) (o : Option A) (y : B) → option_map f o ≡ Some y → (x : A) × (o ≡ Some x)
mapped f None y is = absurd (cc)
mapped f (Some x) y is = (x, refl)

module _ (told : PartReport) (table : PlaceTable) (im : Image) (placed : ArePlaced table im) where
  -- a table that takes what is told is the table of the image that has it
  pub places_told : AllDiffer (command_ids im.nodes) → ArePlaced (told_in told table) (with_report told im)
  places_told differ = record { there = there; only = only }
    where
      there : (pair : List ℕ × Node) (e : Entry) (exec : ℕ) → StandsAt im.nodes pair e → has_execution im pair e exec ≡ true
          → told_in told table exec e.command ≡ Some (place_of (with_report told im) pair e exec)
      there pair e exec s has_it = go (told.part.exec == exec) refl
        where
          go : (b : Bool) → (told.part.exec == exec) ≡ b
              → (if b then option_map (told_at told) (table exec e.command) else table exec e.command) ≡ Some (place_of (with_report told im) pair e exec)
          go true is = ap (option_map (told_at told)) (placed.there pair e exec s has_it) ∙ ap (λ x. Some x) (sym (own_place told im pair e differ s exec is has_it))
          go false is = placed.there pair e exec s has_it ∙ ap (λ x. Some x) (sym (other_place told im pair e differ s exec is))

      only : (exec command : ℕ) (place : Place) → told_in told table exec command ≡ Some place
          → (pair : List ℕ × Node) × (e : Entry) × StandsAt im.nodes pair e × (has_execution im pair e exec ≡ true) × (e.command ≡ command)
      only exec command place is = go (told.part.exec == exec) is
        where
          go : (b : Bool) → (if b then option_map (told_at told) (table exec command) else table exec command) ≡ Some place
              → (pair : List ℕ × Node) × (e : Entry) × StandsAt im.nodes pair e × (has_execution im pair e exec ≡ true) × (e.command ≡ command)
          go true at = let old = mapped (told_at told) (table exec command) place at in placed.only exec command old.0 old.1
          go false at = placed.only exec command place at

module _ (told : PartReport) (table : PlaceTable) (im : Image) (placed : ArePlaced table im) where
  -- a place that takes what is told is a command to which it belongs
  pub taken_belongs : (command : ℕ) (place : Place) → table told.part.exec command ≡ Some place → takes told place ≡ true → belongs_in told im ≡ true
  taken_belongs command place at is =
      let found = placed.only told.part.exec command place at in
      let pair = found.0 in
      let e = found.1 in
      let s = found.2 in
      let same : place ≡ place_of im pair e told.part.exec
      = let t : Some place ≡ Some (place_of im pair e told.part.exec) = sym at ∙ ap (table told.part.exec) (sym found.4) ∙ placed.there pair e told.part.exec s found.3 in cc in
      let here : belongs_to told pair.1 (rows_of im pair.0) e ≡ true = and_from _ _ found.3 (ap (takes told) (sym same) ∙ is) in
      any_at (λ p. list_any (belongs_to told p.1 (rows_of im p.0)) p.1.entries) im.nodes s.node pair s.node_is
      (any_at (belongs_to told pair.1 (rows_of im pair.0)) pair.1.entries s.at e s.entry_is here)

  -- and a command to which it belongs has a place that takes it
  pub belongs_taken : belongs_in told im ≡ true → (command : ℕ) × (place : Place) × (table told.part.exec command ≡ Some place) × (takes told place ≡ true)
  belongs_taken is =
      let n = any_from (λ p. list_any (belongs_to told p.1 (rows_of im p.0)) p.1.entries) im.nodes is in
      let pair = n.1 in
      let c = any_from (belongs_to told pair.1 (rows_of im pair.0)) pair.1.entries n.3 in
      let e = c.1 in
      let both = and_parts _ _ c.3 in
      (e.command, place_of im pair e told.part.exec, placed.there pair e told.part.exec (record { node = n.0; at = c.0; node_is = n.2; entry_is = c.2 }) both.0, both.1)
