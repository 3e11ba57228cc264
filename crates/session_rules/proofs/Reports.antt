-- Where all parts of a node are shown, their reports are those of checking it from nothing.
use Rattle.std.proofs.Common.{◌≡◌, ℕ, Bool, true, false, cond, List, [], ◌∷◌, ◌++◌, Option, Some, None, refl, ap, ◌∙◌}
use Rattle.std.proofs.lemmas.Bool.{and_parts}
use Rattle.std.proofs.lemmas.List.{append-nil}
use Rattle.std.proofs.lemmas.List.Concat.{flat_map-append}
use Rattle.std.specs.Prelude.{flat_map, ◌&&◌, is_some, if◌then◌else◌}
use Rattle.std.specs.Option.{option_map_or}
use Rattle.std.specs.List.{list_all}
use Rattle.pide_base.specs.declared.part.Part.{Part}
use Rattle.pide_base.specs.declared.part.PartKind.TheVariants as kind
use Rattle.report_markup.specs.declared.report.Report.{Report}
use Rattle.doc_nodes.specs.declared.node.Entry.{Entry}
use Rattle.exec_rules.specs.declared.row.Row.{Row}
use Rattle.language.specs.Lang.{Lang}
use Rattle.core_rules.specs.declared.event.Event.{Event}
use Rattle.core_rules.specs.Settings.{Setting, made_of, forked, printed, state_behind}
use Rattle.core_rules.specs.Shown.{PartShown, scratch_parts, scratches_parts, shown_with}
use Rattle.core_rules.specs.Standing.{is_finished}
use Rattle.session_rules.specs.Reported.{part_reports, command_reports, commands_reports}

-- a part is shown
abbrev pub is_seen : PartShown → Bool
is_seen part = is_some part.reports

abbrev reports_with : List PartShown → List Report
reports_with parts = flat_map part_reports parts

first_all : (xs ys : List PartShown) → list_all is_seen (xs ++ ys) ≡ true → list_all is_seen xs ≡ true
first_all [] ys all = refl
first_all (x ∷ xs) ys all = go (is_seen x) all (first_all xs ys)
  where
    go : (b : Bool) → (b && list_all is_seen (xs ++ ys)) ≡ true → (list_all is_seen (xs ++ ys) ≡ true → list_all is_seen xs ≡ true)
        → (b && list_all is_seen xs) ≡ true
    go true all rest = rest all
    go false all rest = absurd (cc)

then_all : (xs ys : List PartShown) → list_all is_seen (xs ++ ys) ≡ true → list_all is_seen ys ≡ true
then_all [] ys all = all
then_all (x ∷ xs) ys all = then_all xs ys (and_parts (is_seen x) (list_all is_seen (xs ++ ys)) all).1

module _ {S : Type 0} (l : Lang S) (h : List Event) where
  -- a part that is shown has its reports
  one : (e : Entry) (r : List Report) (p : Part) → is_seen (shown_with h e (Some r) p) ≡ true → part_reports (shown_with h e (Some r) p) ≡ r
  one e r p seen = go (is_finished h p) seen
    where
      go : (b : Bool) → is_some (cond b (Some r) None) ≡ true → option_map_or (λ x. x) (cond b (Some r) None) [] ≡ r
      go true seen = refl
      go false seen = absurd (cc)

  alone : (e : Entry) (r : List Report) (p : Part) → list_all is_seen (shown_with h e (Some r) p ∷ []) ≡ true
      → reports_with (shown_with h e (Some r) p ∷ []) ≡ r ++ []
  alone e r p seen = ap (λ x. x ++ []) (one e r p (and_parts (is_seen (shown_with h e (Some r) p)) true seen).0)

  module _ (e : Entry) (row : Row) (s : Setting S) where
    abbrev fork_parts : Bool → List PartShown
    fork_parts b = if b then shown_with h e (Some (forked l s)) (record { exec = row.evaluation; kind = kind.Fork }) ∷ [] else []

    abbrev print_parts : Option ℕ → List PartShown
    print_parts o = option_map_or (λ q. shown_with h e (Some (printed l (record s { state = state_behind l s }))) (record { exec = q; kind = kind.Print }) ∷ []) o []

    fork_reports : (b : Bool) → list_all is_seen (fork_parts b) ≡ true → reports_with (fork_parts b) ≡ (if b then forked l s else [])
    fork_reports true seen = alone e (forked l s) (record { exec = row.evaluation; kind = kind.Fork }) seen ∙ append-nil _
    fork_reports false seen = refl

    print_reports : (o : Option ℕ) → list_all is_seen (print_parts o) ≡ true
        → reports_with (print_parts o) ≡ option_map_or (λ q. printed l (record s { state = state_behind l s })) o []
    print_reports (Some q) seen = alone e (printed l (record s { state = state_behind l s })) (record { exec = q; kind = kind.Print }) seen ∙ append-nil _
    print_reports None seen = refl

    -- so those of a command
    of_command : list_all is_seen (scratch_parts l h e row s) ≡ true → reports_with (scratch_parts l h e row s) ≡ command_reports l row s
    of_command seen =
        let eval : Part = record { exec = row.evaluation; kind = kind.Eval } in
        let parts = and_parts (is_seen (shown_with h e (Some (made_of l s).reports) eval)) (list_all is_seen (fork_parts (made_of l s).forks ++ print_parts row.print)) seen in
        let more = flat_map-append part_reports (fork_parts (made_of l s).forks) (print_parts row.print) in
        ap (λ x. x ++ reports_with (fork_parts (made_of l s).forks ++ print_parts row.print)) (one e (made_of l s).reports eval parts.0)
        ∙ ap (λ x. (made_of l s).reports ++ x) (more
        ∙ ap (λ x. x ++ reports_with (print_parts row.print)) (fork_reports (made_of l s).forks (first_all (fork_parts (made_of l s).forks) (print_parts row.print) parts.1))
        ∙ ap (λ x. (if (made_of l s).forks then forked l s else []) ++ x) (print_reports row.print (then_all (fork_parts (made_of l s).forks) (print_parts row.print) parts.1)))

  -- and those of a node
  pub of_commands : (es : List Entry) (rows : List Row) (ss : List (Setting S)) → list_all is_seen (scratches_parts l h es rows ss) ≡ true
      → flat_map part_reports (scratches_parts l h es rows ss) ≡ commands_reports l es rows ss
  of_commands [] rows ss seen = refl
  of_commands (e ∷ es) [] ss seen = refl
  of_commands (e ∷ es) (row ∷ rows) [] seen = refl
  of_commands (e ∷ es) (row ∷ rows) (s ∷ ss) seen =
      flat_map-append part_reports (scratch_parts l h e row s) (scratches_parts l h es rows ss)
      ∙ ap (λ x. x ++ reports_with (scratches_parts l h es rows ss)) (of_command e row s (first_all (scratch_parts l h e row s) (scratches_parts l h es rows ss) seen))
      ∙ ap (λ x. command_reports l row s ++ x) (of_commands es rows ss (then_all (scratch_parts l h e row s) (scratches_parts l h es rows ss) seen))
