-- What is shown of commands whose reports fit fits.
use Rattle.std.proofs.Common.{ℕ, ◌+◌, ◌≤◌, Bool, true, false, List, [], ◌∷◌, ◌++◌, map, Option, Some, None}
use Rattle.std.specs.Prelude.{if◌then◌else◌}
use Rattle.std.specs.Option.{option_map_or}
use Rattle.std.specs.List.{AllByRecursion, flat_map}
use Rattle.text_words.proofs.KnownLists.{each-both, each-part}
use Rattle.pide_base.specs.declared.part.Part.{Part}
use Rattle.pide_base.specs.declared.part.PartKind.TheVariants as kind
use Rattle.report_markup.specs.declared.report.Report.{Report}
use Rattle.report_markup.specs.Ranges.{moved}
use Rattle.doc_nodes.specs.declared.node.Entry.{Entry}
use Rattle.exec_rules.specs.declared.row.Row.{Row}
use Rattle.language.specs.Lang.{Lang}
use Rattle.language.specs.Laws as laws
use Rattle.core_rules.specs.declared.event.Event.{Event}
use Rattle.core_rules.specs.Settings.{Setting, made_of, forked, printed, state_behind}
use Rattle.core_rules.specs.Shown.{PartShown, scratch_parts, scratches_parts, shown_with}
use Rattle.core_rules.specs.Standing.{is_finished}
use Rattle.session_rules.specs.Shown.{placed_reports}
use Rattle.editor_laws.proofs.FittingReports.{AllFit, Fitting, moved_fit}

-- what is reported of the command fits
abbrev pub SettingFits : {S : Type 0} → Lang S → ℕ → Setting S → Type 0
SettingFits l m s = AllFit m (laws.reports_of l s.source s.blob s.state)

-- commands begin at a place or before it
abbrev pub BeginBy : ℕ → List Entry → Type 0
BeginBy k es = AllByRecursion (λ e. e.range.start ≤ k) es

module _ {S : Type 0} (l : Lang S) (h : List Event) (k m : ℕ) where
  abbrev PartFits : PartShown → Type 0
  PartFits part = AllFit (k + m) (placed_reports part)

  part_fits : (e : Entry) → e.range.start ≤ k → (rs : List Report) → AllFit m rs → (p : Part)
      → PartFits (shown_with h e (Some rs) p)
  part_fits e le rs all p = go (is_finished h p)
    where
      go : (b : Bool) → AllFit (k + m) (option_map_or (map (moved e.range.start))
          (if b then Some rs else None) [])
      go true = moved_fit e.range.start m k le rs all
      go false = tt

  parts_fit : (e : Entry) (row : Row) (s : Setting S) → e.range.start ≤ k → SettingFits l m s
      → AllByRecursion PartFits (scratch_parts l h e row s)
  parts_fit e row s le fits = (
    part_fits e le own all.0.0
        (record { exec = row.evaluation; kind = kind.Eval }),
    each-both PartFits _ _ (forking (made_of l s).forks all.0.1) (printing row.print),
  )
    where
      own : List Report
      own = (made_of l s).reports

      later : List Report
      later = if (made_of l s).forks then forked l s else []

      all : (AllFit m own × AllFit m later) × AllFit m (l.print s.source (state_behind l s))
      all = let both = each-part (Fitting m) (own ++ later)
          (l.print s.source (state_behind l s)) fits in
          (each-part (Fitting m) own later both.0, both.1)

      forking : (b : Bool) → AllFit m (if b then forked l s else [])
          → AllByRecursion PartFits (if b then shown_with h e (Some (forked l s))
          (record { exec = row.evaluation; kind = kind.Fork }) ∷ [] else [])
      forking true fit = (
        part_fits e le (forked l s) fit
            (record { exec = row.evaluation; kind = kind.Fork }),
        tt,
      )
      forking false fit = tt

      printing : (o : Option ℕ) → AllByRecursion PartFits
          (option_map_or (λ q. shown_with h e (Some (printed l
          (record s { state = state_behind l s })))
          (record { exec = q; kind = kind.Print }) ∷ []) o [])
      printing None = tt
      printing (Some q) = (
        part_fits e le (l.print s.source (state_behind l s)) all.1
            (record { exec = q; kind = kind.Print }),
        tt,
      )

  all_parts_fit : (es : List Entry) (rows : List Row) (ss : List (Setting S)) → BeginBy k es
      → AllByRecursion (SettingFits l m) ss
      → AllByRecursion PartFits (scratches_parts l h es rows ss)
  all_parts_fit [] rows ss begin fit = tt
  all_parts_fit (e ∷ es) [] ss begin fit = tt
  all_parts_fit (e ∷ es) (row ∷ rows) [] begin fit = tt
  all_parts_fit (e ∷ es) (row ∷ rows) (s ∷ ss) begin fit =
      each-both PartFits (scratch_parts l h e row s) (scratches_parts l h es rows ss)
      (parts_fit e row s begin.0 fit.0) (all_parts_fit es rows ss begin.1 fit.1)

  placed_fit : (parts : List PartShown) → AllByRecursion PartFits parts
      → AllFit (k + m) (flat_map placed_reports parts)
  placed_fit [] all = tt
  placed_fit (p ∷ ps) all = each-both (Fitting (k + m)) (placed_reports p)
      (flat_map placed_reports ps) all.0
      (placed_fit ps all.1)

  pub shown_fit : (es : List Entry) (rows : List Row) (ss : List (Setting S)) → BeginBy k es
      → AllByRecursion (SettingFits l m) ss
      → AllFit (k + m) (flat_map placed_reports (scratches_parts l h es rows ss))
  shown_fit es rows ss begin fit = placed_fit (scratches_parts l h es rows ss)
      (all_parts_fit es rows ss begin fit)
