-- What an editor sees of a command is what the version shows of it.
use Rattle.std.proofs.Common.{◌≡◌, ℕ, Bool, true, false, List, [], ◌∷◌, ◌++◌, map, Option, Some, None, refl, ap, sym, subst, ◌∙◌}
use Rattle.std.proofs.lemmas.Bool.{or_right}
use Rattle.std.specs.Prelude.{slice_get, flat_map, not, ◌==◌, ◌&&◌, if◌then◌else◌}
use Rattle.std.specs.Option.{option_map, option_map_or}
use Rattle.text_words.specs.Members.{has}
use Rattle.text_words.proofs.KnownMembers.{has_itself}
use Rattle.pide_base.specs.declared.part.Part.{Part}
use Rattle.pide_base.specs.declared.part.PartKind.{PartKind}
use Rattle.pide_base.specs.declared.part.PartKind.TheVariants as kind
use Rattle.report_markup.specs.declared.report.Report.{Report}
use Rattle.doc_nodes.specs.declared.node.Entry.{Entry}
use Rattle.doc_nodes.specs.declared.node.Node.{Node}
use Rattle.doc_nodes.proofs.KnownPlaces.{place_named}
use Rattle.exec_rules.specs.declared.home.Home.{Home}
use Rattle.exec_rules.specs.declared.row.Row.{Row}
use Rattle.exec_rules.specs.declared.version.Version.{Version}
use Rattle.exec_rules.specs.Assigning.{entries_in, rows_in}
use Rattle.exec_rules.specs.Homes.{home}
use Rattle.exec_rules.specs.Listed.{executions, print_list}
use Rattle.mirror_rules.specs.Forking.{forks_by, is_error, may_fork}
use Rattle.language.specs.Lang.{Lang}
use Rattle.core_rules.specs.declared.event.Event.{Event}
use Rattle.core_rules.specs.Settings.{made_of}
use Rattle.core_rules.specs.Parts.{forks, kinds_by, reports_in, reports_of}
use Rattle.core_rules.specs.Doc.{doc}
use Rattle.core_rules.specs.FromScratch.{AllFromScratch, IsFromScratch, PrintIs, assigned_to, head_in, input_at}
use Rattle.core_rules.specs.Legal.{IsLegal}
use Rattle.core_rules.specs.Shown.{PartShown, command_parts as core_parts, shown_with}
use Rattle.core_rules.specs.Standing.{is_finished}
use Rattle.core_rules.specs.Updates.{source_in}
use Rattle.core_rules.proofs.KnownPlaces.{rows_found}
use Rattle.mirror_rules.specs.Images.{Image}
use Rattle.mirror_rules.specs.Parts.{aliases_for, command_parts, evaluation_parts, part_of, reports_at}
use Rattle.mirror_rules.specs.Telling.{IsTold}
use Rattle.editor_laws.proofs.Agreeing.{Alike, both_alike, none_alike, one_alike, open_twice}
use Rattle.editor_laws.proofs.CoreParts.{shown_parts}
use Rattle.editor_laws.proofs.EvalShown.{core_eval, fork_waits}
use Rattle.editor_laws.proofs.Facts.{Facts}
use Rattle.editor_laws.proofs.Known.{ImageOf, Same, SameTold, entries_named, reported}
use Rattle.editor_laws.proofs.HomeSources.{setting_source}
use Rattle.editor_laws.proofs.ToldRanges.{same_all}

-- the same reports are quiet alike
quiet_same : (may : Bool) (xs ys : List Report) → Same xs ys → forks_by may (Some xs) ≡ forks_by may (Some ys)
quiet_same may xs ys same = ap (λ b. may && b) (same_all (λ r. not (is_error r.kind)) xs ys same)

none_told : (o : Option (List Report)) → SameTold o None → o ≡ None
none_told None same = refl
none_told (Some xs) same = absurd same

module _ {S : Type 0} (l : Lang S) (is_told : IsTold l) (facts : Facts l) (h : List Event) (legal : IsLegal l h) (v : Version) (im : Image)
    (is : ImageOf l h (doc l h).homes v im) (scratch : AllFromScratch l (doc l h) v) (p : ℕ) (pair : List ℕ × Node) (stands : slice_get v.nodes p ≡ Some pair) where
  pub rows_are : rows_in v pair.0 ≡ (assigned_to v p).rows
  rows_are = rows_found v pair.0 p (place_named v.nodes p pair is.sorted stands)

  module _ (i : ℕ) (e : Entry) (entry : slice_get pair.1.entries i ≡ Some e) (row : Row) (at : slice_get (rows_in v pair.0) i ≡ Some row) where
    x : IsFromScratch l (doc l h) v p pair i row
    x = scratch p i pair row stands (ap (λ rs. slice_get rs i) (sym rows_are) ∙ at)

    entry_is : x.command ≡ e
    entry_is = one (slice_get pair.1.entries i) x.stands entry
      where
        one : (o : Option Entry) → o ≡ Some x.command → o ≡ Some e → x.command ≡ e
        one o a b = cc

    source_is : x.works_on.source ≡ source_in pair.1 e
    source_is = setting_source l (doc l h).homes row.evaluation (home pair.1 v.blobs x.command
        (input_at (head_in v.nodes p pair (assigned_to v p).key) (assigned_to v p).rows i)) x.works_on x.homed x.kept ∙ ap (source_in pair.1) entry_is

    abbrev may : Bool
    may = may_fork (aliases_for im.nodes p i) (source_in pair.1 e)

    abbrev forking : Bool
    forking = (made_of l x.works_on).forks

    forks_are : forking ≡ forks_by may (Some (made_of l x.works_on).reports)
    forks_are = is_told.forks v.nodes v.blobs p i x.works_on x.scratch
        ∙ ap (λ t. forks_by (may_fork (aliases_for v.nodes p i) t) (Some (made_of l x.works_on).reports)) source_is
        ∙ ap (λ ns. forks_by (may_fork (aliases_for ns p i) (source_in pair.1 e)) (Some (made_of l x.works_on).reports)) (sym is.nodes)

    abbrev part : PartKind → ℕ → Part
    part k exec = record { exec = exec; kind = k }

    abbrev shown : Part → PartShown
    shown q = shown_with h e (reports_of l (doc l h).homes q) q

    here : slice_get (entries_in v pair.0) i ≡ Some e
    here = ap (λ es. slice_get es i) (entries_named v p pair is.sorted stands) ∙ entry

    known : (q : Part) → has (executions row) q.exec ≡ true → SameTold (reports_at im e.command q) (reported l h (doc l h).homes q)
    known q among = is.known pair.0 i e row q here at among

    own_there : has (executions row) row.evaluation ≡ true
    own_there = has_itself (print_list row.print) row.evaluation

    unshown : (q : Part) → is_finished h q ≡ false → (shown q).reports ≡ None
    unshown q open_ = ap (λ b. if b then reports_of l (doc l h).homes q else None) open_

    own_reports : is_finished h (part kind.Eval row.evaluation) ≡ true
        → reported l h (doc l h).homes (part kind.Eval row.evaluation) ≡ Some (made_of l x.works_on).reports
    own_reports done = ap (λ b. if b then reports_of l (doc l h).homes (part kind.Eval row.evaluation) else None) done
        ∙ ap (option_map (reports_in l kind.Eval)) x.kept

    abbrev mine : PartKind → PartShown
    mine k = part_of im e k row.evaluation

    eval_alike : Alike (evaluation_parts im may e row.evaluation)
        (shown (part kind.Eval row.evaluation) ∷ (if forking then shown (part kind.Fork row.evaluation) ∷ [] else []))
    eval_alike = go (is_finished h (part kind.Eval row.evaluation)) refl
      where
        first : Alike (mine kind.Eval ∷ []) (shown (part kind.Eval row.evaluation) ∷ [])
        first = one_alike (mine kind.Eval) (shown (part kind.Eval row.evaluation)) refl refl (known (part kind.Eval row.evaluation) own_there)

        second : Alike (mine kind.Fork ∷ []) (shown (part kind.Fork row.evaluation) ∷ [])
        second = one_alike (mine kind.Fork) (shown (part kind.Fork row.evaluation)) refl refl (known (part kind.Fork row.evaluation) own_there)

        both : (b c : Bool) → b ≡ c → Alike (mine kind.Eval ∷ (if b then mine kind.Fork ∷ [] else []))
            (shown (part kind.Eval row.evaluation) ∷ (if c then shown (part kind.Fork row.evaluation) ∷ [] else []))
        both true true same = both_alike (mine kind.Eval ∷ []) (mine kind.Fork ∷ []) (shown (part kind.Eval row.evaluation) ∷ [])
            (shown (part kind.Fork row.evaluation) ∷ []) first second
        both false false same = first
        both true false same = absurd (cc)
        both false true same = absurd (cc)

        told : (o : Option (List Report)) → reports_at im e.command (part kind.Eval row.evaluation) ≡ o
            → SameTold o (Some (made_of l x.works_on).reports)
            → forks_by may (reports_at im e.command (part kind.Eval row.evaluation)) ≡ forking
        told None is same = absurd same
        told (Some xs) is same = ap (forks_by may) is ∙ quiet_same may xs (made_of l x.works_on).reports same ∙ sym forks_are

        open_ : (c : Bool) → is_finished h (part kind.Eval row.evaluation) ≡ false
            → reports_at im e.command (part kind.Eval row.evaluation) ≡ None
            → Alike (mine kind.Eval ∷ []) (shown (part kind.Eval row.evaluation) ∷ (if c then shown (part kind.Fork row.evaluation) ∷ [] else []))
        open_ false unfinished none = first
        open_ true unfinished none = open_twice (mine kind.Eval) (shown (part kind.Eval row.evaluation)) (shown (part kind.Fork row.evaluation)) refl refl none
            (unshown (part kind.Eval row.evaluation) unfinished) (unshown (part kind.Fork row.evaluation) (fork_waits l facts h legal row.evaluation unfinished))

        go : (b : Bool) → is_finished h (part kind.Eval row.evaluation) ≡ b → Alike (evaluation_parts im may e row.evaluation)
            (shown (part kind.Eval row.evaluation) ∷ (if forking then shown (part kind.Fork row.evaluation) ∷ [] else []))
        go true done = both (forks_by may (reports_at im e.command (part kind.Eval row.evaluation))) forking
            (told (reports_at im e.command (part kind.Eval row.evaluation)) refl
            (subst (SameTold (reports_at im e.command (part kind.Eval row.evaluation))) (own_reports done) (known (part kind.Eval row.evaluation) own_there)))
        go false unfinished =
            let none = none_told (reports_at im e.command (part kind.Eval row.evaluation))
            (subst (SameTold (reports_at im e.command (part kind.Eval row.evaluation)))
            (ap (λ b. if b then reports_of l (doc l h).homes (part kind.Eval row.evaluation) else None) unfinished)
            (known (part kind.Eval row.evaluation) own_there)) in
            subst (λ o. Alike (mine kind.Eval ∷ (if forks_by may o then mine kind.Fork ∷ [] else []))
            (shown (part kind.Eval row.evaluation) ∷ (if forking then shown (part kind.Fork row.evaluation) ∷ [] else []))) (sym none)
            (open_ forking unfinished none)

    print_alike : (o : Option ℕ) → row.print ≡ o → PrintIs l (doc l h) o (home pair.1 v.blobs x.command) row.evaluation x.works_on
        → Alike (map (part_of im e kind.Print) (print_list o)) (flat_map (shown_parts l h (doc l h).homes e) (print_list o))
    print_alike None same prints = none_alike
    print_alike (Some q) same prints =
        let among : has (executions row) q ≡ true = or_right (q == row.evaluation) (has (print_list row.print) q)
        (ap (λ o. has (print_list o) q) same ∙ has_itself [] q) in
        subst (λ ps. Alike (part_of im e kind.Print q ∷ []) (ps ++ []))
        (sym (ap (λ o. map shown (option_map_or (λ (y : Home). map (λ k. part k q) (kinds_by y.input (forks l (doc l h).homes q))) o [])) prints.0))
        (one_alike (part_of im e kind.Print q) (shown (part kind.Print q)) refl refl (known (part kind.Print q) among))

    -- a command's parts
    pub row_alike : Alike (command_parts im may e (executions row)) (core_parts l h (doc l h).homes e row)
    row_alike = both_alike (evaluation_parts im may e row.evaluation) (map (part_of im e kind.Print) (print_list row.print))
        (shown_parts l h (doc l h).homes e row.evaluation) (flat_map (shown_parts l h (doc l h).homes e) (print_list row.print))
        (subst (Alike (evaluation_parts im may e row.evaluation)) (sym (core_eval l h (doc l h) v p pair i row x e)) eval_alike) (print_alike row.print refl x.prints)
