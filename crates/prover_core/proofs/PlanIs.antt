-- What is worked out by the tables of a core is a plan of its document.
use Rattle.std.proofs.Common.{◌≡◌, ℕ, suc, ◌<◌, ◌≤◌, Bool, true, false, not, ◌&&◌, List, length, map, reverse, refl, ap, sym, subst, ◌∙◌, arith}
use Rattle.std.specs.List.{AllByRecursion}
use Rattle.text_words.specs.Members.{has}
use Rattle.pide_base.specs.Ids.{id_end}
use Rattle.doc_nodes.specs.Imports.{NodeList}
use Rattle.core_tables.specs.Rows.{Row as TableRow}
use Rattle.exec_rules.specs.declared.home.Home.{Home}
use Rattle.exec_rules.specs.Kept.{BlobList}
use Rattle.exec_rules.specs.Assigning.{Assignment}
use Rattle.exec_rules.specs.Listed.{listed}
use Rattle.exec_assign.specs.Fitting.{RowsFit}
use Rattle.language.specs.Lang.{Lang}
use Rattle.core_rules.specs.declared.event.Event.{Event}
use Rattle.core_rules.specs.Numbered.{next_number}
use Rattle.core_rules.specs.Assigned.{assigns, is_visible, is_assigned}
use Rattle.core_rules.specs.Doc.{update_of}
use Rattle.core_rules.specs.Legal.{IsLegal}
use Rattle.core_rules.specs.Updates.{FitsUpdate}
use Rattle.core_jobs.specs.declared.done.Done.{Done}
use Rattle.update_plans.specs.declared.beginning.Fresh.{Fresh}
use Rattle.update_plans.specs.declared.seeing.Sight.{Sight}
use Rattle.update_plans.specs.declared.steps.Steps.{Steps}
use Rattle.update_plans.specs.Begun.{AreBegun}
use Rattle.update_plans.proofs.KnownVisible.{visible_assigned}
use Rattle.prover_core.specs.Plans.{AreTasksFor, IsSeen, IsPlanOf}
use Rattle.prover_core.specs.Planned.{plan_with, plan_of}
use Rattle.prover_core.specs.Kept.{Tables}
use Rattle.prover_core.proofs.FreshPlan.{homes_in, tasks_in}
use Rattle.prover_core.proofs.NewVersion.{NewLaws}
use Rattle.prover_core.proofs.UpdateFacts.{Updating}
use Rattle.prover_core.proofs.NewFacts.{new_laws}
use Rattle.prover_core.proofs.PlanSources.{sources_told, homes_are, tasks_for}
use Rattle.prover_core.proofs.TipLive.{tip_live}
use Rattle.prover_core.proofs.PlanSteps.{AreSteps}
use Rattle.prover_core.proofs.PlanTip.{Asks, d, more, made, new, below, same_made, same_new}

assignment_is : (a : Assignment) (homes : List Home) (n : ℕ) → homes ≡ a.homes → n ≡ a.next
    → record { assigned = a.assigned; homes = homes; next = n } ≡ a
assignment_is a homes n same is = ap (λ (hs : List Home). record { assigned = a.assigned; homes = hs; next = n }) same
    ∙ ap (λ m. record { assigned = a.assigned; homes = a.homes; next = m }) is

module _ {S : Type 0} {l : Lang S} {h : List Event} {t : Tables S} {id : ℕ} {nodes : NodeList} {blobs : BlobList} {rows : List (TableRow (Done S))}
    (a : Asks l h t id nodes blobs rows) where
  live : (e : ℕ) → assigns (d a).tip e ≡ true → is_assigned (d a).live e ≡ true
  live = tip_live l h t a.kept

  module _ (s : Steps) (so : AreSteps rows (d a).tip nodes blobs (next_number (d a).homes) s) where
    next_made : s.next ≡ (made a).next
    next_made = so.next_is ∙ ap (λ (x : Assignment). x.next) (same_made a)

    fits_now : FitsUpdate (d a) id nodes blobs
    fits_now = a.fits (subst (λ n. n ≤ id_end) next_made so.within)

    legal : IsLegal l (more a)
    legal = (a.kept.legal, (a.going, fits_now))

    laws : NewLaws l h id nodes blobs
    laws = new_laws l h a.kept.legal id nodes blobs legal a.all.update.there (λ e. a.all.update.made h e a.kept.legal) live
        (λ e is. a.all.update.tip (more a) e legal is) (λ q past. a.all.update.unmade h q a.kept.legal past)
        (λ e is. a.all.update.not_again h id nodes blobs e is) (λ e is. a.all.update.found (more a) e legal is)
        (a.all.update.held (update_of (d a) nodes blobs) (next_number (d a).homes)) (a.all.update.new (update_of (d a) nodes blobs) (next_number (d a).homes))

    updating : Updating l h t id nodes blobs
    updating = record { kept = a.kept; laws = laws; tip_live = live; tip_homes = λ e is. a.all.update.tip h e a.kept.legal is }

    pub version_is : s.version ≡ new a
    version_is = so.version ∙ same_new a

    abbrev fresh_list : List Fresh
    fresh_list = reverse s.fresh.items

    begun : AreBegun rows (suc (length (d a).homes)) (made a).homes fresh_list
    begun = subst (λ (x : Assignment). AreBegun rows (suc (length (d a).homes)) x.homes fresh_list) (same_made a) so.fresh

    homes_made : homes_in fresh_list ≡ (made a).homes
    homes_made = homes_are h rows (suc (length (d a).homes)) (made a).homes fresh_list begun

    tasks : AreTasksFor h (suc (length (d a).homes)) (homes_in fresh_list) (tasks_in fresh_list)
    tasks = tasks_for h rows (d a).homes (made a).homes fresh_list begun
        (sources_told updating rows a.are)

    seen_before : (e : ℕ) → has (map (λ (x : Sight). x.exec) s.sights.items) e ≡ false → is_visible (new a) e ≡ is_visible (d a).tip e
    seen_before e is = ap (λ v. is_visible v e) (sym version_is) ∙ so.unseen e is

    hidden : (e : ℕ) → length (d a).homes < e → is_visible (d a).tip e ≡ false
    hidden e past = go (is_visible (d a).tip e) refl
      where
        go : (b : Bool) → is_visible (d a).tip e ≡ b → b ≡ false
        go false is = refl
        go true is = let lt = below a e (visible_assigned (d a).tip e is) in absurd (omega (arith, lt, past))

    -- the plan of the new version
    plan_new : IsPlanOf l h (plan_with id (new a) s)
    plan_new = record {
      fits = fits_now;
      assigned = assignment_is (made a) (homes_in fresh_list) s.next homes_made next_made;
      rows_fit = subst RowsFit version_is so.fit;
      tasks = tasks;
      drops = λ e. so.dropped e ∙ ap (λ v. assigns (d a).tip e && not (assigns v e)) version_is;
      sees = subst (λ v. AllByRecursion (IsSeen v) s.sights.items) version_is so.sees;
      unseen = seen_before;
      unseen_new = λ e past is. seen_before e is ∙ hidden e past;
      tells = so.told ∙ ap (listed (d a).tip) version_is;
    }

    pub plan_is : IsPlanOf l h (plan_of id s)
    plan_is = subst (λ v. IsPlanOf l h (plan_with id v s)) (sym version_is) plan_new
