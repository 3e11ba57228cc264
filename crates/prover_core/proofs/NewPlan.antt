-- A plan of an update, and what holds of the version that it makes.
use Rattle.std.proofs.Common.{◌≡◌, ℕ, suc, true, false, not, ◌&&◌, List, ◌∷◌, length, ap, sym, subst, ◌∙◌, arith}
use Rattle.text_words.specs.Members.{has}
use Rattle.exec_rules.specs.declared.version.Version.{Version}
use Rattle.exec_rules.specs.Assigning.{Assignment}
use Rattle.language.specs.Lang.{Lang}
use Rattle.core_rules.specs.declared.event.Event.{Event}
use Rattle.core_rules.specs.declared.event.Event.TheVariants as event
use Rattle.core_rules.specs.Numbered.{next_number}
use Rattle.core_rules.specs.Assigned.{assigns, is_assigned}
use Rattle.core_rules.specs.Standing.{has_ended}
use Rattle.core_rules.specs.Doc.{Doc, doc, update_of, assignment_of, assigned_version}
use Rattle.core_rules.specs.Legal.{IsLegal}
use Rattle.update_plans.specs.declared.beginning.Fresh.{Fresh}
use Rattle.prover_core.specs.Plans.{PlanState, made_version, AreTasksFor, IsPlanOf}
use Rattle.prover_core.specs.Kept.{Tables, IsKept}
use Rattle.core_rules.proofs.KnownNumbers.{length_grown}
use Rattle.prover_core.proofs.FreshPlan.{homes_in, tasks_in}
use Rattle.prover_core.proofs.NewVersion.{NewLaws}
use Rattle.prover_core.proofs.UpdateFacts.{Updating, IsPlanned}
use Rattle.prover_core.proofs.NewFacts.{new_laws}
use Rattle.prover_core.proofs.TipLive.{tip_live}
use Rattle.prover_core.specs.Laws.{UpdateLaws}

-- a plan of a document that goes on, whose tables are kept, and the new executions of it
pub record Plans {S : Type 0} (l : Lang S) (h : List Event) (t : Tables S) (p : PlanState) (fresh : List Fresh) : Type 0 where
  pub kept : IsKept l h t
  pub all : UpdateLaws l
  pub tasks_are : p.tasks ≡ tasks_in fresh
  pub homes_are : homes_in fresh ≡ p.assignment.homes
  pub going : has_ended h ≡ false
  pub planned : IsPlanOf l h p

-- the same, by other names of what has happened and of the plan
module _ {S : Type 0} {l : Lang S} {h : List Event} {t : Tables S} (k : IsKept l h t) where
  pub plans_in : (all : UpdateLaws l) (p q : PlanState) (fresh : List Fresh) (past : List Event) → p.tasks ≡ tasks_in fresh
      → homes_in fresh ≡ p.assignment.homes → h ≡ past → p ≡ q → has_ended past ≡ false → IsPlanOf l past q → Plans l h t p fresh
  plans_in all p q fresh past tasks_are homes_are same alike going planned = record {
    kept = k;
    all = all;
    tasks_are = tasks_are;
    homes_are = homes_are;
    going = ap has_ended same ∙ going;
    planned = subst (IsPlanOf l h) (sym alike) (subst (λ xs. IsPlanOf l xs q) (sym same) planned);
  }

module _ {S : Type 0} {l : Lang S} {h : List Event} {t : Tables S} {p : PlanState} {fresh : List Fresh} (plan : Plans l h t p fresh) where
  abbrev d : Doc
  d = doc l h

  abbrev more : List Event
  more = event.Update p.version p.nodes p.blobs ∷ h

  abbrev made : Assignment
  made = assignment_of d p.nodes p.blobs

  abbrev new : Version
  new = assigned_version p.nodes p.blobs made

  pub legal : IsLegal l more
  legal = (plan.kept.legal, (plan.going, plan.planned.fits))

  live : (e : ℕ) → assigns d.tip e ≡ true → is_assigned d.live e ≡ true
  live = tip_live l h t plan.kept

  laws : NewLaws l h p.version p.nodes p.blobs
  laws = new_laws l h plan.kept.legal p.version p.nodes p.blobs legal plan.all.there (λ e. plan.all.made h e plan.kept.legal) live
      (λ e is. plan.all.tip more e legal is) (λ q past. plan.all.unmade h q plan.kept.legal past)
      (λ e is. plan.all.not_again h p.version p.nodes p.blobs e is) (λ e is. plan.all.found more e legal is)
      (plan.all.held (update_of d p.nodes p.blobs) (next_number d.homes)) (plan.all.new (update_of d p.nodes p.blobs) (next_number d.homes))

  pub same_version : made_version p ≡ new
  same_version = ap (assigned_version p.nodes p.blobs) plan.planned.assigned

  pub drops : (e : ℕ) → has p.dropped e ≡ (assigns d.tip e && not (assigns new e))
  drops e = plan.planned.drops e ∙ ap (λ v. assigns d.tip e && not (assigns v e)) same_version

  pub updating : Updating l h t p.version p.nodes p.blobs
  updating = record { kept = plan.kept; laws = laws; tip_live = live; tip_homes = λ e is. plan.all.tip h e plan.kept.legal is }

  pub is_planned : IsPlanned updating p.dropped fresh
  is_planned = record {
    drops = drops;
    are = subst (λ hs. AreTasksFor h (suc (length d.homes)) hs (tasks_in fresh)) (sym plan.homes_are)
        (subst (AreTasksFor h (suc (length d.homes)) p.assignment.homes) plan.tasks_are plan.planned.tasks);
    homes_are = plan.homes_are ∙ ap (λ (a : Assignment). a.homes) plan.planned.assigned;
  }

  pub next_so : p.assignment.next ≡ next_number (doc l more).homes
  next_so = ap (λ (a : Assignment). a.next) plan.planned.assigned ∙ plan.all.numbers (update_of d p.nodes p.blobs) (next_number d.homes)
      ∙ omega (arith, length_grown d.homes made.homes)
