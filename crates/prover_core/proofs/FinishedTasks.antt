-- The tasks once a part is finished.
use Rattle.std.proofs.Common.{◌≡◌, ◌≢◌, ℕ, Bool, true, false, cond, ◌&&◌, List, Option, None, refl, ap, sym, subst, ◌∙◌}
use Rattle.std.proofs.lemmas.Bool.{eqb-true, eq-eqb, false≢true}
use Rattle.std.specs.Prelude.{◌==◌}
use Rattle.std.specs.Option.{option_map, option_map_or}
use Rattle.pide_base.specs.declared.part.Part.{Part}
use Rattle.pide_base.specs.declared.part.PartKind.{PartKind}
use Rattle.pide_base.specs.declared.part.PartKind.TheVariants as kind
use Rattle.core_tables.specs.declared.task.Standing.{Standing as Task}
use Rattle.text_words.specs.Members.{has}
use Rattle.core_tables.specs.Changes.{without}
use Rattle.language.specs.Lang.{Lang}
use Rattle.core_rules.specs.declared.event.Event.{Event}
use Rattle.core_rules.specs.Parts.{same_kind, forks, evaluation}
use Rattle.core_rules.specs.Standing.{Done, standing, is_done}
use Rattle.prover_core.specs.Progress.{kind_behind}
use Rattle.prover_core.specs.Tasks.{task_behind, AreTasks, HasTask, present_kind}
use Rattle.prover_core.specs.Kept.{Tables}
use Rattle.prover_core.proofs.TasksStill.{still}
use Rattle.prover_core.proofs.FinishedPart.{stands_apart, task_apart, task_here}
use Rattle.prover_core.proofs.EvaluatedTasks.{tasks_behind}
use Rattle.prover_core.proofs.FinishFacts.{Finishing, d, more}

module _ {S : Type 0} {l : Lang S} {h : List Event} {t : Tables S} {who : ℕ} {p : Part} (finish : Finishing l h t who p) where
  module _ (other : same_kind p.kind kind.Eval ≡ false) where
    nothing_behind : (x : PartKind) (f : Bool) → same_kind x kind.Eval ≡ false → kind_behind x f ≡ None
    nothing_behind kind.Eval f x = absurd (cc)
    nothing_behind kind.Fork f x = refl
    nothing_behind kind.Print f x = refl

    done_still : (f : ℕ) → is_done (standing (more finish) (evaluation f)) ≡ is_done (standing h (evaluation f))
    done_still f = ap (λ b. is_done (cond ((p.exec == f) && b) Done (standing h (evaluation f)))) other ∙ go (p.exec == f)
      where
        go : (b : Bool) → is_done (cond (b && false) Done (standing h (evaluation f))) ≡ is_done (standing h (evaluation f))
        go true = refl
        go false = refl

    -- a fork or a print: its task goes
    pub tasks_gone : (tasks : ℕ → Option Task) → tasks p.exec ≡ task_behind (kind_behind p.kind (forks l (d finish).homes p.exec))
        → ((e : ℕ) → e ≢ p.exec → tasks e ≡ t.tasks e) → (e : ℕ) → HasTask l (more finish) (d finish) e (tasks e)
    tasks_gone tasks at others e = go (p.exec == e) refl
      where
        nothing : tasks p.exec ≡ None
        nothing = at ∙ ap task_behind (nothing_behind p.kind (forks l (d finish).homes p.exec) other)

        go : (b : Bool) → (p.exec == e) ≡ b → HasTask l (more finish) (d finish) e (tasks e)
        go true is = subst (λ x. HasTask l (more finish) (d finish) x (tasks x)) (eqb-true p.exec e is)
            (task_here finish (tasks p.exec) (subst (λ x. AreTasks (standing (more finish)) (d finish).tip (d finish).homes p.exec x (tasks p.exec))
            (sym (nothing_behind p.kind (forks l (d finish).homes p.exec) other)) (subst (AreTasks (standing (more finish)) (d finish).tip (d finish).homes p.exec None) (sym nothing) tt)))
        go false is =
            let still_there = others e (λ same. false≢true (sym is ∙ eq-eqb p.exec e (sym same))) in
            task_apart finish e (tasks e) is (subst (AreTasks (standing (more finish)) (d finish).tip (d finish).homes e (present_kind l h (d finish) e)) (sym still_there)
            (still (standing h) (standing (more finish)) (d finish).tip (d finish).homes e (stands_apart finish e is) done_still (present_kind l h (d finish) e) (t.tasks e) (finish.kept.tasks e)))

  -- so for each kind of part
  pub tasks_then : (tasks : ℕ → Option Task) → tasks p.exec ≡ task_behind (kind_behind p.kind (forks l (d finish).homes p.exec))
      → (p.kind ≡ kind.Eval → (e : ℕ) → e ≢ p.exec → tasks e ≡ option_map (without p.exec) (t.tasks e))
      → (p.kind ≡ kind.Eval → (e : ℕ) → e ≢ p.exec → option_map_or (λ (s : Task). has s.inputs p.exec) (tasks e) false ≡ false)
      → (same_kind p.kind kind.Eval ≡ false → (e : ℕ) → e ≢ p.exec → tasks e ≡ t.tasks e)
      → (e : ℕ) → HasTask l (more finish) (d finish) e (tasks e)
  tasks_then tasks at waiters free others = go p.kind refl
    where
      go : (x : PartKind) → p.kind ≡ x → (e : ℕ) → HasTask l (more finish) (d finish) e (tasks e)
      go kind.Eval is = tasks_behind finish is tasks at (waiters is) (free is)
      go kind.Fork is = let other = ap (λ y. same_kind y kind.Eval) is in tasks_gone other tasks at (others other)
      go kind.Print is = let other = ap (λ y. same_kind y kind.Eval) is in tasks_gone other tasks at (others other)
