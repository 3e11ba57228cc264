-- The tasks once an evaluation is finished.
use Rattle.std.proofs.Common.{◌≡◌, ◌≢◌, ℕ, Bool, true, false, cond, not, ◌&&◌, ◌||◌, List, [], ◌∷◌, Option, Some, refl, ap, sym, subst, ◌∙◌}
use Rattle.std.proofs.lemmas.Bool.{eqb-true, eq-eqb, false≢true}
use Rattle.std.specs.Prelude.{◌==◌}
use Rattle.text_words.specs.Members.{has}
use Rattle.std.specs.Option.{option_map, option_map_or}
use Rattle.pide_base.specs.declared.part.Part.{Part}
use Rattle.pide_base.specs.declared.part.PartKind.TheVariants as kind
use Rattle.core_tables.specs.declared.task.Standing.{Standing as Task}
use Rattle.core_tables.specs.Changes.{without}
use Rattle.language.specs.Lang.{Lang}
use Rattle.core_rules.specs.declared.event.Event.{Event}
use Rattle.core_rules.specs.Parts.{same_kind, forks, evaluation}
use Rattle.core_rules.specs.Standing.{Standing, Free, Held, Done, standing, is_done}
use Rattle.prover_core.specs.Progress.{part, kind_behind, next_of}
use Rattle.prover_core.specs.Tasks.{task_behind, is_held, AreTasks, HasTask, present_kind}
use Rattle.prover_core.specs.Kept.{Tables}
use Rattle.prover_core.proofs.TasksStill.{still_behind}
use Rattle.prover_core.proofs.FinishedPart.{next_p as p_is_next, stands_apart, task_apart, task_here}
use Rattle.prover_core.proofs.FinishFacts.{Finishing, d, more}

module _ {S : Type 0} {l : Lang S} {h : List Event} {t : Tables S} {who : ℕ} {p : Part} (finish : Finishing l h t who p) where
  next_p : next_of l h (d finish) p.exec ≡ Some p.kind
  next_p = p_is_next finish

  module _ (own : p.kind ≡ kind.Eval) where
    done_behind : (f : ℕ) → is_done (standing (more finish) (evaluation f)) ≡ cond (p.exec == f) true (is_done (standing h (evaluation f)))
    done_behind f = ap (λ x. is_done (cond ((p.exec == f) && same_kind x kind.Eval) Done (standing h (evaluation f)))) own ∙ go (p.exec == f)
      where
        go : (b : Bool) → is_done (cond (b && true) Done (standing h (evaluation f))) ≡ cond b true (is_done (standing h (evaluation f)))
        go true = refl
        go false = refl

    nobody_forks : (s : Standing) → standing h (part p.exec kind.Fork) ≡ s → is_held s ≡ false
    nobody_forks Free is = refl
    nobody_forks Done is = refl
    nobody_forks (Held w) is =
        let forks = finish.kept.held_next w (part p.exec kind.Fork) ((finish.laws.told w (part p.exec kind.Fork)).1 is) in
        let both : Some kind.Fork ≡ Some kind.Eval = sym forks ∙ next_p ∙ ap (λ y. Some y) own in absurd (cc)

    fork_free : false ≡ is_held (standing (more finish) (part p.exec kind.Fork))
    fork_free = sym (ap (λ x. is_held (cond ((p.exec == p.exec) && same_kind x kind.Fork) Done (standing h (part p.exec kind.Fork)))) own ∙ go (p.exec == p.exec))
      where
        go : (b : Bool) → is_held (cond (b && false) Done (standing h (part p.exec kind.Fork))) ≡ false
        go true = nobody_forks (standing h (part p.exec kind.Fork)) refl
        go false = nobody_forks (standing h (part p.exec kind.Fork)) refl

    fork_waits : (f : ℕ) → false ≡ (has (p.exec ∷ []) f && not (is_done (standing (more finish) (evaluation f))))
    fork_waits f = go (f == p.exec) refl
      where
        no_more : (b : Bool) → b ≡ true → false ≡ (true && not b)
        no_more true x = refl
        no_more false x = absurd (cc)

        go : (b : Bool) → (f == p.exec) ≡ b → false ≡ ((b || false) && not (is_done (standing (more finish) (evaluation f))))
        go true is = no_more (is_done (standing (more finish) (evaluation f))) (done_behind f
            ∙ ap (λ b. cond b true (is_done (standing h (evaluation f)))) (eq-eqb p.exec f (sym (eqb-true f p.exec is))))
        go false is = refl

    fork_task : (f : Bool) → AreTasks (standing (more finish)) (d finish).tip (d finish).homes p.exec (kind_behind kind.Eval f) (task_behind (kind_behind kind.Eval f))
    fork_task false = tt
    fork_task true = record { same_kind = refl; urgent = refl; waits = fork_waits; held = fork_free }

    -- an evaluation: nobody waits for it any more, and where its command forks, the fork comes
    pub tasks_behind : (tasks : ℕ → Option Task) → tasks p.exec ≡ task_behind (kind_behind p.kind (forks l (d finish).homes p.exec))
        → ((e : ℕ) → e ≢ p.exec → tasks e ≡ option_map (without p.exec) (t.tasks e))
        → ((e : ℕ) → e ≢ p.exec → option_map_or (λ (s : Task). has s.inputs p.exec) (tasks e) false ≡ false)
        → (e : ℕ) → HasTask l (more finish) (d finish) e (tasks e)
    tasks_behind tasks at others free e = go (p.exec == e) refl
      where
        mine : AreTasks (standing (more finish)) (d finish).tip (d finish).homes p.exec (kind_behind p.kind (forks l (d finish).homes p.exec)) (tasks p.exec)
        mine = subst (AreTasks (standing (more finish)) (d finish).tip (d finish).homes p.exec (kind_behind p.kind (forks l (d finish).homes p.exec))) (sym at)
            (subst (λ x. AreTasks (standing (more finish)) (d finish).tip (d finish).homes p.exec (kind_behind x (forks l (d finish).homes p.exec))
            (task_behind (kind_behind x (forks l (d finish).homes p.exec)))) (sym own) (fork_task (forks l (d finish).homes p.exec)))

        go : (b : Bool) → (p.exec == e) ≡ b → HasTask l (more finish) (d finish) e (tasks e)
        go true is = subst (λ x. HasTask l (more finish) (d finish) x (tasks x)) (eqb-true p.exec e is) (task_here finish (tasks p.exec) mine)
        go false is =
            let differ = λ (same : e ≡ p.exec). false≢true (sym is ∙ eq-eqb p.exec e (sym same)) in
            let was = others e differ in
            task_apart finish e (tasks e) is (subst (AreTasks (standing (more finish)) (d finish).tip (d finish).homes e (present_kind l h (d finish) e)) (sym was)
            (still_behind (standing h) (standing (more finish)) (d finish).tip (d finish).homes e (stands_apart finish e is) p.exec done_behind (present_kind l h (d finish) e) (t.tasks e)
            (finish.kept.tasks e) (ap (λ o. option_map_or (λ (s : Task). has s.inputs p.exec) o false) (sym was) ∙ free e differ)))
