-- What is kept once a part is finished.
use Rattle.std.proofs.Common.{◌≡◌, ℕ, ◌≤◌, Bool, true, false, cond, List, Option, Some, None, refl, ap, sym, subst, ◌∙◌, arith}
use Rattle.std.proofs.lemmas.Bool.{eqb-true, eq-eqb, false≢true}
use Rattle.std.specs.Prelude.{◌==◌}
use Rattle.pide_base.specs.declared.part.Part.{Part}
use Rattle.pide_base.specs.declared.part.PartKind.{PartKind}
use Rattle.pide_base.specs.declared.part.PartKind.TheVariants as kind
use Rattle.core_tables.specs.declared.execution.Execution.{Execution}
use Rattle.core_tables.specs.declared.task.Standing.{Standing as Task}
use Rattle.language.specs.Lang.{Lang}
use Rattle.core_rules.specs.declared.event.Event.{Event}
use Rattle.core_rules.specs.Standing.{Done, standing, held}
use Rattle.core_jobs.specs.declared.done.Done.{Done as Result}
use Rattle.prover_core.specs.Progress.{Completed, InOrder, part, completed_in, and_also, next_of, row_of}
use Rattle.prover_core.specs.Tasks.{HasTask}
use Rattle.prover_core.specs.Kept.{Tables, IsKept}
use Rattle.prover_core.proofs.PartsAlike.{completed_elsewhere, completed_here}
use Rattle.prover_core.proofs.Quiet.{row_same, next_same}
use Rattle.prover_core.proofs.KeptOn.{kept_on}
use Rattle.prover_core.proofs.FinishFacts.{Finishing, d, more}

module _ {S : Type 0} {l : Lang S} {h : List Event} {t : Tables S} {who : ℕ} {p : Part} (finish : Finishing l h t who p) where
  pub apart : (e : ℕ) → (p.exec == e) ≡ false → completed_in (more finish) e ≡ completed_in h e
  apart e is = completed_elsewhere (standing h) p Done e is

  pub here : completed_in (more finish) p.exec ≡ and_also p.kind (completed_in h p.exec)
  here = completed_here (standing h) p.exec p.kind

  -- what others hold is of other executions
  held_apart : (w : ℕ) (q : Part) → (who == w) ≡ false → held h w ≡ Some q → (p.exec == q.exec) ≡ false
  held_apart w q other is = go (p.exec == q.exec) refl
    where
      go : (b : Bool) → (p.exec == q.exec) ≡ b → (p.exec == q.exec) ≡ false
      go false x = x
      go true x =
          let alike = eqb-true p.exec q.exec x in
          let kinds : Some p.kind ≡ Some q.kind = sym (finish.kept.held_next who p finish.holds) ∙ ap (next_of l h (d finish)) alike ∙ finish.kept.held_next w q is in
          let kind : p.kind ≡ q.kind = cc in
          let parts : p ≡ q = ap (λ e. part e p.kind) alike ∙ ap (part q.exec) kind in
          let mine = (finish.laws.told who p).0 finish.holds in
          let theirs = (finish.laws.told w q).0 is in
          let both = sym mine ∙ ap (standing h) parts ∙ theirs in
          let same : who ≡ w = cc in
          absurd (false≢true (sym other ∙ eq-eqb who w same))

  next_held : (w : ℕ) (q : Part) → held (more finish) w ≡ Some q → next_of l (more finish) (d finish) q.exec ≡ Some q.kind
  next_held w q is = go (who == w) refl is
    where
      go : (b : Bool) → (who == w) ≡ b → cond b None (held h w) ≡ Some q → next_of l (more finish) (d finish) q.exec ≡ Some q.kind
      go true x is = absurd (cc)
      go false x is = next_same l (d finish) q.exec h (more finish) (apart q.exec (held_apart w q x is)) ∙ finish.kept.held_next w q is

  -- the parts that are finished of an execution, as before or with this one
  each : (P : Completed → Type 0) (e : ℕ) → P (and_also p.kind (completed_in h p.exec)) → P (completed_in h e) → P (completed_in (more finish) e)
  each P e mine theirs = go (p.exec == e) refl
    where
      go : (b : Bool) → (p.exec == e) ≡ b → P (completed_in (more finish) e)
      go true is = subst (λ x. P (completed_in (more finish) x)) (eqb-true p.exec e is) (subst P (sym here) mine)
      go false is = subst P (sym (apart e is)) theirs

  rows_by : (e : ℕ) (b : Bool) → (p.exec == e) ≡ b → (o : Option (Execution (Result S))) → o ≡ row_of l (more finish) (d finish) p.exec
      → cond b o (t.rows e) ≡ row_of l (more finish) (d finish) e
  rows_by e true is o mine = mine ∙ ap (row_of l (more finish) (d finish)) (eqb-true p.exec e is)
  rows_by e false is o mine = finish.kept.rows e ∙ sym (row_same l (d finish) e h (more finish) (apart e is))

  -- the order of an execution's parts
  order_by : (x : PartKind) (c : Completed) → InOrder c → (x ≡ kind.Fork → c.eval ≡ true) → InOrder (and_also x c)
  order_by kind.Eval c order behind is = refl
  order_by kind.Fork c order behind is = behind refl
  order_by kind.Print c order behind is = order is

  pub finished_kept : (rows : ℕ → Option (Execution (Result S))) (holders : ℕ → Option Part) (holding : ℕ) (tasks : ℕ → Option Task) (room count : ℕ)
      → (o : Option (Execution (Result S))) → o ≡ row_of l (more finish) (d finish) p.exec → ((e : ℕ) → rows e ≡ cond (p.exec == e) o (t.rows e))
      → ((w : ℕ) → holders w ≡ cond (who == w) None (t.holders w))
      → ((e : ℕ) → HasTask l (more finish) (d finish) e (tasks e)) → (p.kind ≡ kind.Fork → (completed_in h p.exec).eval ≡ true) → holding ≤ room → count ≤ t.count
      → IsKept l (more finish) (record t { rows = rows; holders = holders; holding = holding; tasks = tasks; room = room; count = count })
  finished_kept rows holders holding tasks room count o row_is updates out are behind fits fewer =
      kept_on l h (more finish) t finish.kept refl rows holders holding tasks room count t.ended (finish.kept.legal, (finish.holds, finish.wanted))
      (λ e. updates e ∙ rows_by e (p.exec == e) refl o row_is)
      (λ e. each InOrder e (order_by p.kind (completed_in h p.exec) (finish.kept.in_order p.exec) behind) (finish.kept.in_order e))
      (λ w. out w ∙ ap (λ x. cond (who == w) None x) (finish.kept.holders w)) next_held are
      finish.kept.ended fits (omega (arith, fewer, finish.kept.spare))
