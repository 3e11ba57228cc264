-- What is present, and what its tasks go by, once a part is finished.
use Rattle.std.proofs.Common.{◌≡◌, ℕ, Bool, true, false, cond, not, ◌&&◌, List, Option, Some, None, refl, ap, sym, subst, ◌∙◌}
use Rattle.std.specs.Prelude.{◌==◌}
use Rattle.text_words.specs.Members.{has}
use Rattle.std.specs.Option.{option_and_then}
use Rattle.std.proofs.lemmas.Bool.{and_parts}
use Rattle.pide_base.specs.declared.part.Part.{Part}
use Rattle.pide_base.specs.declared.part.PartKind.{PartKind}
use Rattle.pide_base.specs.declared.part.PartKind.TheVariants as kind
use Rattle.core_tables.specs.declared.task.Standing.{Standing as Task}
use Rattle.exec_rules.specs.declared.home.Home.{Home}
use Rattle.language.specs.Lang.{Lang}
use Rattle.core_rules.specs.declared.event.Event.{Event}
use Rattle.core_rules.specs.Numbered.{numbered}
use Rattle.core_rules.specs.Assigned.{assigns, is_assigned}
use Rattle.core_rules.specs.Parts.{forks}
use Rattle.core_rules.specs.Standing.{Done, standing}
use Rattle.prover_core.specs.Progress.{part, completed_in, and_also, next_kind, kind_behind, next_of}
use Rattle.prover_core.specs.Tasks.{AreTasks, HasTask, present_kind}
use Rattle.prover_core.specs.Kept.{Tables}
use Rattle.prover_core.proofs.PartsAlike.{elsewhere}
use Rattle.prover_core.proofs.KindsBehind.{next_behind, fork_behind}
use Rattle.prover_core.proofs.NextParts.{next_opens}
use Rattle.prover_core.proofs.Quiet.{next_with, present_same}
use Rattle.prover_core.proofs.TipLive.{in_tip}
use Rattle.prover_core.proofs.FinishedKept.{apart, here}
use Rattle.prover_core.proofs.FinishFacts.{Finishing, d, more}

module _ {S : Type 0} {l : Lang S} {h : List Event} {t : Tables S} {who : ℕ} {p : Part} (finish : Finishing l h t who p) where
  pub next_p : next_of l h (d finish) p.exec ≡ Some p.kind
  next_p = finish.kept.held_next who p finish.holds

  behind_by : (o : Option Home) → option_and_then (λ (x : Home). next_kind x.input (forks l (d finish).homes p.exec) (completed_in h p.exec)) o ≡ Some p.kind
      → option_and_then (λ (x : Home). next_kind x.input (forks l (d finish).homes p.exec) (and_also p.kind (completed_in h p.exec))) o
      ≡ kind_behind p.kind (forks l (d finish).homes p.exec)
  behind_by None next = absurd (cc)
  behind_by (Some x) next = next_behind x.input (forks l (d finish).homes p.exec) (completed_in h p.exec) p.kind (finish.kept.in_order p.exec) next

  fork_by : (o : Option Home) → option_and_then (λ (x : Home). next_kind x.input (forks l (d finish).homes p.exec) (completed_in h p.exec)) o ≡ Some p.kind
      → p.kind ≡ kind.Fork → (completed_in h p.exec).eval ≡ true
  fork_by None next is = absurd (cc)
  fork_by (Some x) next is = fork_behind x.input (forks l (d finish).homes p.exec) (completed_in h p.exec) (next ∙ ap (λ y. Some y) is)

  -- a fork is finished behind its evaluation
  pub behind_eval : p.kind ≡ kind.Fork → (completed_in h p.exec).eval ≡ true
  behind_eval = fork_by (numbered (d finish).homes p.exec) next_p

  -- what is present of the execution then
  pub present_here : present_kind l (more finish) (d finish) p.exec ≡ kind_behind p.kind (forks l (d finish).homes p.exec)
  present_here = go (assigns (d finish).tip p.exec) (has (d finish).cancelled p.exec)
      ((in_tip l h t finish.kept finish.laws).wanted p.exec finish.wanted (next_opens l h (d finish) p.exec p.kind next_p))
      (not_true (has (d finish).cancelled p.exec) (and_parts (is_assigned (d finish).live p.exec) (not (has (d finish).cancelled p.exec)) finish.wanted).1)
    where
      not_true : (b : Bool) → not b ≡ true → b ≡ false
      not_true true x = absurd (cc)
      not_true false x = refl

      go : (a b : Bool) → a ≡ true → b ≡ false → cond (a && not b) (next_of l (more finish) (d finish) p.exec) None ≡ kind_behind p.kind (forks l (d finish).homes p.exec)
      go true false x y = ap (next_with l (d finish) p.exec) (here finish) ∙ behind_by (numbered (d finish).homes p.exec) next_p
      go true true x y = absurd (cc)
      go false b x y = absurd (cc)

  pub stands_apart : (e : ℕ) → (p.exec == e) ≡ false → (x : PartKind) → standing (more finish) (part e x) ≡ standing h (part e x)
  stands_apart e is x = ap (λ b. cond b Done (standing h (part e x))) (elsewhere p e x is)

  pub task_apart : (e : ℕ) (o : Option Task) → (p.exec == e) ≡ false → AreTasks (standing (more finish)) (d finish).tip (d finish).homes e (present_kind l h (d finish) e) o
      → HasTask l (more finish) (d finish) e o
  task_apart e o is are = subst (λ x. AreTasks (standing (more finish)) (d finish).tip (d finish).homes e x o)
      (sym (present_same l (d finish) e h (more finish) (apart finish e is))) are

  pub task_here : (o : Option Task) → AreTasks (standing (more finish)) (d finish).tip (d finish).homes p.exec (kind_behind p.kind (forks l (d finish).homes p.exec)) o
      → HasTask l (more finish) (d finish) p.exec o
  task_here o are = subst (λ x. AreTasks (standing (more finish)) (d finish).tip (d finish).homes p.exec x o) (sym present_here) are
