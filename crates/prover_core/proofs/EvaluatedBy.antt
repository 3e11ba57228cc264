-- What is evaluated has a result.
use Rattle.std.proofs.Common.{◌≡◌, Bool, true, false, cond, refl, ap, ◌∙◌}
use Rattle.std.specs.Prelude.{is_some}
use Rattle.pide_base.specs.declared.part.PartKind.{PartKind}
use Rattle.pide_base.specs.declared.part.PartKind.TheVariants as kind
use Rattle.core_tables.specs.declared.execution.Progress.TheVariants as progress
use Rattle.core_tables.specs.Progress.{result_of}
use Rattle.exec_rules.specs.declared.home.Input.{Input}
use Rattle.exec_rules.specs.declared.home.Input.TheVariants as input
use Rattle.core_rules.specs.Sources.{is_evaluation}
use Rattle.prover_core.specs.Progress.{Completed, behind_eval, progress_by}

pub evaluated_by : {R : Type 0} (brings : PartKind → R) (forking : Bool) (i : Input) (c : Completed) → is_evaluation i ≡ true
    → is_some (result_of kind.Eval (progress_by brings forking i c)) ≡ c.eval
evaluated_by {R} brings forking i c evaluates = go i evaluates
  where
    behind : (f g : Bool) → is_some (result_of kind.Eval (behind_eval brings f g)) ≡ true
    behind false g = refl
    behind true false = refl
    behind true true = refl

    by : (b : Bool) → c.eval ≡ b → is_some (result_of kind.Eval (progress_by brings forking (input.Next 0) c)) ≡ b
    by true is = ap (λ b. is_some (result_of kind.Eval (cond b (behind_eval brings forking c.fork) progress.Evaluating))) is ∙ behind forking c.fork
    by false is = ap (λ b. is_some (result_of kind.Eval (cond b (behind_eval brings forking c.fork) progress.Evaluating))) is

    go : (i : Input) → is_evaluation i ≡ true → is_some (result_of kind.Eval (progress_by brings forking i c)) ≡ c.eval
    go (input.First head) so = by c.eval refl
    go (input.Next e) so = by c.eval refl
    go (input.Print e) so = absurd (cc)
