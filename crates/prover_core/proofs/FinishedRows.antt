-- The table of executions once the first unfinished part of one is finished.
use Rattle.std.proofs.Common.{◌≡◌, ℕ, Bool, true, false, cond, not, ◌&&◌, Some, None, refl, ap, ◌∙◌, sym}
use Rattle.std.proofs.lemmas.Bool.{false≢true}
use Rattle.std.specs.Option.{option_map}
use Rattle.pide_base.specs.declared.part.PartKind.{PartKind}
use Rattle.pide_base.specs.declared.part.PartKind.TheVariants as kind
use Rattle.exec_rules.specs.declared.home.Home.{Home}
use Rattle.exec_rules.specs.declared.home.Input.{Input}
use Rattle.exec_rules.specs.declared.home.Input.TheVariants as input
use Rattle.core_tables.specs.declared.execution.Progress.{Progress}
use Rattle.core_tables.specs.declared.execution.Progress.TheVariants as progress
use Rattle.core_tables.specs.Finish.{finished, finished_in}
use Rattle.language.specs.Lang.{Lang}
use Rattle.core_rules.specs.Settings.{Setting, made_of}
use Rattle.prover_core.specs.Brought.{brought}
use Rattle.prover_core.specs.Progress.{Completed, InOrder, and_also, next_kind, behind_eval, progress_by, result, execution_by}

module _ {R : Type 0} (brings : PartKind → R) where
  abbrev how_far : Bool → Bool → Bool → Progress R
  how_far f a b = cond a (behind_eval brings f b) progress.Evaluating

  abbrev also : PartKind → Bool → Bool → Completed
  also k a b = and_also k (record { eval = a; fork = b; print = false })

  evaluated : (f a b : Bool) (k : PartKind) → (b ≡ true → a ≡ true)
      → cond a (cond (f && not b) (Some kind.Fork) None) (Some kind.Eval) ≡ Some k
      → finished (brought k (brings k) f) (how_far f a b) ≡ Some (how_far f (also k a b).eval (also k a b).fork)
  evaluated f false true k order next = absurd (false≢true (order refl))
  evaluated true false false kind.Eval order next = refl
  evaluated false false false kind.Eval order next = refl
  evaluated f false false kind.Fork order next = absurd (cc)
  evaluated f false false kind.Print order next = absurd (cc)
  evaluated true true false kind.Fork order next = refl
  evaluated true true false kind.Eval order next = absurd (cc)
  evaluated true true false kind.Print order next = absurd (cc)
  evaluated true true true k order next = absurd (cc)
  evaluated false true b k order next = absurd (cc)

  printed : (f z : Bool) (k : PartKind) → cond z None (Some kind.Print) ≡ Some k
      → finished (brought k (brings k) f) (cond z (progress.Printed (brings kind.Print)) progress.Printing)
      ≡ Some (cond (and_also k (record { eval = false; fork = false; print = z })).print (progress.Printed (brings kind.Print)) progress.Printing)
  printed f true k next = absurd (cc)
  printed f false kind.Print next = refl
  printed f false kind.Eval next = absurd (cc)
  printed f false kind.Fork next = absurd (cc)

  -- neither part tells of the other's place
  eval_of : (k : PartKind) (c : Completed) → (and_also k c).eval ≡ (also k c.eval c.fork).eval
  eval_of kind.Eval c = refl
  eval_of kind.Fork c = refl
  eval_of kind.Print c = refl

  fork_of : (k : PartKind) (c : Completed) → (and_also k c).fork ≡ (also k c.eval c.fork).fork
  fork_of kind.Eval c = refl
  fork_of kind.Fork c = refl
  fork_of kind.Print c = refl

  print_of : (k : PartKind) (c : Completed) → (and_also k c).print ≡ (and_also k (record { eval = false; fork = false; print = c.print })).print
  print_of kind.Eval c = refl
  print_of kind.Fork c = refl
  print_of kind.Print c = refl

  evaluates : (f : Bool) (c : Completed) (k : PartKind) → InOrder c
      → cond c.eval (cond (f && not c.fork) (Some kind.Fork) None) (Some kind.Eval) ≡ Some k
      → finished (brought k (brings k) f) (how_far f c.eval c.fork)
      ≡ Some (how_far f (and_also k c).eval (and_also k c).fork)
  evaluates f c k order next = evaluated f c.eval c.fork k order next
      ∙ ap (λ a. Some (how_far f a (also k c.eval c.fork).fork)) (sym (eval_of k c))
      ∙ ap (λ b. Some (how_far f (and_also k c).eval b)) (sym (fork_of k c))

  -- how far it is then
  pub finishes : (f : Bool) (taken : Input) (c : Completed) (k : PartKind) → InOrder c → next_kind taken f c ≡ Some k
      → finished (brought k (brings k) f) (progress_by brings f taken c) ≡ Some (progress_by brings f taken (and_also k c))
  finishes f (input.First head) c k order next = evaluates f c k order next
  finishes f (input.Next e) c k order next = evaluates f c k order next
  finishes f (input.Print e) c k order next = printed f c.print k next
      ∙ ap (λ b. Some (cond b (progress.Printed (brings kind.Print)) progress.Printing)) (sym (print_of k c))

-- the execution of a table
pub finishes_in : {S : Type 0} (l : Lang S) (e : ℕ) (c : Completed) (home : Home) (s : Setting S) (k : PartKind) → InOrder c
    → next_kind home.input (made_of l s).forks c ≡ Some k
    → finished_in (brought k (result l e s k) (made_of l s).forks) (execution_by l false e c home s)
    ≡ Some (execution_by l false e (and_also k c) home s)
finishes_in l e c home s k order next =
    ap (option_map (λ p. record { cancelled = false; progress = p }))
    (finishes (result l e s) (made_of l s).forks home.input c k order next)
