-- Which part of an execution comes behind the first unfinished one.
use Rattle.std.proofs.Common.{◌≡◌, Bool, true, false, cond, not, ◌&&◌, Some, None, refl, ap, sym}
use Rattle.std.proofs.lemmas.Bool.{false≢true}
use Rattle.pide_base.specs.declared.part.PartKind.{PartKind}
use Rattle.pide_base.specs.declared.part.PartKind.TheVariants as kind
use Rattle.exec_rules.specs.declared.home.Input.{Input}
use Rattle.exec_rules.specs.declared.home.Input.TheVariants as input
use Rattle.prover_core.specs.Progress.{Completed, InOrder, and_also, next_kind, kind_behind}

evaluation_behind : (f a b : Bool) (k : PartKind) (c : Completed) → a ≡ c.eval → b ≡ c.fork → (b ≡ true → a ≡ true)
    → cond a (cond (f && not b) (Some kind.Fork) None) (Some kind.Eval) ≡ Some k
    → cond (and_also k c).eval (cond (f && not (and_also k c).fork) (Some kind.Fork) None) (Some kind.Eval) ≡ kind_behind k f
evaluation_behind f false true k c x y order next = absurd (false≢true (order refl))
evaluation_behind true false false kind.Eval c x y order next = ap (λ b. cond (not b) (Some kind.Fork) None) (sym y)
evaluation_behind false false false kind.Eval c x y order next = refl
evaluation_behind f false false kind.Fork c x y order next = absurd (cc)
evaluation_behind f false false kind.Print c x y order next = absurd (cc)
evaluation_behind true true false kind.Fork c x y order next = ap (λ a. cond a None (Some kind.Eval)) (sym x)
evaluation_behind true true false kind.Eval c x y order next = absurd (cc)
evaluation_behind true true false kind.Print c x y order next = absurd (cc)
evaluation_behind true true true k c x y order next = absurd (cc)
evaluation_behind false true b k c x y order next = absurd (cc)

print_behind : (a : Bool) (f : Bool) (k : PartKind) (c : Completed) → cond a None (Some kind.Print) ≡ Some k
    → cond (and_also k c).print None (Some kind.Print) ≡ kind_behind k f
print_behind true f k c next = absurd (cc)
print_behind false f kind.Print c next = refl
print_behind false f kind.Eval c next = absurd (cc)
print_behind false f kind.Fork c next = absurd (cc)

-- what comes behind the first unfinished part
pub next_behind : (taken : Input) (f : Bool) (c : Completed) (k : PartKind) → InOrder c → next_kind taken f c ≡ Some k
    → next_kind taken f (and_also k c) ≡ kind_behind k f
next_behind (input.First head) f c k order next = evaluation_behind f c.eval c.fork k c refl refl order next
next_behind (input.Next e) f c k order next = evaluation_behind f c.eval c.fork k c refl refl order next
next_behind (input.Print e) f c k order next = print_behind c.print f k c next

-- a fork is the first unfinished part behind its evaluation
pub fork_behind : (taken : Input) (f : Bool) (c : Completed) → next_kind taken f c ≡ Some kind.Fork → c.eval ≡ true
fork_behind (input.First head) f c next = by c.eval next
  where
    by : (a : Bool) → cond a (cond (f && not c.fork) (Some kind.Fork) None) (Some kind.Eval) ≡ Some kind.Fork → a ≡ true
    by true next = refl
    by false next = absurd (cc)
fork_behind (input.Next e) f c next = by c.eval next
  where
    by : (a : Bool) → cond a (cond (f && not c.fork) (Some kind.Fork) None) (Some kind.Eval) ≡ Some kind.Fork → a ≡ true
    by true next = refl
    by false next = absurd (cc)
fork_behind (input.Print e) f c next = by c.print next
  where
    by : (a : Bool) → cond a None (Some kind.Print) ≡ Some kind.Fork → c.eval ≡ true
    by true next = absurd (cc)
    by false next = absurd (cc)
