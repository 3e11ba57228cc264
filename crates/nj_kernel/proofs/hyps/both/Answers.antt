-- At the end of the pass one list is used up, and the rest of the other follows.
use Rattle.std.proofs.Common.{rules, ◌≡◌, ◌++◌, [], ◌⊎◌, inl, inr, map, IsTrue, subst}
use Rattle.nj_formula.specs.Meaning.{meaning}
use Rattle.nj_kernel.specs.Sets.{members, Lists, ◌∪◌}
use Rattle.nj_kernel.specs.Order.{rises}
use Rattle.nj_kernel.proofs.JoinLemmas.{joined, joined_lists, empty, ended}
use Rattle.nj_kernel.proofs.RisesLemmas.{joined_rises}
use Rattle.nj_kernel.proofs.hyps.both.Goals as goal
use Rattle.nj_kernel.proofs.hyps.both.Goals.{In_ok-push_all-2, in_default, in-len1-up+in_default-right}

all_joined : (c : In_ok-push_all-2) → joined (map meaning c.args.s.now) (map meaning c.args.t.now) ≡ map meaning c.push_all-2.new.to
all_joined c =
    let which : (c.loop-left.left.now ≡ []) ⊎ (c.loop-left.right.now ≡ []) = elim c.if-left-lt1.branch [
      | in_default w ↦ inl (empty c.loop-left.left.now (search rules))
      | in-len1-up+in_default-right w ↦ inr (empty c.loop-left.right.now (search rules))
    ] in
    let one : c.push_all.new.to ≡ c.loop-left.all ++ c.loop-left.left.now = search rules in
    let two : c.push_all-2.new.to ≡ c.push_all.new.to ++ c.loop-left.right.now = search rules in
    ended c.loop-left.all c.loop-left.left.now c.loop-left.right.now c.push_all.new.to c.push_all-2.new.to c.args.s.now c.args.t.now which one two c.loop-left.invariant

pub returns-clause-listed : goal.returns-clause-listed
returns-clause-listed c =
    subst (λ u. Lists u (members (map meaning c.args.s.now) ∪ members (map meaning c.args.t.now))) (all_joined (goal.at.returns-clause-listed c).In_ok-push_all-2)
    (joined_lists (map meaning c.args.s.now) (map meaning c.args.t.now))

pub returns-clause-ordered : goal.returns-clause-ordered
returns-clause-ordered c =
    subst (λ u. IsTrue (rises u)) (all_joined (goal.at.returns-clause-ordered c).In_ok-push_all-2)
    (joined_rises (map meaning c.args.s.now) (map meaning c.args.t.now) c.requires.left c.requires.right)
