use Rattle.std.proofs.Common.{◌≡◌, ℕ, None, take}
use Rattle.prover_core.specs.Looked.{looked}
use Rattle.prover_core.proofs.ChangedAll.{changed_in}
use Rattle.prover_core.proofs.forgetting.forget_all.Given as goal

abbrev pub invariant-loop-exec : goal.invariant-loop-exec
invariant-loop-exec l = (e : ℕ) → looked l.known e
    ≡ changed_in (λ n o. None) (take l.exec-index l.gone) (λ n. looked l.fn.known n) e
