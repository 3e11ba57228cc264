-- A count that is 0 did not rise.
use Rattle.std.proofs.Common.{◌≡◌, ◌≤◌, ℕ, subst, arith}
use Rattle.pide_base.specs.Faults.{Rose}

pub never_rose : (before now : ℕ) → before ≡ 0 → now ≡ 0 → Rose before now → ⊥
never_rose before now was is rose =
    let one : 1 ≤ 0 = subst (λ (n : ℕ). Rose n 0) was (subst (λ (n : ℕ). Rose before n) is rose) in absurd (omega (arith, one))
