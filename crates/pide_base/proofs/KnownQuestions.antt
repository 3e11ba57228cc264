-- Questions after questions.
use Rattle.std.proofs.Common.{◌≡◌, ◌≤◌, ◌+◌, ◌∙◌, ℕ, zero, suc, refl, sym, ap, arith}
use Rattle.pide_base.specs.Faults.{risen}
use Rattle.pide_base.specs.Questions.{risen_by, IsAskedUpTo}

risen_then : (m n before : ℕ) → risen_by (m + n) before ≡ risen_by n (risen_by m before)
risen_then zero n before = let none : 0 + n ≡ n = omega arith in ap (λ k. risen_by k before) none
risen_then (suc m) n before =
    let more : suc m + n ≡ suc (m + n) = omega arith in
    ap (λ k. risen_by k before) more ∙ risen_then m n (risen before)

-- so many questions, and then others
pub asked_then : (m n before between now : ℕ) → between ≡ risen_by m before → now ≡ risen_by n between → now ≡ risen_by (m + n) before
asked_then m n before between now first second = second ∙ (ap (risen_by n) first ∙ sym (risen_then m n before))

-- so many questions, and then up to so many others
pub up_to_then : (m n before between now : ℕ) → between ≡ risen_by m before → IsAskedUpTo n between now → IsAskedUpTo (m + n) before now
up_to_then m n before between now first (k, less, second) = (m + k, omega (arith, less), asked_then m k before between now first second)

-- up to so many questions are up to more of them
pub up_to_more : (n most before now : ℕ) → n ≤ most → IsAskedUpTo n before now → IsAskedUpTo most before now
up_to_more n most before now more (k, less, is) = (k, omega (arith, less, more), is)
