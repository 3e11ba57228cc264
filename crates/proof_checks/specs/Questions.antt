-- How often a check asks whether to stop: once before each rule that it judges. A rule is judged
-- before its parts, and no part behind the first fault (this project's own).
use Rattle.std.specs.Prelude.{◌≡◌, ◌+◌, ⊤, ℕ, zero, suc, Result, Ok, Err}
use Rattle.pide_base.specs.Questions.{risen_by, IsAskedUpTo}
use Rattle.nj_formula.specs.declared.formula.Formula.{Formula}
use Rattle.nj_kernel.specs.declared.thm.Thm.{Thm}
use Rattle.theory_ctx.specs.Locals.{Scoped}
use Rattle.proof_terms.specs.declared.term.Term.{Term, out-Term}
use Rattle.proof_terms.specs.declared.term.Term.TheOpen.{Term-F}
use Rattle.proof_terms.specs.Reading.{deepest}
use Rattle.proof_checks.specs.declared.checked.Checked.{Checked}
use Rattle.proof_checks.specs.declared.checked.Checked.TheVariants as C
use Rattle.proof_checks.specs.declared.halt.Halt.{Halt}
use Rattle.proof_checks.specs.declared.halt.Halt.TheVariants.{Wrong, Stopped, NoMemory}
use Rattle.proof_checks.specs.declared.step.Part.{Part}
use Rattle.proof_checks.specs.declared.step.Step.{Step}
use Rattle.proof_checks.specs.declared.step.Step.TheVariants.{Cited, One, Two, Three}
use Rattle.proof_checks.specs.Checks.{Found, step_within, checked_within}
use Rattle.proof_checks.specs.Rows.{Planned}
use Rattle.proof_checks.specs.Scopes.{inside}

-- a term is one rule with its parts, or a name
abbrev pub rules_at : Term-F Term → ℕ
rules_at (Term-F.Fact c) = 0
rules_at _ = 1

-- so many, where there was no fault before
abbrev pub if_faultless : Found → ℕ → ℕ
if_faultless (Ok s) n = n
if_faultless (Err fault) n = 0

-- where `sub` answers for parts, and `count` counts their rules
module _ (sub : Term → Formula → Scoped → Found) (count : Term → Formula → Scoped → ℕ)
    (scope : Scoped) where
  -- those of a part
  abbrev pub rules_in_part : Part → ℕ
  rules_in_part p = count p.term p.goal (inside p.own scope)

  -- those of what follows a part
  abbrev pub rules_behind : Part → ℕ → ℕ
  rules_behind p n = if_faultless (sub p.term p.goal (inside p.own scope)) n

  -- those of the parts of what a term comes to
  unfoldable pub rules_in_parts : Step → ℕ
  rules_in_parts (Cited c) = 0
  rules_in_parts (One rule p) = rules_in_part p
  rules_in_parts (Two rule p q) = rules_in_part p + rules_behind p (rules_in_part q)
  rules_in_parts (Three p q r) = rules_in_part p
      + rules_behind p (rules_in_part q + rules_behind q (rules_in_part r))

-- those of the parts, where the rule fits
abbrev pub rules_in_plan : Planned → (Step → ℕ) → ℕ
rules_in_plan (Ok step) count = count step
rules_in_plan (Err fault) count = 0

-- the rules of a term that are judged, where at most so many may be nested
unfoldable pub judged_within : ℕ → Term → Formula → Scoped → ℕ
judged_within zero t goal scope = rules_at (out-Term t)
judged_within (suc n) t goal scope = rules_at (out-Term t)
    + rules_in_plan (step_within (suc n) (out-Term t) goal)
    (rules_in_parts (checked_within n) (judged_within n) scope)

-- the rules of a term that are judged
abbrev pub rules_judged : Term → Formula → Scoped → ℕ
rules_judged t goal scope = judged_within deepest t goal scope

-- of the counts of questions before and after: so many were asked, or up to so many where the
-- check was stopped
abbrev pub AsksEach : Checked → ℕ → ℕ → ℕ → Type 0
AsksEach (C.Proved t) rules before now = now ≡ risen_by rules before
AsksEach (C.Wrong fault) rules before now = now ≡ risen_by rules before
AsksEach C.Stopped rules before now = IsAskedUpTo rules before now
AsksEach C.NoMemory rules before now = ⊤

-- the same of a part of a check
abbrev pub AskedEach : Result Thm Halt → ℕ → ℕ → ℕ → Type 0
AskedEach (Ok t) rules before now = now ≡ risen_by rules before
AskedEach (Err (Wrong fault)) rules before now = now ≡ risen_by rules before
AskedEach (Err Stopped) rules before now = IsAskedUpTo rules before now
AskedEach (Err NoMemory) rules before now = ⊤
