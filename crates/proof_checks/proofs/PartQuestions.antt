-- How often was asked for the parts of a rule.
use Rattle.std.proofs.Common.{◌≡◌, ◌+◌, ℕ, Result, Ok, Err, refl, sym, ap, subst}
use Rattle.nj_formula.specs.declared.formula.Formula.{Formula}
use Rattle.nj_formula.specs.Meaning.{meaning}
use Rattle.nj_kernel.specs.declared.thm.Thm.{Thm}
use Rattle.theory_ctx.specs.Locals.{Scoped}
use Rattle.proof_terms.specs.declared.term.Cite.{Cite}
use Rattle.proof_terms.specs.declared.term.Term.{Term}
use Rattle.proof_checks.specs.declared.halt.Halt.{Halt}
use Rattle.proof_checks.specs.declared.step.Part.{Part}
use Rattle.proof_checks.specs.declared.step.Step.{Step}
use Rattle.proof_checks.specs.declared.step.Step.TheVariants.{Cited, One, Two, Three}
use Rattle.proof_checks.specs.declared.step.Unary.{Unary}
use Rattle.proof_checks.specs.declared.step.Binary.{Binary}
use Rattle.proof_checks.specs.Answers.{Gives}
use Rattle.proof_checks.specs.Checks.{Found}
use Rattle.proof_checks.specs.Joined.{HandsOver}
use Rattle.proof_checks.specs.Questions.{rules_in_part, rules_behind, rules_in_parts, AskedEach}
use Rattle.proof_checks.specs.Scopes.{inside}
use Rattle.proof_checks.proofs.QuestionLemmas.{each_of, each_over, halt_asks, next_asks}
use Rattle.proof_checks.proofs.ReturnLemmas.{here}

module _ (sub : Term → Formula → Scoped → Found) (count : Term → Formula → Scoped → ℕ) (goal : Formula) (scope : Scoped) where
  -- a part's answer in this scope, and how often was asked for it
  abbrev Says : Scoped → Part → Result Thm Halt → Type 0
  Says s p given = Gives given (sub p.term p.goal (inside p.own s)) (meaning p.goal)

  abbrev Asks : Scoped → Part → Result Thm Halt → ℕ → ℕ → Type 0
  Asks s p given before now = AskedEach given (count p.term p.goal (inside p.own s)) before now

  abbrev pub Rules : Step → Result Thm Halt → ℕ → ℕ → Type 0
  Rules step given before now = AskedEach given (rules_in_parts sub count scope step) before now

  moved : (s : Scoped) (p : Part) (given : Result Thm Halt) (before now : ℕ) → s ≡ scope → Asks s p given before now → Asks scope p given before now
  moved s p given before now same told = subst (λ k. Asks k p given before now) same told

  pub same_asks : (step other : Step) (given : Result Thm Halt) (before now : ℕ) → step ≡ other → Rules other given before now → Rules step given before now
  same_asks step other given before now is told = subst (λ x. Rules x given before now) (sym is) told

  pub cited_asks : (step : Step) (c : Cite) (given : Result Thm Halt) (now : ℕ) → step ≡ Cited c → Rules step given now now
  unfolding rules_in_parts
  cited_asks step c given now is = subst (λ x. Rules x given now now) (sym is) (each_of given 0 now now refl)

  pub one_asks : (step : Step) (rule : Unary) (p : Part) (last given : Result Thm Halt) (before now : ℕ) → step ≡ One rule p
      → HandsOver last given → Asks scope p last before now → Rules step given before now
  unfolding rules_in_parts
  one_asks step rule p last given before now is hands told =
      subst (λ x. Rules x given before now) (sym is) (each_over last given (rules_in_part sub count scope p) before now hands told)

  module _ (rule : Binary) (p q : Part) where
    pub two_halt_asks : (one given : Result Thm Halt) (h : Halt) (before now : ℕ) → one ≡ Err h → given ≡ Err h → Says scope p one
        → Asks scope p one before now → Rules (Two rule p q) given before now
    unfolding rules_in_parts
    two_halt_asks one given h before now is out gives told =
        halt_asks one given h (rules_in_part sub count scope p) (rules_in_part sub count scope q) before now (sub p.term p.goal (inside p.own scope)) (meaning p.goal) is out gives told

    pub two_asks : (one last given : Result Thm Halt) (t : Thm) (s : Scoped) (before between now : ℕ) → one ≡ Ok t → Says scope p one
        → Asks scope p one before between → s ≡ scope → Asks s q last between now → HandsOver last given → Rules (Two rule p q) given before now
    unfolding rules_in_parts
    two_asks one last given t s before between now is gives first same second hands =
        each_over last given _ before now hands
        (next_asks one last t (rules_in_part sub count scope p) (rules_in_part sub count scope q) before between now (sub p.term p.goal (inside p.own scope)) (meaning p.goal) is gives first
        (moved s q last between now same second))

  module _ (p q r : Part) where
    pub three_halt_asks : (one given : Result Thm Halt) (h : Halt) (before now : ℕ) → one ≡ Err h → given ≡ Err h → Says scope p one
        → Asks scope p one before now → Rules (Three p q r) given before now
    unfolding rules_in_parts
    three_halt_asks one given h before now is out gives told =
        halt_asks one given h (rules_in_part sub count scope p) (rules_in_part sub count scope q + rules_behind sub count scope q (rules_in_part sub count scope r)) before now
        (sub p.term p.goal (inside p.own scope)) (meaning p.goal) is out gives told

    -- after the first part
    later : (one given : Result Thm Halt) (t : Thm) (before between now : ℕ) → one ≡ Ok t → Says scope p one → Asks scope p one before between
        → AskedEach given (rules_in_part sub count scope q + rules_behind sub count scope q (rules_in_part sub count scope r)) between now → Rules (Three p q r) given before now
    unfolding rules_in_parts
    later one given t before between now is gives first rest =
        next_asks one given t (rules_in_part sub count scope p) (rules_in_part sub count scope q + rules_behind sub count scope q (rules_in_part sub count scope r)) before between now
        (sub p.term p.goal (inside p.own scope)) (meaning p.goal) is gives first rest

    pub three_second_asks : (one two given : Result Thm Halt) (t : Thm) (h : Halt) (s : Scoped) (before between now : ℕ) → one ≡ Ok t → Says scope p one
        → Asks scope p one before between → s ≡ scope → two ≡ Err h → given ≡ Err h → Says s q two → Asks s q two between now
        → Rules (Three p q r) given before now
    three_second_asks one two given t h s before between now is gives first same second out second_gives told =
        later one given t before between now is gives first
        (halt_asks two given h (rules_in_part sub count scope q) (rules_in_part sub count scope r) between now (sub q.term q.goal (inside q.own scope)) (meaning q.goal) second out
        (here sub goal scope s two q same second_gives) (moved s q two between now same told))

    pub three_asks : (one two last given : Result Thm Halt) (t u : Thm) (s k : Scoped) (before between after now : ℕ) → one ≡ Ok t → Says scope p one
        → Asks scope p one before between → s ≡ scope → two ≡ Ok u → Says s q two → Asks s q two between after
        → k ≡ scope → Asks k r last after now → HandsOver last given → Rules (Three p q r) given before now
    three_asks one two last given t u s k before between after now is gives first same second second_gives told still third hands =
        later one given t before between now is gives first
        (each_over last given _ between now hands
        (next_asks two last u (rules_in_part sub count scope q) (rules_in_part sub count scope r) between after now (sub q.term q.goal (inside q.own scope)) (meaning q.goal) second
        (here sub goal scope s two q same second_gives) (moved s q two between after same told) (moved k r last after now still third)))

-- a part that was checked by its term and its scope
pub part_asks : (count : Term → Formula → Scoped → ℕ) (term other : Term) (goal : Formula) (scope inner : Scoped) (given result : Result Thm Halt) (before now : ℕ)
    → result ≡ given → term ≡ other → scope ≡ inner → AskedEach given (count term goal scope) before now → AskedEach result (count other goal inner) before now
part_asks count term other goal scope inner given result before now on same inside_is told =
    subst (λ r. AskedEach r (count other goal inner) before now) (sym on)
    (subst (λ s. AskedEach given (count other goal s) before now) inside_is
    (subst (λ x. AskedEach given (count x goal scope) before now) same told))
