-- A command of a proof keeps what the proof is worth, where its fork tells no error.
use Rattle.std.proofs.Common.{◌≡◌, ℕ, true, List, [], ◌∷◌, Ok, Err, refl, sym, ap, subst, ⊎_elim}
use Rattle.std.proofs.Math.Logic.{∥∥₁_elim, ∥∥₁_prop}
use Rattle.std.specs.Prelude.{Result}
use Rattle.nj_formula.specs.declared.formula.Formula.{Formula}
use Rattle.nj_formula.specs.Meaning.{meaning}
use Rattle.nj_formula.specs.Statement.{Statement}
use Rattle.theory_ctx.specs.Facts.{Fact}
use Rattle.outer_syntax.specs.declared.token.Token.{Token}
use Rattle.proof_state.specs.declared.fault.ProofFault.{ProofFault}
use Rattle.proof_state.specs.declared.levels.Levels.{Levels}
use Rattle.proof_state.specs.declared.levels.Levels.TheVariants.{Closed, Prove, State}
use Rattle.proof_state.specs.Follows.{Follows, IsFact}
use Rattle.proof_state.specs.Runs.{IsJustified, GoalFollows}
use Rattle.proof_state.specs.Steps.{Command, step, proof, fix, assume, have, show, next, qed, by}
use Rattle.proof_state.specs.Worth.{IsWorth}
use Rattle.report_markup.specs.declared.report.Report.{Report}
use Rattle.isar_rules.specs.declared.shape.Shape.{Shape}
use Rattle.isar_rules.specs.declared.shape.Shape.TheVariants as shape
use Rattle.isar_rules.specs.declared.state.Theory.{Theory}
use Rattle.isar_rules.specs.declared.state.Place.{Place}
use Rattle.isar_rules.specs.declared.state.Place.TheVariants as place
use Rattle.isar_rules.specs.Effects.{Effect}
use Rattle.isar_rules.specs.Errors.{Tried, and_then, formula_in}
use Rattle.isar_rules.specs.Forks.{forked_at}
use Rattle.isar_rules.specs.Kept.{errors_in}
use Rattle.isar_rules.specs.Proofs.{Ordered, ordered_command, levels_or, effect_of, stands, proof_made}
use Rattle.isar_rules.specs.Theories.{with_fact}
use Rattle.isar_rules.proofs.KnownTried.{IfTried}
use Rattle.soundness_laws.specs.Facts.{AllFollow}
use Rattle.soundness_laws.proofs.Cutting.{cut}
use Rattle.soundness_laws.proofs.Places.{IsSound, each_added}
use Rattle.soundness_laws.proofs.Judged.{Laws, goal_follows}

pub chained : {A B : Type 0} (Q : B → Type 0) (t : Tried A) (behind : A → Tried B) → ((a : A) → t ≡ Ok a → IfTried Q (behind a)) → IfTried Q (and_then t behind)
chained Q (Ok a) behind each = each a refl
chained Q (Err text) behind each = tt

-- a command is justified, if what `by` closes follows
abbrev Justifies : List Fact → Levels → Ordered → Type 0
Justifies facts levels o = (o.0 ≡ by → GoalFollows facts levels) → IsJustified facts o.0 levels

ordered_just : (facts : List Fact) (s : Shape) (levels : Levels) → IfTried (Justifies facts levels) (ordered_command facts s levels)
ordered_just facts (shape.Proof dash) (Prove goal around) = λ h. tt
ordered_just facts shape.By (Prove goal around) = λ h. h refl
ordered_just facts (shape.Fix x) (State block around) = λ h. refl
ordered_just facts (shape.Assume name quoted) (State block around) = chained _ (formula_in quoted.text) _ (λ f e h. tt)
ordered_just facts (shape.Have name quoted) (State block around) = chained _ (formula_in quoted.text) _ (λ f e h. tt)
ordered_just facts (shape.Show quoted) (State block around) = chained _ (formula_in quoted.text) _ (λ f e h. tt)
ordered_just facts shape.Next (State block around) = λ h. tt
ordered_just facts shape.Qed (State block around) = λ h. tt
ordered_just facts _ _ = tt

levels_ok : (r : Result Levels ProofFault) (after : Levels) → levels_or r ≡ Ok after → r ≡ Ok after
levels_ok (Ok levels) after e = ap (λ t. from t) e
  where
    from : Tried Levels → Result Levels ProofFault
    from (Ok l) = Ok l
    from (Err text) = Ok levels
levels_ok (Err fault) after e = cc

module _ (laws : Laws) (P : Statement → Type 0) where
  abbrev Sound : Effect → Type 0
  Sound e = IsSound P e.place

  pub one_more : (theory : Theory) (name : List ℕ) (f : Formula) → AllFollow P theory.facts → ∥ Follows P (meaning f) ∥₁ → AllFollow P (with_fact name f theory).facts
  one_more theory name f all this = each_added (λ fact. ∥ Follows P (meaning fact.1) ∥₁) _ theory.facts this all

  -- each fact of the list follows
  member_follows : (facts : List Fact) → AllFollow P facts → (g : Statement) → IsFact facts g → ∥ Follows P g ∥₁
  member_follows [] all g m = elim m [ ]
  member_follows (fact ∷ facts) all g m =
      ⊎_elim (λ e. subst (λ h. ∥ Follows P h ∥₁) e all.0) (λ n. member_follows facts all.1 g n) m

  stands_sound : (theory : Theory) (name : List ℕ) (goal : Formula) (levels : Levels) → AllFollow P theory.facts
      → ∥ IsWorth theory.facts goal levels ∥₁ → IsSound P (stands theory name goal levels)
  stands_sound theory name goal Closed all worth =
      one_more theory name goal all (∥∥₁_elim (laws.ends theory.facts goal worth) ∥∥₁_prop (cut (IsFact theory.facts) P (meaning goal) (member_follows theory.facts all)))
  stands_sound theory name goal (Prove inner around) all worth = (all, worth)
  stands_sound theory name goal (State block around) all worth = (all, worth)

  -- a command of a proof, where the fork of a `by` tells no error
  pub proof_sound : (source : List ℕ) (tokens : List Token) (theory : Theory) (name : List ℕ) (goal : Formula) (levels : Levels) (s : Shape)
      → AllFollow P theory.facts → ∥ IsWorth theory.facts goal levels ∥₁
      → ((e : Effect) → proof_made theory name goal levels s ≡ Ok e → e.forks ≡ true
      → errors_in (forked_at source tokens (place.Proof theory name goal levels)) ≡ [])
      → IfTried Sound (proof_made theory name goal levels s)
  proof_sound source tokens theory name goal levels s all worth clean =
      go (ordered_command theory.facts s levels) (ordered_just theory.facts s levels) clean
    where
      then_stands : Ordered → Levels → Effect
      then_stands o after = effect_of o.0 (stands theory name goal after) o.1

      effect_sound : (c : Command) (reports : List Report) (after : Levels) → IsSound P (stands theory name goal after)
          → Sound (effect_of c (stands theory name goal after) reports)
      effect_sound by reports after sound = sound
      effect_sound (proof dash) reports after sound = sound
      effect_sound (fix facts x) reports after sound = sound
      effect_sound (assume n f) reports after sound = sound
      effect_sound (have n f) reports after sound = sound
      effect_sound (show f) reports after sound = sound
      effect_sound next reports after sound = sound
      effect_sound qed reports after sound = sound

      forks_by : (c : Command) (p : Place) (reports : List Report) → c ≡ by → (effect_of c p reports).forks ≡ true
      forks_by c p reports e = subst (λ d. (effect_of d p reports).forks ≡ true) (sym e) refl

      stepped : (o : Ordered) (r : Result Levels ProofFault) → step o.0 levels ≡ r → Justifies theory.facts levels o
          → ((e : Effect) → and_then (levels_or r) (λ after. Ok (then_stands o after)) ≡ Ok e → e.forks ≡ true
          → errors_in (forked_at source tokens (place.Proof theory name goal levels)) ≡ [])
          → IfTried Sound (and_then (levels_or r) (λ after. Ok (then_stands o after)))
      stepped o (Ok after) is just clean =
          effect_sound o.0 o.1 after (stands_sound theory name goal after all
          (laws.kept theory.facts goal o.0 levels after worth
          (just (λ e. goal_follows laws source tokens theory name goal levels (clean (then_stands o after) refl (forks_by o.0 _ o.1 e)))) is))
      stepped o (Err fault) is just clean = tt

      go : (t : Tried Ordered) → IfTried (Justifies theory.facts levels) t
          → ((e : Effect) → and_then t (λ o. and_then (levels_or (step o.0 levels)) (λ after. Ok (then_stands o after))) ≡ Ok e → e.forks ≡ true
          → errors_in (forked_at source tokens (place.Proof theory name goal levels)) ≡ [])
          → IfTried Sound (and_then t (λ o. and_then (levels_or (step o.0 levels)) (λ after. Ok (then_stands o after))))
      go (Ok o) just clean = stepped o (step o.0 levels) refl just clean
      go (Err text) just clean = tt
