-- A command of a proof adds the lemma where it closes its last goal, and each command adds what it
-- states.
use Rattle.std.proofs.Common.{if◌then◌else◌, ◌≡◌, ℕ, Bool, List, [], ◌∷◌, ◌++◌, Option, Some, None, Ok, Err, refl, sym, ap, ap₂, subst, ◌∙◌}
use Rattle.nj_formula.specs.declared.formula.Formula.{Formula}
use Rattle.proof_state.specs.declared.levels.Levels.{Levels}
use Rattle.proof_state.specs.declared.levels.Levels.TheVariants.{Closed, Prove, State}
use Rattle.proof_state.specs.Steps.{step, proof}
use Rattle.isar_rules.specs.declared.shape.Shape.{Shape}
use Rattle.isar_rules.specs.declared.shape.Shape.TheVariants as shape
use Rattle.isar_rules.specs.declared.state.Theory.{Theory}
use Rattle.isar_rules.specs.declared.state.Place.{Place}
use Rattle.isar_rules.specs.declared.state.Place.TheVariants as place
use Rattle.isar_rules.specs.BlobLines.{Listed}
use Rattle.isar_rules.specs.Errors.{Tried, and_then}
use Rattle.isar_rules.specs.Proofs.{Ordered, ordered_command, levels_or, effect_of, stands, proof_made}
use Rattle.isar_rules.specs.Steps.{acted, tried}
use Rattle.isar_rules.proofs.KnownTried.{IfTried}
use Rattle.soundness_laws.specs.Stated.{are_closed}
use Rattle.soundness_laws.proofs.Goals.{open_goals, Counted, counted, closes_on, made_at}
use Rattle.soundness_laws.proofs.Grown.{fact_more, fact_sorted}
use Rattle.soundness_laws.proofs.Adding.{Adds, AddsAt, before_at, after_at, still, Goes}
use Rattle.soundness_laws.proofs.Added.{axiom_adds, lemma_adds, load_adds}

module _ (node : List ℕ) (later : List Shape) (rest : List Listed) (blob : Option (List ℕ)) where
  module _ (theory : Theory) (name : List ℕ) (goal : Formula) (levels : Levels) (s : Shape) (goes : Goes node (place.Proof theory name goal levels)) where
    abbrev old : Place
    old = place.Proof theory name goal levels

    abbrev lemma_if : Bool → List Listed
    lemma_if b = if b then (name, goal) ∷ [] else []

    split : (after : Levels) → Counted later blob s levels after → before_at node later rest blob old (Some s) ≡ lemma_if (are_closed (open_goals after) later) ++ rest
    split after c = ap₂ (λ b xs. lemma_if b ++ (xs ++ rest)) (closes_on later blob s levels goes.2 ∙ ap (λ n. are_closed n later) (sym c.0)) c.1

    adds : (after : Levels) → Counted later blob s levels after → Adds node old (stands theory name goal after) (before_at node later rest blob old (Some s)) (after_at node later rest blob (stands theory name goal after))
    adds Closed c = record {
      goes = goes.0;
      more = (name, goal) ∷ [];
      grows = fact_more node name goal theory goes.0 goes.1;
      sorted = fact_sorted name goal theory;
      split = split Closed c;
    }
    adds (Prove inner around) c = still node later rest blob old (place.Proof theory name goal (Prove inner around)) (before_at node later rest blob old (Some s)) (goes.0, goes.1, tt) refl (split (Prove inner around) c)
    adds (State block around) c = still node later rest blob old (place.Proof theory name goal (State block around)) (before_at node later rest blob old (Some s)) (goes.0, goes.1, tt) refl (split (State block around) c)

    stepped : (o : Ordered) (r : Tried Levels) → IfTried (Counted later blob s levels) r
        → IfTried (AddsAt node later rest blob old (Some s)) (and_then r (λ after. Ok (effect_of o.0 (stands theory name goal after) o.1)))
    stepped o (Ok after) c = subst (λ p. Adds node old p (before_at node later rest blob old (Some s)) (after_at node later rest blob p)) (sym (made_at o.0 (stands theory name goal after) o.1)) (adds after c)
    stepped o (Err text) c = tt

    proof_adds : IfTried (AddsAt node later rest blob old (Some s)) (proof_made theory name goal levels s)
    proof_adds = go (ordered_command theory.facts s levels)
        (counted later blob theory.facts s levels)
      where
        go : (t : Tried Ordered) → IfTried (λ o. IfTried (Counted later blob s levels) (levels_or (step o.0 levels))) t
            → IfTried (AddsAt node later rest blob old (Some s)) (and_then t (λ o. and_then (levels_or (step o.0 levels)) (λ after. Ok (effect_of o.0 (stands theory name goal after) o.1))))
        go (Ok o) c = stepped o (levels_or (step o.0 levels)) c
        go (Err text) c = tt

  acted_adds : (p : Place) (s : Shape) → Goes node p → IfTried (AddsAt node later rest blob p (Some s)) (acted blob p s)
  acted_adds (place.Theory theory) shape.End goes = still node later rest blob (place.Theory theory) (place.End theory) _ goes refl refl
  acted_adds (place.Theory theory) (shape.Axiom name quoted) goes = axiom_adds node later rest blob theory name quoted goes
  acted_adds (place.Theory theory) (shape.Lemma name quoted) goes = lemma_adds node later rest blob theory name quoted goes
  acted_adds (place.Theory theory) (shape.Load name) goes = load_adds node later rest blob theory name goes
  acted_adds (place.Proof theory name goal levels) s goes = proof_adds theory name goal levels s goes
  acted_adds (place.Start n given keyword) s goes = absurd goes
  acted_adds place.Outside s goes = absurd goes
  acted_adds _ _ goes = tt

  -- a command in or behind a theory
  pub tried_adds : (p : Place) (o : Option Shape) → Goes node p → IfTried (AddsAt node later rest blob p o) (tried blob p o)
  tried_adds p None goes = tt
  tried_adds p (Some s) goes = acted_adds p s goes
