-- Each command keeps that what may be cited can be written.
use Rattle.std.proofs.Common.{ℕ, Bool, true, false, cond, List, [], ◌∷◌, map, Option, Some, None, IfSome, Ok, Err}
use Rattle.std.specs.Prelude.{⊤, Result}
use Rattle.nj_formula.specs.declared.formula.Formula.{Formula}
use Rattle.nj_syntax.specs.Readable.{IsReadable}
use Rattle.theory_ctx.specs.Facts.{Fact}
use Rattle.outer_syntax.specs.declared.token.Token.{Token}
use Rattle.proof_state.specs.declared.levels.Levels.TheVariants.{Prove}
use Rattle.doc_nodes.specs.Names.{equal}
use Rattle.doc_nodes.specs.Needs.{AliasList, source_tokens}
use Rattle.isar_rules.specs.declared.shape.Shape.{Shape}
use Rattle.isar_rules.specs.declared.shape.Shape.TheVariants as shape
use Rattle.isar_rules.specs.declared.shape.Spot.{Spot}
use Rattle.isar_rules.specs.declared.state.Given.{Given}
use Rattle.isar_rules.specs.declared.state.Theory.{Theory}
use Rattle.isar_rules.specs.declared.state.State.{State}
use Rattle.isar_rules.specs.declared.state.Place.{Place}
use Rattle.isar_rules.specs.declared.state.Place.TheVariants as place
use Rattle.isar_rules.specs.BlobLines.{Listed, listed_facts}
use Rattle.isar_rules.specs.Effects.{Effect, makes}
use Rattle.isar_rules.specs.Errors.{Tried, and_then, formula_in, name_differs, name_taken}
use Rattle.isar_rules.specs.Loads.{load_made, with_all, facts_or_bad_line as listed_or, loaded}
use Rattle.isar_rules.specs.Reports.{def_report, formula_report}
use Rattle.isar_rules.specs.Shapes.{shape_of}
use Rattle.isar_rules.specs.Steps.{acted, tried, made_effect, after_error, aliases_at, step}
use Rattle.isar_rules.specs.Theories.{facts_or_bad_import, begins, beginning_effect, has_fact, stated_effect, with_fact}
use Rattle.isar_rules.proofs.KnownTried.{IfTried, chained, always}
use Rattle.soundness_laws.specs.CitableStates.{CitablePlace, alias_names, IsCitableState}
use Rattle.soundness_laws.proofs.ChainedTries.{in_readable}
use Rattle.soundness_laws.proofs.CitableOrders.{proof_citable}
use Rattle.soundness_laws.proofs.FreeShapes.{ShapeFree, shape_free}
use Rattle.soundness_laws.proofs.FreeTokens.{tokens_free}

module _ (aliases : List (List ℕ)) where
  abbrev Citable : Effect → Type 0
  Citable e = CitablePlace aliases e.place

  begun_citable : (node : List ℕ) (given : Given) (keyword : Option (List ℕ)) (name : Spot) (imports : List Spot) → IfTried Citable (beginning_effect node given keyword name imports)
  begun_citable node given keyword name imports = go (equal name.text node)
    where
      began : (k : Option (List ℕ)) (facts : List Fact) → IfTried Citable (begins name imports k facts)
      began (Some k) facts = tt
      began None facts = tt

      go : (b : Bool) → IfTried Citable (cond b (and_then (facts_or_bad_import given) (begins name imports keyword)) (Err name_differs))
      go true = chained (λ _. ⊤) Citable (facts_or_bad_import given) (begins name imports keyword) (always (facts_or_bad_import given)) (λ facts h. began keyword facts)
      go false = tt

  stated_citable : (next : Formula → Place) (theory : Theory) (name quoted : Spot) → ((f : Formula) → IsReadable f → CitablePlace aliases (next f)) → IfTried Citable (stated_effect next theory name quoted)
  stated_citable next theory name quoted each =
      chained IsReadable Citable (formula_in quoted.text) _ (in_readable quoted.text) (λ f readable. go f (each f readable) (has_fact name.text theory))
    where
      go : (f : Formula) → CitablePlace aliases (next f) → (b : Bool)
          → IfTried Citable (cond b (Err (name_taken name.text)) (Ok (makes (next f) (def_report theory.name name ∷ formula_report quoted f ∷ []))))
      go f citable true = tt
      go f citable false = citable

  load_citable : (blob : Option (List ℕ)) (theory : Theory) (name : Spot) → IfTried Citable (load_made blob theory name)
  load_citable None theory name = tt
  load_citable (Some text) theory name = go (listed_facts text)
    where
      go : (r : Result (List Listed) ℕ) → IfTried Citable (and_then (listed_or r) (λ facts. and_then (with_all theory facts) (λ more. Ok (loaded name facts more))))
      go (Ok facts) = chained (λ _. ⊤) Citable (with_all theory facts) _ (always (with_all theory facts)) (λ more h. tt)
      go (Err line) = tt

  -- the names in a shape are free where a proof is worked on
  abbrev FreeAt : Place → Shape → Type 0
  FreeAt (place.Proof theory name goal levels) s = ShapeFree aliases s
  FreeAt _ s = ⊤

  acted_citable : (blob : Option (List ℕ)) (p : Place) (s : Shape) → CitablePlace aliases p → FreeAt p s → IfTried Citable (acted blob p s)
  acted_citable blob (place.Start node given keyword) (shape.Theory name imports) citable free = begun_citable node given keyword name imports
  acted_citable blob (place.Theory theory) shape.End citable free = tt
  acted_citable blob (place.Theory theory) (shape.Axiom name quoted) citable free = stated_citable (λ f. place.Theory (with_fact name.text f theory)) theory name quoted (λ f readable. tt)
  acted_citable blob (place.Theory theory) (shape.Lemma name quoted) citable free = stated_citable (λ f. place.Proof theory name.text f (Prove f [])) theory name quoted (λ f readable. (readable, tt))
  acted_citable blob (place.Theory theory) (shape.Load name) citable free = load_citable blob theory name
  acted_citable blob (place.Proof theory name goal levels) s citable free = proof_citable aliases theory name goal levels s citable free
  acted_citable blob _ _ citable free = tt

  tried_citable : (blob : Option (List ℕ)) (p : Place) (s : Option Shape) → CitablePlace aliases p → IfSome s (FreeAt p) → IfTried Citable (tried blob p s)
  tried_citable blob p None citable free = tt
  tried_citable blob p (Some s) citable free = acted_citable blob p s citable free

  error_citable : (p : Place) → CitablePlace aliases p → CitablePlace aliases (after_error p)
  error_citable (place.Start node given keyword) citable = tt
  error_citable place.Outside citable = tt
  error_citable (place.Theory theory) citable = tt
  error_citable (place.Proof theory name goal levels) citable = citable
  error_citable (place.End theory) citable = tt

  nothing : (s : Option Shape) → IfSome s (λ _. ⊤)
  nothing None = tt
  nothing (Some s) = tt

made_citable : (source : List ℕ) (tokens : List Token) (before : State) (t : Tried Effect) → IsCitableState before → IfTried (Citable (alias_names before)) t
    → IsCitableState (made_effect source tokens before t).state
made_citable source tokens before (Ok e) citable next = next
made_citable source tokens before (Err text) citable next = error_citable (alias_names before) before.place citable

free_at : (p : Place) (all : AliasList) (source : List ℕ)
    → IfSome (shape_of (aliases_at p all) source (source_tokens (aliases_at p all) source)) (FreeAt (map (λ pair. pair.0) all) p)
free_at (place.Proof theory name goal levels) all source = shape_free (map (λ pair. pair.0) all) all source _ (tokens_free (map (λ pair. pair.0) all) source)
free_at (place.Start node given keyword) all source = nothing [] _
free_at place.Outside all source = nothing [] _
free_at (place.Theory theory) all source = nothing [] _
free_at (place.End theory) all source = nothing [] _

pub step_citable : (source : List ℕ) (blob : Option (List ℕ)) (before : State) → IsCitableState before → IsCitableState (step source blob before).state
step_citable source blob before citable =
    let aliases = aliases_at before.place before.aliases in
    let tokens = source_tokens aliases source in
    made_citable source tokens before (tried blob before.place (shape_of aliases source tokens)) citable
    (tried_citable (alias_names before) blob before.place (shape_of aliases source tokens) citable (free_at before.place before.aliases source))
