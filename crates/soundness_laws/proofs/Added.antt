-- What axioms, lemmas and blobs add to the facts of a theory.
use Rattle.std.proofs.Common.{if◌then◌else◌, ◌≡◌, ℕ, Bool, true, false, List, [], ◌∷◌, ◌++◌, Option, Some, None, Result, Ok, Err, refl}
use Rattle.std.specs.Option.{option_map_or}
use Rattle.nj_formula.specs.declared.formula.Formula.{Formula}
use Rattle.shared_map.specs.Pairs.{IsSorted}
use Rattle.theory_ctx.specs.Order.{by_name}
use Rattle.proof_state.specs.declared.levels.Levels.TheVariants.{Prove}
use Rattle.isar_rules.specs.declared.shape.Shape.{Shape}
use Rattle.isar_rules.specs.declared.shape.Shape.TheVariants as shape
use Rattle.isar_rules.specs.declared.shape.Spot.{Spot}
use Rattle.isar_rules.specs.declared.state.Theory.{Theory}
use Rattle.isar_rules.specs.declared.state.Place.TheVariants as place
use Rattle.isar_rules.specs.BlobLines.{Listed, listed_facts}
use Rattle.isar_rules.specs.Effects.{makes}
use Rattle.isar_rules.specs.Errors.{Tried, and_then, formula_in, name_taken}
use Rattle.isar_rules.specs.Loads.{load_made, with_all, facts_or_bad_line as listed_or, loaded}
use Rattle.isar_rules.specs.Reports.{def_report, formula_report}
use Rattle.isar_rules.specs.Theories.{with_fact, has_fact, axiom_made, lemma_made}
use Rattle.isar_rules.proofs.KnownTried.{IfTried}
use Rattle.soundness_laws.specs.Stated.{are_closed, stated_fact, lines_in}
use Rattle.soundness_laws.proofs.Grown.{Grows, no_more, and_more, fact_more, fact_sorted}
use Rattle.soundness_laws.proofs.Adding.{Adds, AddsAt, after_at, still, tried_so}

module _ (node : List ℕ) (later : List Shape) (rest : List Listed) (blob : Option (List ℕ)) where
  pub axiom_adds : (theory : Theory) (name quoted : Spot) → theory.name ≡ node → IfTried (AddsAt node later rest blob (place.Theory theory) (Some (shape.Axiom name quoted))) (axiom_made theory name quoted)
  axiom_adds theory name quoted own = go (formula_in quoted.text)
    where
      checked : (f : Formula) (b : Bool) → has_fact name.text theory ≡ b
          → IfTried (λ e. Adds node (place.Theory theory) e.place ((name.text, f) ∷ rest) (after_at node later rest blob e.place))
          (if b then Err (name_taken name.text) else Ok (makes (place.Theory (with_fact name.text f theory)) (def_report theory.name name ∷ formula_report quoted f ∷ [])))
      checked f true e = tt
      checked f false e = record {
        goes = own;
        more = (name.text, f) ∷ [];
        grows = fact_more node name.text f theory own e;
        sorted = fact_sorted name.text f theory;
        split = refl;
      }

      go : (t : Tried Formula) → IfTried (λ e. Adds node (place.Theory theory) e.place (stated_fact name.text t ++ rest) (after_at node later rest blob e.place))
          (and_then t (λ f. if has_fact name.text theory then Err (name_taken name.text)
          else Ok (makes (place.Theory (with_fact name.text f theory)) (def_report theory.name name ∷ formula_report quoted f ∷ []))))
      go (Ok f) = checked f (has_fact name.text theory) refl
      go (Err text) = tt

  pub lemma_adds : (theory : Theory) (name quoted : Spot) → theory.name ≡ node → IfTried (AddsAt node later rest blob (place.Theory theory) (Some (shape.Lemma name quoted))) (lemma_made theory name quoted)
  lemma_adds theory name quoted own = go (formula_in quoted.text)
    where
      checked : (f : Formula) (b : Bool) → has_fact name.text theory ≡ b
          → IfTried (λ e. Adds node (place.Theory theory) e.place ((if are_closed 1 later then (name.text, f) ∷ [] else []) ++ rest) (after_at node later rest blob e.place))
          (if b then Err (name_taken name.text) else Ok (makes (place.Proof theory name.text f (Prove f [])) (def_report theory.name name ∷ formula_report quoted f ∷ [])))
      checked f true e = tt
      checked f false e = still node later rest blob (place.Theory theory) (place.Proof theory name.text f (Prove f [])) _ (own, e, tt) refl refl

      go : (t : Tried Formula) → IfTried (λ e. Adds node (place.Theory theory) e.place ((if are_closed 1 later then stated_fact name.text t else []) ++ rest) (after_at node later rest blob e.place))
          (and_then t (λ f. if has_fact name.text theory then Err (name_taken name.text)
          else Ok (makes (place.Proof theory name.text f (Prove f [])) (def_report theory.name name ∷ formula_report quoted f ∷ []))))
      go (Ok f) = checked f (has_fact name.text theory) refl
      go (Err text) = tt

  -- the lines of a blob
  abbrev Lines : Theory → List Listed → Theory → Type 0
  Lines theory facts all = (all.name ≡ node) × Grows node theory.facts facts all.facts × (IsSorted by_name theory.facts → IsSorted by_name all.facts)

  lines_add : (theory : Theory) (facts : List Listed) → theory.name ≡ node → IfTried (Lines theory facts) (with_all theory facts)
  lines_add theory [] own = (own, no_more node theory.facts, λ s. s)
  lines_add theory (fact ∷ facts) own = go (has_fact fact.0 theory) refl (lines_add (with_fact fact.0 fact.1 theory) facts own)
    where
      go : (b : Bool) → has_fact fact.0 theory ≡ b → IfTried (Lines (with_fact fact.0 fact.1 theory) facts) (with_all (with_fact fact.0 fact.1 theory) facts)
          → IfTried (Lines theory (fact ∷ facts)) (if b then Err (name_taken fact.0) else with_all (with_fact fact.0 fact.1 theory) facts)
      go true e all = tt
      go false e all = tried_so (Lines (with_fact fact.0 fact.1 theory) facts) (Lines theory (fact ∷ facts)) (with_all (with_fact fact.0 fact.1 theory) facts)
          (λ m l. (
            l.0,
            and_more node theory.facts (fact ∷ []) (with_fact fact.0 fact.1 theory).facts facts m.facts (fact_more node fact.0 fact.1 theory own e) l.1,
            λ s. l.2 (fact_sorted fact.0 fact.1 theory s),
          )) all

  pub load_adds : (theory : Theory) (name : Spot) → theory.name ≡ node → IfTried (AddsAt node later rest blob (place.Theory theory) (Some (shape.Load name))) (load_made blob theory name)
  load_adds theory name own = go blob
    where
      ended : (facts : List Listed) (t : Tried Theory) → IfTried (Lines theory facts) t
          → IfTried (λ e. Adds node (place.Theory theory) e.place (facts ++ rest) (after_at node later rest blob e.place)) (and_then t (λ more. Ok (loaded name facts more)))
      ended facts (Ok all) l = record { goes = l.0; more = facts; grows = l.1; sorted = l.2; split = refl }
      ended facts (Err text) l = tt

      lines : (r : Result (List Listed) ℕ) → IfTried (λ e. Adds node (place.Theory theory) e.place (lines_in r ++ rest) (after_at node later rest blob e.place))
          (and_then (listed_or r) (λ facts. and_then (with_all theory facts) (λ more. Ok (loaded name facts more))))
      lines (Ok facts) = ended facts (with_all theory facts) (lines_add theory facts own)
      lines (Err line) = tt

      go : (o : Option (List ℕ)) → IfTried (λ e. Adds node (place.Theory theory) e.place (option_map_or (λ text. lines_in (listed_facts text)) o [] ++ rest) (after_at node later rest blob e.place)) (load_made o theory name)
      go None = tt
      go (Some text) = lines (listed_facts text)
