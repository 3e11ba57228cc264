-- Nodes of a document one after the other: each rests on its own axioms and on those of its imports.
use Rattle.std.proofs.Common.{◌≡◌, ℕ, Bool, true, false, List, [], ◌∷◌, Option, Some, None, refl, sym, subst, inl, inr}
use Rattle.std.proofs.lemmas.Bool.{eqb-true}
use Rattle.std.specs.Prelude.{◌==◌, cond, find, filter_map, is_none, slice_get, IfSome}
use Rattle.std.specs.Option.{option_map, option_map_or, option_and_then}
use Rattle.std.specs.List.{AllByRecursion, cons_option}
use Rattle.nj_formula.specs.Statement.{Statement}
use Rattle.shared_map.specs.Pairs.{Each}
use Rattle.theory_ctx.specs.Facts.{Fact}
use Rattle.doc_nodes.specs.declared.node.Node.{Node}
use Rattle.doc_nodes.specs.Imports.{NodeList, place_of, is_bad, order}
use Rattle.exec_rules.specs.Kept.{BlobList}
use Rattle.language.specs.declared.made.Imported.{Imported}
use Rattle.core_rules.specs.Scratch.{Run, Runs, final, final_at, import_run, imports_run, begins_at, run_node, run_one, run_all, scratch}
use Rattle.isar_rules.specs.declared.state.State.{State}
use Rattle.isar_rules.specs.Isar.{isar}
use Rattle.isar_rules.specs.Starts.{facts_at, imported_facts, imports_given, given_from}
use Rattle.soundness_laws.specs.Clean.{AreClean}
use Rattle.soundness_laws.specs.Facts.{AllFollow, FactsFollow}
use Rattle.soundness_laws.specs.Imports.{IsListed, Needs, itself, imports, IsAxiomAmong, AreCleanFrom, IsAxiomFrom}
use Rattle.soundness_laws.proofs.Needed.{clean_below, axiom_above, facts_into}
use Rattle.soundness_laws.proofs.Places.{GivenFollow, facts_follow, each_merged}
use Rattle.soundness_laws.proofs.Judged.{Laws}
use Rattle.soundness_laws.proofs.Running.{run_sound}

abbrev One : Type 0
One = ℕ × Run State

abbrev named : List ℕ → State → Imported State
named name state = record { name = name; state = state }

-- what imports give together
module _ (P : Statement → Type 0) where
  parts_follow : (all : List (Imported State)) → AllByRecursion (λ i. FactsFollow P i.state) all → Each (AllFollow P) (filter_map imported_facts all)
  parts_follow [] follow = tt
  parts_follow (i ∷ all) follow = go (parts_follow all follow.1) (facts_at i.state.place) follow.0
    where
      go : Each (AllFollow P) (filter_map imported_facts all) → (o : Option (List Fact)) → IfSome o (AllFollow P) → Each (AllFollow P) (cons_option o (filter_map imported_facts all))
      go rest None here = rest
      go rest (Some facts) here = (here, rest)

  pub given_follow : (all : List (Imported State)) → AllByRecursion (λ i. FactsFollow P i.state) all → GivenFollow P (imports_given all (find (λ i. is_none (imported_facts i)) all))
  given_follow all follow = go (find (λ i. is_none (imported_facts i)) all)
    where
      go : (o : Option (Imported State)) → GivenFollow P (imports_given all o)
      go None = each_merged _ (filter_map imported_facts all) (parts_follow all follow)
      go (Some bad) = tt

found_at : (G : One → Type 0) (q : ℕ) (runs : Runs State) → AllByRecursion G runs → IfSome (find (λ one. one.0 == q) runs) (λ one. (one.0 ≡ q) × G one)
found_at G q [] all = tt
found_at G q (one ∷ runs) all = go (found_at G q runs all.1) (one.0 == q) refl
  where
    go : IfSome (find (λ o. o.0 == q) runs) (λ o. (o.0 ≡ q) × G o) → (b : Bool) → (one.0 == q) ≡ b → IfSome (cond b (Some one) (find (λ o. o.0 == q) runs)) (λ o. (o.0 ≡ q) × G o)
    go rest true e = (eqb-true one.0 q e, all.0)
    go rest false e = rest

module _ (laws : Laws) (nodes : NodeList) (blobs : BlobList) where
  -- a node with its imports reports no error, so its facts follow
  abbrev pub IsGood : One → Type 0
  IsGood one = AreCleanFrom nodes blobs one.0 → FactsFollow (IsAxiomFrom nodes blobs one.0) (final isar one.1)

  abbrev more_runs : Runs State → ℕ → Option (List ℕ × Node) → Runs State
  more_runs runs p o = option_map_or (λ pair. (p, run_node isar pair.1 blobs (begins_at isar nodes runs p pair)) ∷ runs) o runs

  -- what holds of all nodes at last holds of those that are done so far
  so_far : (Q : One → Type 0) (ps : List ℕ) (runs : Runs State) → AllByRecursion Q (run_all isar nodes blobs ps runs) → AllByRecursion Q runs
  so_far Q [] runs all = all
  so_far Q (p ∷ ps) runs all = one (slice_get nodes p) (so_far Q ps (run_one isar nodes blobs runs p) all)
    where
      one : (o : Option (List ℕ × Node)) → AllByRecursion Q (more_runs runs p o) → AllByRecursion Q runs
      one None all = all
      one (Some pair) all = all.1

  -- an axiom of a node that is done stays one
  at_last : (p : ℕ) (f : Statement) (ps : List ℕ) (runs : Runs State) → IsAxiomAmong nodes p runs f → IsAxiomAmong nodes p (run_all isar nodes blobs ps runs) f
  at_last p f [] runs m = m
  at_last p f (q ∷ ps) runs m = at_last p f ps (run_one isar nodes blobs runs q) (one (slice_get nodes q))
    where
      one : (o : Option (List ℕ × Node)) → IsAxiomAmong nodes p (more_runs runs q o) f
      one None = m
      one (Some pair) = inr m

  module _ (p : ℕ) (pair : List ℕ × Node) (at : slice_get nodes p ≡ Some pair) (runs : Runs State) (good : AllByRecursion IsGood runs)
      (clean : AreCleanFrom nodes blobs p) where
    import_follows : (name : List ℕ) → IsListed pair.1.imports name
        → IfSome (import_run isar nodes runs name) (λ i. FactsFollow (IsAxiomFrom nodes blobs p) i.state)
    import_follows name listed = placed (place_of nodes name) refl
      where
        follows : (q : ℕ) → Needs nodes p q → (o : Option One) → IfSome o (λ one. (one.0 ≡ q) × IsGood one)
            → IfSome (option_map (named name) (option_map (λ one. final isar one.1) o))
            (λ i. FactsFollow (IsAxiomFrom nodes blobs p) i.state)
        follows q needs None found = tt
        follows q needs (Some one) found =
            let there : Needs nodes p one.0 = subst (Needs nodes p) (sym found.0) needs in
            facts_into (IsAxiomFrom nodes blobs one.0) (IsAxiomFrom nodes blobs p)
            (axiom_above nodes p one.0 there (scratch isar nodes blobs)) (final isar one.1)
            (found.1 (clean_below nodes p one.0 there (scratch isar nodes blobs) clean))

        placed : (o : Option ℕ) → place_of nodes name ≡ o
            → IfSome (option_map (named name) (option_and_then (final_at isar runs) o))
            (λ i. FactsFollow (IsAxiomFrom nodes blobs p) i.state)
        placed None e = tt
        placed (Some q) e = follows q (imports pair name at listed e itself) (find (λ one. one.0 == q) runs) (found_at IsGood q runs good)

    imports_follow : (names : List (List ℕ)) → ((n : List ℕ) → IsListed names n → IsListed pair.1.imports n)
        → AllByRecursion (λ i. FactsFollow (IsAxiomFrom nodes blobs p) i.state) (filter_map (import_run isar nodes runs) names)
    imports_follow [] within = tt
    imports_follow (name ∷ names) within = go (imports_follow names (λ n m. within n (inr m))) (import_run isar nodes runs name) (import_follows name (within name (inl refl)))
      where
        go : AllByRecursion (λ i. FactsFollow (IsAxiomFrom nodes blobs p) i.state) (filter_map (import_run isar nodes runs) names)
            → (o : Option (Imported State)) → IfSome o (λ i. FactsFollow (IsAxiomFrom nodes blobs p) i.state)
            → AllByRecursion (λ i. FactsFollow (IsAxiomFrom nodes blobs p) i.state) (cons_option o (filter_map (import_run isar nodes runs) names))
        go rest None here = rest
        go rest (Some i) here = (here, rest)

    start_sound : (o : Option (List ℕ)) → GivenFollow (IsAxiomFrom nodes blobs p) (given_from (imports_run isar nodes runs pair.1.imports o))
    start_sound None = given_follow (IsAxiomFrom nodes blobs p) _ (imports_follow pair.1.imports (λ n m. m))
    start_sound (Some name) = tt

  good_one : (p : ℕ) (pair : List ℕ × Node) → slice_get nodes p ≡ Some pair → (ps : List ℕ) (runs : Runs State)
      → scratch isar nodes blobs ≡ run_all isar nodes blobs ps (more_runs runs p (Some pair)) → AllByRecursion IsGood runs
      → IsGood (p, run_node isar pair.1 blobs (begins_at isar nodes runs p pair))
  good_one p pair at ps runs e good clean =
      facts_follow (IsAxiomFrom nodes blobs p) (final isar (run_node isar pair.1 blobs (begins_at isar nodes runs p pair)))
      (run_sound laws (IsAxiomFrom nodes blobs p) pair.1 blobs pair.1.entries (begins_at isar nodes runs p pair)
      (start_sound p pair at runs good clean (find (is_bad nodes) pair.1.imports))
      ((so_far (λ one. Needs nodes p one.0 → AreClean one.1.commands) ps (more_runs runs p (Some pair))
      (subst (AllByRecursion (λ one. Needs nodes p one.0 → AreClean one.1.commands)) e clean)).0 itself)
      (λ g m. subst (λ all. IsAxiomAmong nodes p all g) (sym e) (at_last p g ps (more_runs runs p (Some pair)) (inl (itself, m)))))

  all_good : (ps : List ℕ) (runs : Runs State) → scratch isar nodes blobs ≡ run_all isar nodes blobs ps runs → AllByRecursion IsGood runs
      → AllByRecursion IsGood (run_all isar nodes blobs ps runs)
  all_good [] runs e good = good
  all_good (p ∷ ps) runs e good = go (all_good ps) (slice_get nodes p) refl e
    where
      go : ((more : Runs State) → scratch isar nodes blobs ≡ run_all isar nodes blobs ps more → AllByRecursion IsGood more
          → AllByRecursion IsGood (run_all isar nodes blobs ps more))
          → (o : Option (List ℕ × Node)) → slice_get nodes p ≡ o → scratch isar nodes blobs ≡ run_all isar nodes blobs ps (more_runs runs p o)
          → AllByRecursion IsGood (run_all isar nodes blobs ps (more_runs runs p o))
      go rest None at e = rest runs e good
      go rest (Some pair) at e = rest _ e (good_one p pair at ps runs e good, good)

  pub document_sound : AllByRecursion IsGood (scratch isar nodes blobs)
  document_sound = all_good (order nodes) [] refl tt
