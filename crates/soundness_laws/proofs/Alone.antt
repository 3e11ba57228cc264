-- The only node of a document: it has no import that is ordered, so it rests on its own axioms.
use Rattle.std.proofs.Common.{◌≡◌, ℕ, ◌<◌, zero, suc, Bool, true, false, List, [], ◌∷◌, ◌++◌, length, Option, Some, None, refl, sym, ◌∙◌, ap, subst, arith}
use Rattle.std.proofs.lemmas.Bool.{eqb-true, false≢true}
use Rattle.std.specs.Prelude.{◌==◌, ◌||◌, not, cond, find, map}
use Rattle.std.specs.List.{AllByRecursion, list_all}
use Rattle.std.specs.Cmp.{first_so}
use Rattle.nj_formula.specs.Statement.{Statement}
use Rattle.text_words.specs.Members.{has}
use Rattle.doc_nodes.specs.Rounds.{is_known, in_rounds}
use Rattle.doc_nodes.specs.Looks.{aims_at}
use Rattle.doc_nodes.specs.declared.node.Node.{Node}
use Rattle.doc_nodes.specs.Imports.{NodeList, place_of, aims, ordered_places, is_bad, order}
use Rattle.exec_rules.specs.Kept.{BlobList}
use Rattle.core_rules.specs.Scratch.{Run, Runs, final, imports_run, begins_at, run_node, run_all, scratch}
use Rattle.isar_rules.specs.declared.state.State.{State}
use Rattle.isar_rules.specs.Isar.{isar}
use Rattle.isar_rules.specs.Starts.{given_from}
use Rattle.soundness_laws.specs.Clean.{AreClean}
use Rattle.soundness_laws.specs.Axioms.{IsAxiomOf}
use Rattle.soundness_laws.specs.Facts.{FactsFollow}
use Rattle.soundness_laws.proofs.Judged.{Laws}
use Rattle.soundness_laws.proofs.Places.{GivenFollow, facts_follow}
use Rattle.soundness_laws.proofs.Running.{run_sound}

-- what the order of imports keeps
pub record Rounds : Type 0 where
  pub nodes : (rows : List (List (Option ℕ))) (p : ℕ) → has (in_rounds rows) p ≡ true → p < length rows
  pub behind : (rows : List (List (Option ℕ))) (front rest : List ℕ) (p : ℕ) → in_rounds rows ≡ front ++ p ∷ rest
      → list_all (is_known front) (aims_at rows p) ≡ true

-- a place in a list, and what stands before its first one
record First (all : List ℕ) (p : ℕ) : Type 0 where
  front : List ℕ
  rest : List ℕ
  is : all ≡ front ++ p ∷ rest
  absent : has front p ≡ false

first : (all : List ℕ) (p : ℕ) → has all p ≡ true → First all p
first [] p e = absurd (false≢true e)
first (q ∷ all) p e = go (first all p) (p == q) refl e
  where
    more : (p == q) ≡ false → First all p → First (q ∷ all) p
    more d f = record {
      front = q ∷ f.front;
      rest = f.rest;
      is = ap (λ l. q ∷ l) f.is;
      absent = subst (λ b. (b || has f.front p) ≡ false) (sym d) f.absent;
    }

    go : (has all p ≡ true → First all p) → (b : Bool) → (p == q) ≡ b → (b || has all p) ≡ true → First (q ∷ all) p
    go later true d e = record { front = []; rest = all; is = ap (λ r. r ∷ all) (sym (eqb-true p q d)); absent = refl }
    go later false d e = more d (later e)

module _ (laws : Laws) (rounds : Rounds) (name : List ℕ) (node : Node) (blobs : BlobList) where
  abbrev nodes : NodeList
  nodes = (name, node) ∷ []

  unordered : (n : List ℕ) (more : List (List ℕ)) → node.imports ≡ n ∷ more → (o : Option ℕ) → place_of nodes n ≡ o → is_known (ordered_places nodes) o ≡ true → ⊥
  unordered n more is None at e = false≢true e
  unordered n more is (Some q) at e =
      let f = first (ordered_places nodes) q e in
      let within : q < 1 = rounds.nodes (aims nodes) q e in
      let none : q ≡ 0 = omega (arith, within) in
      let all : list_all (is_known f.front) (aims_at (aims nodes) 0) ≡ true =
      subst (λ k. list_all (is_known f.front) (aims_at (aims nodes) k) ≡ true) none (rounds.behind (aims nodes) f.front f.rest q f.is) in
      let here : list_all (is_known f.front) (map (place_of nodes) (n ∷ more)) ≡ true =
      subst (λ l. list_all (is_known f.front) (map (place_of nodes) l) ≡ true) is all in
      let known : is_known f.front (Some q) ≡ true = subst (λ o. is_known f.front o ≡ true) at (first_so (is_known f.front (place_of nodes n)) _ here) in
      false≢true (sym f.absent ∙ known)

  bad : (n : List ℕ) (more : List (List ℕ)) → node.imports ≡ n ∷ more → is_bad nodes n ≡ true
  bad n more is = go (is_known (ordered_places nodes) (place_of nodes n)) refl
    where
      go : (b : Bool) → is_known (ordered_places nodes) (place_of nodes n) ≡ b → not b ≡ true
      go true e = absurd (unordered n more is (place_of nodes n) refl e)
      go false e = refl

  start_alone : (P : Statement → Type 0) (runs : Runs State) (imports : List (List ℕ)) → node.imports ≡ imports
      → GivenFollow P (given_from (imports_run isar nodes runs imports (find (is_bad nodes) imports)))
  start_alone P runs [] is = tt
  start_alone P runs (n ∷ more) is =
      subst (λ b. GivenFollow P (given_from (imports_run isar nodes runs (n ∷ more) (cond b (Some n) (find (is_bad nodes) more)))))
      (sym (bad n more is)) tt

  abbrev pub RestsOnItself : ℕ × Run State → Type 0
  RestsOnItself one = AreClean one.1.commands → FactsFollow (IsAxiomOf one.1.commands) (final isar one.1)

  one_alone : (runs : Runs State) → RestsOnItself (0, run_node isar node blobs (begins_at isar nodes runs 0 (name, node)))
  one_alone runs clean =
      let begins = begins_at isar nodes runs 0 (name, node) in
      let P = IsAxiomOf (run_node isar node blobs begins).commands in
      facts_follow P (final isar (run_node isar node blobs begins))
      (run_sound laws P node blobs node.entries begins (start_alone P runs node.imports refl) clean (λ g m. m))

  all_alone : (ps : List ℕ) (runs : Runs State) → AllByRecursion RestsOnItself runs → AllByRecursion RestsOnItself (run_all isar nodes blobs ps runs)
  all_alone [] runs all = all
  all_alone (zero ∷ ps) runs all = all_alone ps _ (one_alone runs, all)
  all_alone (suc p ∷ ps) runs all = all_alone ps runs all

  pub document_alone : AllByRecursion RestsOnItself (scratch isar nodes blobs)
  document_alone = all_alone (order nodes) [] tt
