-- From nothing each node is done.
use Rattle.std.proofs.Common.{◌≡◌, ℕ, ◌<◌, ◌==◌, eqb, eq-eqb, Bool, true, false, ◌||◌, cond, List, [], ◌∷◌, length, Option, Some, None, find, refl, sym, ap, subst, ◌∙◌, arith}
use mathlib.Core.Bool.{false≢true}
use Rattle.std.specs.Prelude.{slice_get}
use Rattle.std.specs.Option.{option_map_or}
use Rattle.std.proofs.lemmas.Bool.{eqb-true}
use Rattle.text_words.specs.Members.{has}
use Rattle.doc_nodes.specs.declared.node.Node.{Node}
use Rattle.doc_nodes.specs.Imports.{NodeList}
use Rattle.language.specs.Lang.{Lang}
use Rattle.core_rules.specs.Scratch.{Run, Runs, begins_at, run_all, run_node, run_one}
use Rattle.pide_build.proofs.KeptStates.{pair_at}

module _ {S : Type 0} (l : Lang S) (nodes : NodeList) where
  -- the node at a place is done
  abbrev pub IsDone : Runs S → ℕ → Type 0
  IsDone runs p = (run : Run S) × (find (λ one. one.0 == p) runs ≡ Some (p, run))

  -- behind one node more it still is
  beside : (p q : ℕ) (run : Run S) (runs : Runs S) → IsDone runs p → IsDone ((q, run) ∷ runs) p
  beside p q run runs is = go (q == p) refl
    where
      found : Bool → Option (ℕ × Run S)
      found b = cond b (Some (q, run)) (find (λ one. one.0 == p) runs)

      go : (b : Bool) → (q == p) ≡ b → IsDone ((q, run) ∷ runs) p
      go true e = (run, ap found e ∙ ap (λ r. Some (r, run)) (eqb-true q p e))
      go false e = (is.0, ap found e ∙ is.1)

  one_more : (p q : ℕ) (runs : Runs S) → IsDone runs p → IsDone (run_one l nodes [] runs q) p
  one_more p q runs is = go (slice_get nodes q)
    where
      go : (o : Option (List ℕ × Node))
          → IsDone (option_map_or (λ pair. (q, run_node l pair.1 [] (begins_at l nodes runs q pair)) ∷ runs) o runs) p
      go None = is
      go (Some pair) = beside p q (run_node l pair.1 [] (begins_at l nodes runs q pair)) runs is

  more : (ps : List ℕ) (p : ℕ) (runs : Runs S) → IsDone runs p → IsDone (run_all l nodes [] ps runs) p
  more [] p runs is = is
  more (q ∷ ps) p runs is = more ps p (run_one l nodes [] runs q) (one_more p q runs is)

  -- a node of its own is done
  itself : (p : ℕ) (runs : Runs S) → p < length nodes → IsDone (run_one l nodes [] runs p) p
  itself p runs lt =
      let there = pair_at nodes p lt in
      let run : Run S = run_node l there.0.1 [] (begins_at l nodes runs p there.0) in
      let is : run_one l nodes [] runs p ≡ (p, run) ∷ runs =
      ap (λ o. option_map_or (λ pair. (p, run_node l pair.1 [] (begins_at l nodes runs p pair)) ∷ runs) o runs) there.1 in
      let found : Bool → Option (ℕ × Run S) = λ b. cond b (Some (p, run)) (find (λ one. one.0 == p) runs) in
      subst (λ rs. IsDone rs p) (sym is) (run, ap found (eq-eqb p p refl))

  -- so are all nodes that are run
  pub all_done : (ps : List ℕ) (p : ℕ) (runs : Runs S) → has ps p ≡ true → p < length nodes → IsDone (run_all l nodes [] ps runs) p
  all_done [] p runs here lt = absurd (false≢true here)
  all_done (q ∷ ps) p runs here lt = go (p == q) refl here (λ h. all_done ps p (run_one l nodes [] runs q) h lt)
    where
      go : (b : Bool) → (p == q) ≡ b → (b || has ps p) ≡ true → (has ps p ≡ true → IsDone (run_all l nodes [] ps (run_one l nodes [] runs q)) p)
          → IsDone (run_all l nodes [] ps (run_one l nodes [] runs q)) p
      go true e h later =
          more ps p (run_one l nodes [] runs q) (subst (λ r. IsDone (run_one l nodes [] runs r) p) (eqb-true p q e) (itself p runs lt))
      go false e h later = later h
