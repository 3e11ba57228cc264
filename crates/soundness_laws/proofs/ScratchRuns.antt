-- From nothing, each node is run once, and found at its place.
use Rattle.std.proofs.Common.{◌≡◌, ℕ, ◌<◌, ◌↔◌, ◌⊎◌, inl, inr, Bool, true, false, cond, List, [], ◌∷◌, ◌++◌, length, find, Some, refl, ap, sym, subst, ◌∙◌, append_assoc, append-nil}
use Rattle.std.proofs.lemmas.Bool.{eq-eqb, eqb-true, or_cases, false≢true}
use Rattle.std.specs.Prelude.{◌==◌, slice_get}
use Rattle.std.specs.List.{AllByRecursion}
use Rattle.std.specs.Option.{option_map_or}
use Rattle.text_words.specs.Members.{has}
use Rattle.text_words.proofs.KnownMembers.{has_left, has_middle, has_other}
use Rattle.doc_nodes.specs.declared.node.Node.{Node}
use Rattle.doc_nodes.specs.Imports.{NodeList, order}
use Rattle.exec_rules.specs.Kept.{BlobList}
use Rattle.exec_rules.proofs.KnownThere.{get_there}
use Rattle.language.specs.Lang.{Lang}
use Rattle.core_rules.specs.Scratch.{Run, Runs, begins_at, run_node, run_one, run_all, scratch}

-- the one run of a node
pub record IsRunOf {S : Type 0} (l : Lang S) (nodes : NodeList) (blobs : BlobList) (front : List ℕ) (runs : Runs S)
    (one : ℕ × Run S) : Type 0 where
  pub inside : has front one.0 ≡ true
  pub found : find (λ o. o.0 == one.0) runs ≡ Some one
  pub pair : List ℕ × Node
  pub stands : slice_get nodes one.0 ≡ Some pair
  pub begins : S
  pub run : one.1 ≡ run_node l pair.1 blobs begins

-- the nodes at these places are run
pub record AreRun {S : Type 0} (l : Lang S) (nodes : NodeList) (blobs : BlobList) (front : List ℕ) (runs : Runs S) : Type 0 where
  pub each : AllByRecursion (IsRunOf l nodes blobs front runs) runs
  pub there : (q : ℕ) → has front q ≡ true → (one : ℕ × Run S) × (find (λ o. o.0 == q) runs ≡ Some one)

pub each_on : {X : Type 0} (P Q : X → Type 0) (xs : List X) → ((x : X) → P x → Q x) → AllByRecursion P xs → AllByRecursion Q xs
each_on P Q [] to all = tt
each_on P Q (x ∷ xs) to all = (to x all.0, each_on P Q xs to all.1)

-- what is found is one of these
pub found_of : {X : Type 0} (P : X → Type 0) (test : X → Bool) (xs : List X) (x : X) → AllByRecursion P xs → find test xs ≡ Some x
    → (test x ≡ true) × P x
found_of P test [] x all at = absurd (cc)
found_of P test (y ∷ xs) x all at = go (test y) refl at (found_of P test xs x all.1)
  where
    go : (b : Bool) → test y ≡ b → cond b (Some y) (find test xs) ≡ Some x → (find test xs ≡ Some x → (test x ≡ true) × P x) → (test x ≡ true) × P x
    go true is at rest = let same : y ≡ x = cc in subst (λ z. (test z ≡ true) × P z) same (is, all.0)
    go false is at rest = rest at

module _ {S : Type 0} (l : Lang S) (nodes : NodeList) (blobs : BlobList)
    (every : (p : ℕ) → (has (order nodes) p ≡ true) ↔ (p < length nodes))
    (once : (front rest : List ℕ) (p : ℕ) → order nodes ≡ front ++ p ∷ rest → has front p ≡ false) where
  module _ (front rest : List ℕ) (p : ℕ) (runs : Runs S) (split : order nodes ≡ front ++ p ∷ rest) (so : AreRun l nodes blobs front runs)
      (pair : List ℕ × Node) (at : slice_get nodes p ≡ Some pair) where
    abbrev new : ℕ × Run S
    new = (p, run_node l pair.1 blobs (begins_at l nodes runs p pair))

    old_run : (one : ℕ × Run S) → IsRunOf l nodes blobs front runs one → IsRunOf l nodes blobs (front ++ p ∷ []) (new ∷ runs) one
    old_run one was = record {
      inside = has_left front (p ∷ []) one.0 was.inside;
      found = go (p == one.0) refl;
      pair = was.pair;
      stands = was.stands;
      begins = was.begins;
      run = was.run;
    }
      where
        go : (b : Bool) → (p == one.0) ≡ b → cond b (Some new) (find (λ o. o.0 == one.0) runs) ≡ Some one
        go true e = absurd (false≢true (sym (once front rest p split) ∙ ap (has front) (eqb-true p one.0 e) ∙ was.inside))
        go false e = was.found

    new_run : IsRunOf l nodes blobs (front ++ p ∷ []) (new ∷ runs) new
    new_run = record {
      inside = has_middle front p [];
      found = ap (λ b. cond b (Some new) (find (λ o. o.0 == p) runs)) (eq-eqb p p refl);
      pair = pair;
      stands = at;
      begins = begins_at l nodes runs p pair;
      run = refl;
    }

    there_now : (q : ℕ) → has (front ++ p ∷ []) q ≡ true → (one : ℕ × Run S) × (find (λ o. o.0 == q) (new ∷ runs) ≡ Some one)
    there_now q is = go (p == q) refl
      where
        go : (b : Bool) → (p == q) ≡ b → (one : ℕ × Run S) × (cond b (Some new) (find (λ o. o.0 == q) runs) ≡ Some one)
        go true e = (new, refl)
        go false e = so.there q (has_other front p q e is)

    step : AreRun l nodes blobs (front ++ p ∷ []) (new ∷ runs)
    step = record {
      each = (new_run, each_on (IsRunOf l nodes blobs front runs) (IsRunOf l nodes blobs (front ++ p ∷ []) (new ∷ runs)) runs old_run so.each);
      there = there_now;
    }

  one : (front rest : List ℕ) (p : ℕ) (runs : Runs S) → order nodes ≡ front ++ p ∷ rest → AreRun l nodes blobs front runs
      → AreRun l nodes blobs (front ++ p ∷ []) (run_one l nodes blobs runs p)
  one front rest p runs split so =
      let there : has (order nodes) p ≡ true = ap (λ ps. has ps p) split ∙ has_middle front p rest in
      let found = get_there nodes p ((every p).0 there) in
      subst (AreRun l nodes blobs (front ++ p ∷ []))
      (sym (ap (λ o. option_map_or
      (λ (pair : List ℕ × Node). (p, run_node l pair.1 blobs (begins_at l nodes runs p pair)) ∷ runs) o runs) found.1))
      (step front rest p runs split so found.0 found.1)

  all : (ps front : List ℕ) (runs : Runs S) → order nodes ≡ front ++ ps → AreRun l nodes blobs front runs
      → AreRun l nodes blobs (order nodes) (run_all l nodes blobs ps runs)
  all [] front runs split so = subst (λ f. AreRun l nodes blobs f runs) (sym (split ∙ append-nil front)) so
  all (p ∷ ps) front runs split so = all ps (front ++ p ∷ []) (run_one l nodes blobs runs p)
      (split ∙ sym (append_assoc front (p ∷ []) ps)) (one front ps p runs split so)

  -- all nodes
  pub all_run : AreRun l nodes blobs (order nodes) (scratch l nodes blobs)
  all_run = all (order nodes) [] [] refl (record { each = tt; there = λ q is. absurd (cc) })
