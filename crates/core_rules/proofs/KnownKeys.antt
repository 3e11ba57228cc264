-- A node's key rests on its imports alone; what is assigned, place by place.
use Rattle.std.proofs.Common.{◌≡◌, ℕ, suc, Bool, true, false, cond, List, [], ◌∷◌, map, find, Option, Some, None, refl, ap, sym, ◌∙◌, ◌<◌, ◌++◌, arith, zero, ◌+◌}
use Rattle.std.proofs.lemmas.Bool.{eqb-true, eq-eqb, false≢true, and_parts, and_from}
use Rattle.std.specs.Prelude.{◌==◌, slice_get}
use Rattle.std.specs.List.{list_all, range_with_len}
use Rattle.std.specs.Option.{option_map_or}
use Rattle.text_words.specs.Members.{has}
use Rattle.doc_nodes.specs.Rounds.{is_known}
use Rattle.text_words.proofs.KnownMembers.{has_left}
use Rattle.doc_nodes.specs.declared.node.Node.{Node}
use Rattle.doc_nodes.specs.Imports.{NodeList, place_of, is_bad}
use Rattle.exec_rules.specs.declared.key.Last.TheVariants.{Empty}
use Rattle.exec_rules.specs.declared.key.Key.TheVariants.{Lasts}
use Rattle.exec_rules.specs.declared.row.Assigned.{Assigned}
use Rattle.exec_rules.specs.Keys.{last_of, nothing_assigned, assigned_at, aimed, key_by, key_of}
use Rattle.exec_rules.specs.Assigning.{entries_at}
use Rattle.core_rules.specs.FromScratch.{last_by, key_from}
use Rattle.core_rules.proofs.KnownPlaces.{place_found}
use Rattle.core_rules.proofs.AliasesByKey.{entries_found}

-- all imports are among the nodes at these places
abbrev pub AreInside : NodeList → List ℕ → List (List ℕ) → Type 0
AreInside nodes front names = list_all (λ name. is_known front (place_of nodes name)) names ≡ true

-- the key by what is done is the key by what is assigned
module _ (nodes : NodeList) (done : List (ℕ × Assigned)) where
  last_same : (o : Option ℕ) → ((q : ℕ) → o ≡ Some q → (pair : List ℕ × Node) × (slice_get nodes q ≡ Some pair))
      → aimed nodes done o ≡ option_map_or (λ p. last_of (entries_at nodes p) (assigned_at done p).rows) o Empty
  last_same None there = refl
  last_same (Some q) there =
      let found = there q refl in
      ap (λ o. option_map_or (λ (x : List ℕ × Node). last_of x.1.entries (assigned_at done q).rows) o Empty) found.1
      ∙ ap (λ es. last_of es (assigned_at done q).rows) (sym (entries_found nodes q found.0 found.1))

  lasts_same : (names : List (List ℕ))
      → map (aimed nodes done) (map (place_of nodes) names) ≡ map (last_by nodes (assigned_at done)) names
  lasts_same [] = refl
  lasts_same (name ∷ names) =
      ap (λ x. x ∷ map (aimed nodes done) (map (place_of nodes) names))
      (last_same (place_of nodes name) (λ q e. let f = place_found nodes name q e in (f.pair, f.stands)))
      ∙ ap (λ xs. last_by nodes (assigned_at done) name ∷ xs) (lasts_same names)

  pub key_is : (node : Node) → key_of nodes done node ≡ key_from nodes (assigned_at done) node
  key_is node = ap (key_by (find (is_bad nodes) node.imports)) (lasts_same node.imports)

-- a node's key rests on its imports alone
module _ (nodes : NodeList) (front : List ℕ) (a b : ℕ → Assigned) (same : (q : ℕ) → has front q ≡ true → a q ≡ b q) where
  one_last : (o : Option ℕ) → is_known front o ≡ true
      → option_map_or (λ p. last_of (entries_at nodes p) (a p).rows) o Empty
      ≡ option_map_or (λ p. last_of (entries_at nodes p) (b p).rows) o Empty
  one_last None known = refl
  one_last (Some q) known = ap (λ (x : Assigned). last_of (entries_at nodes q) x.rows) (same q known)

  all_lasts : (names : List (List ℕ)) → AreInside nodes front names → map (last_by nodes a) names ≡ map (last_by nodes b) names
  all_lasts [] inside = refl
  all_lasts (name ∷ names) inside =
      let parts = and_parts (is_known front (place_of nodes name)) (list_all (λ x. is_known front (place_of nodes x)) names) inside in
      ap (λ x. x ∷ map (last_by nodes a) names) (one_last (place_of nodes name) parts.0)
      ∙ ap (λ xs. last_by nodes b name ∷ xs) (all_lasts names parts.1)

  pub key_rests : (node : Node) → (find (is_bad nodes) node.imports ≡ None → AreInside nodes front node.imports)
      → key_from nodes a node ≡ key_from nodes b node
  key_rests node inside = go (find (is_bad nodes) node.imports) inside
    where
      go : (o : Option (List ℕ)) → (o ≡ None → AreInside nodes front node.imports)
          → key_by o (map (last_by nodes a) node.imports) ≡ key_by o (map (last_by nodes b) node.imports)
      go None inside = ap Lasts (all_lasts node.imports (inside refl))
      go (Some name) inside = refl

-- what is done at another place stays
pub assigned_other : (done : List (ℕ × Assigned)) (a : Assigned) (p q : ℕ) → (p == q) ≡ false
    → assigned_at ((p, a) ∷ done) q ≡ assigned_at done q
assigned_other done a p q e =
    ap (λ b. option_map_or (λ (one : ℕ × Assigned). one.1) (cond b (Some (p, a)) (find (λ one. one.0 == q) done)) nothing_assigned) e

pub assigned_newest : (done : List (ℕ × Assigned)) (a : Assigned) (p : ℕ) → assigned_at ((p, a) ∷ done) p ≡ a
assigned_newest done a p =
    ap (λ b. option_map_or (λ (one : ℕ × Assigned). one.1) (cond b (Some (p, a)) (find (λ one. one.0 == p) done)) nothing_assigned)
    (eq-eqb p p refl)

pub other_place : (front : List ℕ) (p q : ℕ) (b : Bool) → (p == q) ≡ b → has front p ≡ false → has front q ≡ true → b ≡ false
other_place front p q false e out is = refl
other_place front p q true e out is =
    absurd (false≢true (sym out ∙ ap (has front) (eqb-true p q e) ∙ is))

-- imports that are inside stay so
pub inside_more : (nodes : NodeList) (front : List ℕ) (p : ℕ) (names : List (List ℕ)) → AreInside nodes front names
    → AreInside nodes (front ++ p ∷ []) names
inside_more nodes front p [] known = refl
inside_more nodes front p (name ∷ names) known =
    let parts = and_parts (is_known front (place_of nodes name)) (list_all (λ x. is_known front (place_of nodes x)) names) known in
    and_from _ _ (one (place_of nodes name) parts.0) (inside_more nodes front p names parts.1)
  where
    one : (o : Option ℕ) → is_known front o ≡ true → is_known (front ++ p ∷ []) o ≡ true
    one None known = absurd (cc)
    one (Some q) known = has_left front (p ∷ []) q known

-- what is assigned, listed by place
pub listed : (done : List (ℕ × Assigned)) (a n p : ℕ) → p < n
    → slice_get (map (assigned_at done) (range_with_len a n)) p ≡ Some (assigned_at done (a + p))
listed done a zero p lt = absurd (omega arith)
listed done a (suc n) zero lt = let e : a ≡ a + 0 = omega arith in ap (λ x. Some (assigned_at done x)) e
listed done a (suc n) (suc p) lt =
    let e : a + 1 + p ≡ a + suc p = omega arith in
    listed done (a + 1) n p (omega arith) ∙ ap (λ x. Some (assigned_at done x)) e
