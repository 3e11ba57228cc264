-- What an update gives a node: by a key that rests on its imports, and with new numbers.
use Rattle.std.proofs.Common.{◌≡◌, ℕ, ◌<◌, ◌↔◌, ◌⊎◌, inl, inr, true, false, List, [], ◌∷◌, ◌++◌, length, find, None, Some, ap, sym, subst, ◌∙◌}
use Rattle.std.proofs.lemmas.Bool.{eqb-true, or_cases}
use Rattle.std.specs.Prelude.{◌==◌, slice_get}
use Rattle.text_words.specs.Members.{has}
use Rattle.text_words.proofs.KnownMembers.{has_both}
use Rattle.doc_nodes.specs.declared.node.Node.{Node}
use Rattle.doc_nodes.specs.Imports.{NodeList, is_bad, order}
use Rattle.exec_rules.specs.declared.row.Assigned.{Assigned}
use Rattle.exec_rules.specs.Keys.{assigned_at}
use Rattle.exec_rules.specs.Assigning.{Update, Work, given}
use Rattle.core_rules.specs.FromScratch.{key_from}
use Rattle.core_rules.proofs.KnownKeys.{AreInside, key_rests}

-- the order of imports
pub record InOrder (nodes : NodeList) : Type 0 where
  pub every : (p : ℕ) → (has (order nodes) p ≡ true) ↔ (p < length nodes)
  pub once : (front rest : List ℕ) (p : ℕ) → order nodes ≡ front ++ p ∷ rest → has front p ≡ false
  pub inside : (front rest : List ℕ) (p : ℕ) (pair : List ℕ × Node) → order nodes ≡ front ++ p ∷ rest
      → slice_get nodes p ≡ Some pair → find (is_bad nodes) pair.1.imports ≡ None → AreInside nodes front pair.1.imports

-- what the node at a place is given, when so many executions were made before
pub record IsGiven (u : Update) (made : ℕ) (assigned : ℕ → Assigned) (front : List ℕ) (p : ℕ) (pair : List ℕ × Node) : Type 0 where
  pub next : ℕ
  pub new : made < next
  pub is : assigned p ≡ (given u p pair (assigned p).key next).assigned
  pub key : (assigned p).key ≡ key_from u.nodes assigned pair.1
  pub inside : find (is_bad u.nodes) pair.1.imports ≡ None → AreInside u.nodes front pair.1.imports

-- what is given so far
pub record AreGiven (u : Update) (made : ℕ) (w : Work) (front : List ℕ) : Type 0 where
  pub next : made < w.next
  pub each : (p : ℕ) (pair : List ℕ × Node) → has front p ≡ true → slice_get u.nodes p ≡ Some pair
      → IsGiven u made (assigned_at w.done) front p pair

pub among : (front : List ℕ) (p q : ℕ) → has (front ++ p ∷ []) q ≡ true → (has front q ≡ true) ⊎ (q ≡ p)
among front p q is = go (or_cases (has front q) (has (p ∷ []) q) (sym (has_both front (p ∷ []) q) ∙ is))
  where
    last : ((q == p) ≡ true) ⊎ (false ≡ true) → q ≡ p
    last (inl same) = eqb-true q p same
    last (inr bad) = absurd (cc)

    go : (has front q ≡ true) ⊎ (has (p ∷ []) q ≡ true) → (has front q ≡ true) ⊎ (q ≡ p)
    go (inl there) = inl there
    go (inr here) = inr (last (or_cases (q == p) false here))

-- it stays so where the imports do
pub given_on : (u : Update) (made : ℕ) (a b : ℕ → Assigned) (front more : List ℕ) → ((q : ℕ) → has front q ≡ true → a q ≡ b q)
    → ((names : List (List ℕ)) → AreInside u.nodes front names → AreInside u.nodes more names)
    → (q : ℕ) (pair : List ℕ × Node) → has front q ≡ true → IsGiven u made a front q pair → IsGiven u made b more q pair
given_on u made a b front more same within q pair is was = record {
  next = was.next;
  new = was.new;
  is = subst (λ (x : Assigned). x ≡ (given u q pair x.key was.next).assigned) (same q is) was.is;
  key = ap (λ (x : Assigned). x.key) (sym (same q is)) ∙ was.key ∙ key_rests u.nodes front a b same pair.1 was.inside;
  inside = λ good. within pair.1.imports (was.inside good);
}
