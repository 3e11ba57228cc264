-- What holds of the rows that each node is given holds of those of the version that is made.
use Rattle.std.proofs.Common.{◌≡◌, ℕ, ◌+◌, ◌<◌, ◌≤◌, ◌⊎◌, inl, inr, Bool, true, false, List, [], ◌∷◌, length, get_or, eqb, Option, Some, None, refl, sym, subst, arith}
use Rattle.std.proofs.lemmas.Bool.{cases_lt}
use Rattle.std.proofs.lemmas.Bool.Decides.{nat_tests}
use Rattle.std.proofs.lemmas.List.{get_or_past}
use Rattle.std.proofs.lemmas.List.FromFn.{length-map-range_with_len, get_or-map-range_with_len}
use Rattle.std.specs.Prelude.{slice_get}
use Rattle.doc_nodes.specs.declared.node.Node.{Node}
use Rattle.doc_nodes.specs.Imports.{order}
use Rattle.exec_rules.specs.declared.key.Key.{Key}
use Rattle.exec_rules.specs.declared.row.Row.{Row}
use Rattle.exec_rules.specs.declared.row.Assigned.{Assigned}
use Rattle.exec_rules.specs.Keys.{nothing_assigned, assigned_at, key_of}
use Rattle.exec_rules.specs.Assigning.{Update, Work, given, assign_one, assign_all, assigned_all, assignment}
use Rattle.exec_rules.proofs.KnownGiven.{given_rises}
use Rattle.exec_assign.proofs.WorkLemmas.{at_more, one_none, one_some, one_rises}

module _ (u : Update) (first : ℕ) (P : ℕ → ℕ → List Row → Type 0)
    (up : (m n p : ℕ) (rows : List Row) → m ≤ n → P m p rows → P n p rows)
    (gives : (p : ℕ) (pair : List ℕ × Node) (key : Key) (m : ℕ) → slice_get u.nodes p ≡ Some pair → first ≤ m
    → P (given u p pair key m).next p (given u p pair key m).assigned.rows) where
  -- it holds of what is done so far
  abbrev Done : Work → Type 0
  Done work = (p : ℕ) → P work.next p (assigned_at work.done p).rows

  one_done : (work : Work) (p : ℕ) → first ≤ work.next → Done work → Done (assign_one u work p)
  one_done work p le done = go (slice_get u.nodes p) refl
    where
      go : (o : Option (List ℕ × Node)) → slice_get u.nodes p ≡ o → Done (assign_one u work p)
      go None at = subst Done (sym (one_none u work p at)) done
      go (Some pair) at = subst Done (sym (one_some u work p pair at)) (λ q. there q (eqb p q) refl)
        where
          key : Key
          key = key_of u.nodes work.done pair.1

          there : (q : ℕ) (b : Bool) → eqb p q ≡ b
              → P (given u p pair key work.next).next q (assigned_at ((p, (given u p pair key work.next).assigned) ∷ work.done) q).rows
          there q true e =
              let same : p ≡ q = grind (arith, nat_tests) in
              subst (λ (x : Assigned). P (given u p pair key work.next).next q x.rows) (sym (at_more work.done p q _ true e))
              (subst (λ (r : ℕ). P (given u p pair key work.next).next r (given u p pair key work.next).assigned.rows) same (gives p pair key work.next at le))
          there q false e =
              subst (λ (x : Assigned). P (given u p pair key work.next).next q x.rows) (sym (at_more work.done p q _ false e))
              (up work.next (given u p pair key work.next).next q _ (given_rises u p pair key work.next) (done q))

  all_done : (ps : List ℕ) (work : Work) → first ≤ work.next → Done work → Done (assign_all u ps work)
  all_done [] work le done = done
  all_done (p ∷ ps) work le done =
      all_done ps (assign_one u work p) (omega (arith, le, one_rises u work p)) (one_done work p le done)

  -- and of what is assigned in the end
  pub each_assigned : ((m p : ℕ) → P m p []) → (p : ℕ) → P (assignment u first).next p (get_or (assignment u first).assigned p nothing_assigned).rows
  each_assigned none p = go (cases_lt p (length u.nodes))
    where
      done : Done (assigned_all u first)
      done = all_done (order u.nodes) (record { done = []; homes = []; next = first }) (omega arith) (λ q. none first q)

      go : (p < length u.nodes) ⊎ (length u.nodes ≤ p) → P (assignment u first).next p (get_or (assignment u first).assigned p nothing_assigned).rows
      go (inl lt) =
          let same : 0 + p ≡ p = omega arith in
          subst (λ (x : Assigned). P (assignment u first).next p x.rows)
          (sym (get_or-map-range_with_len (assigned_at (assigned_all u first).done) 0 (length u.nodes) p p nothing_assigned lt same)) (done p)
      go (inr le) =
          subst (λ (x : Assigned). P (assignment u first).next p x.rows)
          (sym (get_or_past (assignment u first).assigned p nothing_assigned
          (omega (arith, length-map-range_with_len (assigned_at (assigned_all u first).done) 0 (length u.nodes), le)))) (none (assignment u first).next p)
