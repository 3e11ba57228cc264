-- The nodes of an update, one after the other.
use Rattle.std.proofs.Common.{◌≡◌, ℕ, ◌+◌, ◌<◌, ◌≤◌, Bool, true, false, cond, List, [], ◌∷◌, length, drop, get_or, set, eqb, Option, Some, None, refl, sym, ap, subst, ◌∙◌, arith}
use Rattle.std.proofs.lemmas.List.{get_or-set_same, get_or-set_other, drop_more, drop_all}
use Rattle.std.proofs.lemmas.Bool.Decides.{nat_tests}
use Rattle.std.specs.Prelude.{find, slice_get}
use Rattle.std.specs.Option.{option_map_or}
use Rattle.doc_nodes.specs.Looks.{marked}
use Rattle.doc_nodes.specs.declared.node.Node.{Node}
use Rattle.doc_nodes.specs.Imports.{order}
use Rattle.doc_nodes.specs.Graph.{Graph}
use Rattle.doc_nodes.specs.Graphs.{IsGraphOf}
use Rattle.exec_rules.specs.declared.row.Assigned.{Assigned}
use Rattle.exec_rules.specs.Keys.{nothing_assigned, assigned_at, key_of}
use Rattle.exec_rules.specs.Assigning.{Update, Work, given, extended_work, assign_one, assign_all, assigned_all}
use Rattle.exec_rules.proofs.KnownGiven.{given_rises}
use Rattle.exec_assign.specs.Found.{AreAssigned}
use Rattle.exec_assign.specs.Work.{HasStood, HaveStood}

pub at_more : (done : List (ℕ × Assigned)) (p q : ℕ) (a : Assigned) (b : Bool) → eqb p q ≡ b
    → assigned_at ((p, a) ∷ done) q ≡ cond b a (assigned_at done q)
at_more done p q a true e = ap (λ b. option_map_or (λ (one : ℕ × Assigned). one.1) (cond b (Some (p, a)) (find (λ (one : ℕ × Assigned). eqb one.0 q) done)) nothing_assigned) e
at_more done p q a false e = ap (λ b. option_map_or (λ (one : ℕ × Assigned). one.1) (cond b (Some (p, a)) (find (λ (one : ℕ × Assigned). eqb one.0 q) done)) nothing_assigned) e

-- what is assigned at one place more
pub assigned_more : (all : List Assigned) (done : List (ℕ × Assigned)) (p : ℕ) (a : Assigned) → AreAssigned all done → p < length all
    → AreAssigned (set all p a) ((p, a) ∷ done)
assigned_more all done p a are lt = λ q. at q (eqb p q) refl
  where
    at : (q : ℕ) (b : Bool) → eqb p q ≡ b
        → get_or (set all p a) q nothing_assigned ≡ assigned_at ((p, a) ∷ done) q
    at q true e =
        let same : p ≡ q = grind (arith, nat_tests) in
        ap (λ r. get_or (set all p a) r nothing_assigned) (sym same) ∙ get_or-set_same all p a nothing_assigned lt ∙ sym (at_more done p q a true e)
    at q false e =
        let other : q ≡ p → ⊥ = grind (arith, nat_tests) in
        get_or-set_other all p q a nothing_assigned other ∙ are q ∙ sym
        (at_more done p q a false e)

-- a mark more
pub stood_more : (u : Update) (marks : List Bool) (done : List (ℕ × Assigned)) (p : ℕ) (a : Assigned) (m : Bool) → p < length marks
    → (m ≡ true → (pair : List ℕ × Node) → slice_get u.nodes p ≡ Some pair → HasStood u pair a)
    → HaveStood u marks (assigned_at done) → HaveStood u (set marks p m) (assigned_at ((p, a) ∷ done))
stood_more u marks done p a m lt here stood = λ q pair mark at. go q pair mark at (eqb p q) refl
  where
    go : (q : ℕ) (pair : List ℕ × Node) → marked (set marks p m) q ≡ true → slice_get u.nodes q ≡ Some pair → (b : Bool) → eqb p q ≡ b
        → HasStood u pair (assigned_at ((p, a) ∷ done) q)
    go q pair mark at true e =
        let same : p ≡ q = grind (arith, nat_tests) in
        let marks_it : m ≡ true = sym (get_or-set_same marks p m false lt) ∙ ap (λ r. get_or (set marks p m) r false) same ∙ mark in
        let at_it : slice_get u.nodes p ≡ Some pair = ap (λ r. slice_get u.nodes r) same ∙ at in
        subst (HasStood u pair) (sym (at_more done p q a true e)) (here marks_it pair at_it)
    go q pair mark at false e =
        let other : q ≡ p → ⊥ = grind (arith, nat_tests) in
        let marked_it : marked marks q ≡ true = sym (get_or-set_other marks p q m false other) ∙ mark in
        subst (HasStood u pair) (sym (at_more done p q a false e)) (stood q pair marked_it at)

-- where there is no node, nothing is done; where there is one, it is given what it is given
pub one_none : (u : Update) (work : Work) (p : ℕ) → slice_get u.nodes p ≡ None → assign_one u work p ≡ work
one_none u work p at = ap (λ (o : Option (List ℕ × Node)). option_map_or (λ pair. extended_work work p (given u p pair (key_of u.nodes work.done pair.1) work.next)) o work) at

pub one_some : (u : Update) (work : Work) (p : ℕ) (pair : List ℕ × Node) → slice_get u.nodes p ≡ Some pair
    → assign_one u work p ≡ extended_work work p
    (given u p pair (key_of u.nodes work.done pair.1) work.next)
one_some u work p pair at = ap (λ (o : Option (List ℕ × Node)). option_map_or (λ pair. extended_work work p (given u p pair (key_of u.nodes work.done pair.1) work.next)) o work) at

pub one_rises : (u : Update) (work : Work) (p : ℕ) → work.next ≤ (assign_one u work p).next
one_rises u work p = go (slice_get u.nodes p)
  where
    go : (o : Option (List ℕ × Node)) → work.next ≤ (option_map_or (λ pair. extended_work work p (given u p pair (key_of u.nodes work.done pair.1) work.next)) o work).next
    go None = omega arith
    go (Some pair) = given_rises u p pair (key_of u.nodes work.done pair.1) work.next

-- numbers rise
pub all_rises : (u : Update) (ps : List ℕ) (work : Work) → work.next ≤ (assign_all u ps work).next
all_rises u [] work = omega arith
all_rises u (p ∷ ps) work = omega (arith, one_rises u work p, all_rises u ps (assign_one u work p))

-- the next place
pub all_step : (u : Update) (ps : List ℕ) (i d : ℕ) (work : Work) → i < length ps
    → assign_all u (drop i ps) work ≡ assign_all u (drop (i + 1) ps) (assign_one u work (get_or ps i d))
all_step u ps i d work lt = ap (λ (xs : List ℕ). assign_all u xs work) (drop_more ps i d lt)

pub all_over : (u : Update) (ps : List ℕ) (i : ℕ) (work : Work) → length ps ≤ i → assign_all u (drop i ps) work ≡ work
all_over u ps i work le = ap (λ (xs : List ℕ). assign_all u xs work) (drop_all i ps le)

-- the next node's turn
pub turn_next : (u : Update) (graph : Graph) (places : List ℕ) (i next : ℕ) (work : Work) → IsGraphOf u.nodes graph → places ≡ graph.order
    → i < length places → assign_all u (drop i (order u.nodes)) work ≡ assigned_all u next
    → assign_all u (drop (i + 1) (order u.nodes)) (assign_one u work (get_or places i 0)) ≡ assigned_all u next
turn_next u graph places i next work is same lt turn =
    let all : places ≡ order u.nodes = same ∙ is.order_is in
    ap (λ (ps : List ℕ). assign_all u (drop (i + 1) (order u.nodes)) (assign_one u work (get_or ps i 0))) all
    ∙ sym (all_step u (order u.nodes) i 0 work (subst (λ (ps : List ℕ). i < length ps) all lt)) ∙ turn

-- when each has had its turn
pub turn_over : (u : Update) (graph : Graph) (places : List ℕ) (i next : ℕ) (work : Work) → IsGraphOf u.nodes graph → places ≡ graph.order
    → length places ≤ i → assign_all u (drop i (order u.nodes)) work ≡ assigned_all u next → work ≡ assigned_all u next
turn_over u graph places i next work is same past turn =
    let all : places ≡ order u.nodes = same ∙ is.order_is in
    sym (all_over u (order u.nodes) i work (subst (λ (ps : List ℕ). length ps ≤ i) all past)) ∙ turn
