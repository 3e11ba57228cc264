-- What is done after one node more.
use Rattle.std.proofs.Common.{◌≡◌, ℕ, zero, suc, ◌+◌, ◌<◌, ◌≤◌, Bool, true, false, List, [], ◌∷◌, ◌++◌, length, map, get_or, set, Some, refl, sym, ap, subst, ◌∙◌, arith, append-nil}
use Rattle.std.proofs.lemmas.List.{length-set}
use Rattle.std.specs.Prelude.{slice_get}
use Rattle.std.specs.List.{range_with_len}
use Rattle.pide_base.specs.Ids.{id_end}
use Rattle.doc_nodes.specs.declared.node.Node.{Node}
use Rattle.exec_rules.specs.declared.key.Key.{Key}
use Rattle.exec_rules.specs.declared.row.Assigned.{Assigned}
use Rattle.exec_rules.specs.declared.home.Home.{Home}
use Rattle.exec_rules.specs.Keys.{nothing_assigned, assigned_at, key_of}
use Rattle.exec_rules.specs.Assigning.{Update, Given, Work, given, extended_work, assign_one}
use Rattle.exec_rules.proofs.KnownGiven.{given_rises}
use Rattle.exec_assign.specs.Found.{AreAssigned}
use Rattle.exec_assign.specs.Standing.{Stands}
use Rattle.exec_assign.specs.Work.{HasStood, IsWork}
use Rattle.exec_assign.proofs.WorkLemmas.{assigned_more, stood_more, one_some}

by_places : {X : Type 0} (f : ℕ → X) (d : X) (xs : List X) (a : ℕ) → ((i : ℕ) → i < length xs → get_or xs i d ≡ f (a + i))
    → xs ≡ map f (range_with_len a (length xs))
by_places f d [] a each = refl
by_places f d (x ∷ xs) a each =
    let first : a + 0 ≡ a = omega arith in
    ap (λ y. y ∷ xs) (each zero (omega arith) ∙ ap f first)
    ∙ ap (λ ys. f a ∷ ys)
    (by_places f d xs (a + 1) (λ i lt. let next : a + suc i ≡ a + 1 + i = omega arith in each (suc i) (omega arith) ∙ ap f next))

-- what is assigned at all places, in their order
pub all_places : (all : List Assigned) (done : List (ℕ × Assigned)) (n : ℕ) → AreAssigned all done → length all ≡ n
    → all ≡ map (assigned_at done) (range_with_len 0 n)
all_places all done n are long =
    by_places (assigned_at done) nothing_assigned all 0 (λ i lt. let same : i ≡ 0 + i = omega arith in are i ∙ ap (assigned_at done) same)
    ∙ ap (λ m. map (assigned_at done) (range_with_len 0 m)) long

-- by equal parts
pub work_by : (u : Update) (all all2 : List Assigned) (homes homes2 : List Home) (next next2 : ℕ) (marks marks2 : List Bool) (work : Work)
    → all ≡ all2 → homes ≡ homes2 → next ≡ next2 → marks ≡ marks2 → IsWork u all2 homes2 next2 marks2 work → IsWork u all homes next marks work
work_by u all all2 homes homes2 next next2 marks marks2 work ea eh en em is =
    subst (λ (x : List Assigned). IsWork u x homes next marks work) (sym ea)
    (subst (λ (x : List Home). IsWork u all2 x next marks work) (sym eh)
    (subst (λ (x : ℕ). IsWork u all2 homes2 x marks work) (sym en)
    (subst (λ (x : List Bool). IsWork u all2 homes2 next2 x work) (sym em) is)))

module _ (u : Update) (all : List Assigned) (homes : List Home) (next : ℕ) (standing : List Bool) (work : Work) (p : ℕ) (pair : List ℕ × Node)
    (is : IsWork u all homes next standing work) (at : slice_get u.nodes p ≡ Some pair) (lt : p < length u.nodes) where
  added_is : (g : Given) → g ≡ given u p pair (key_of u.nodes work.done pair.1) work.next → g.next ≤ id_end
      → (m : Bool) → (m ≡ true → HasStood u pair g.assigned)
      → IsWork u (set all p g.assigned) (homes ++ g.homes) g.next (set standing p m)
      (extended_work work p g)
  added_is g same within m stood =
      let rises : work.next ≤ g.next =
      subst (λ (x : Given). work.next ≤ x.next) (sym same) (given_rises u p pair (key_of u.nodes work.done pair.1) work.next) in
      record {
        are = assigned_more all work.done p g.assigned is.are (omega (arith, is.all_long));
        homes_are = ap (λ (hs : List Home). hs ++ g.homes) is.homes_are;
        next_is = refl;
        first = omega (arith, is.first, is.next_is);
        within = within;
        all_long = length-set all p g.assigned ∙ is.all_long;
        standing_long = length-set standing p m ∙ is.standing_long;
        stood = stood_more u standing work.done p g.assigned m (omega (arith, is.standing_long))
            (λ e other here. subst (λ (x : List ℕ × Node). HasStood u x g.assigned) (let it : pair ≡ other = cc in it) (stood e)) is.stood;
      }

  one_is : (g : Given) → g ≡ given u p pair (key_of u.nodes work.done pair.1) work.next → extended_work work p g ≡ assign_one u work p
  one_is g same = ap (extended_work work p) same ∙ sym (one_some u work p pair at)

  pub work_given : (g : Given) (key : Key) → key ≡ key_of u.nodes work.done pair.1 → g ≡ given u p pair key next → g.next ≤ id_end
      → IsWork u (set all p g.assigned) (homes ++ g.homes) g.next (set standing p false) (assign_one u work p)
  work_given g key keys same within =
      let whole : g ≡ given u p pair (key_of u.nodes work.done pair.1) work.next =
      same ∙ ap (λ (k : Key). given u p pair k next) keys ∙ ap (λ (m : ℕ). given u p pair (key_of u.nodes work.done pair.1) m) is.next_is in
      subst (λ (w : Work). IsWork u (set all p g.assigned) (homes ++ g.homes) g.next (set standing p false) w) (one_is g whole)
      (added_is g whole within false (λ e. absurd (cc)))

  pub work_standing : (old : Assigned) (key : Key) → key ≡ key_of u.nodes work.done pair.1 → Stands u p pair key old
      → IsWork u (set all p old) homes next (set standing p true) (assign_one u work p)
  work_standing old key keys stands =
      let g : Given = record { assigned = old; homes = []; next = next } in
      let whole : g ≡ given u p pair (key_of u.nodes work.done pair.1) work.next =
      sym (stands.given next) ∙ ap (λ (k : Key). given u p pair k next) keys
      ∙ ap (λ (m : ℕ). given u p pair (key_of u.nodes work.done pair.1) m) is.next_is in
      subst (λ (hs : List Home). IsWork u (set all p old) hs next (set standing p true) (assign_one u work p)) (append-nil homes)
      (subst (λ (w : Work). IsWork u (set all p old) (homes ++ []) next (set standing p true) w) (one_is g whole)
      (added_is g whole is.within true (λ e. record { untouched = stands.untouched; had = stands.had })))

  pub limit_given : (key : Key) → key ≡ key_of u.nodes work.done pair.1 → id_end < (given u p pair key next).next
      → id_end < (assign_one u work p).next
  limit_given key keys over =
      let whole : (given u p pair key next).next ≡ (assign_one u work p).next =
      ap (λ (k : Key). (given u p pair k next).next) keys
      ∙ ap (λ (m : ℕ). (given u p pair (key_of u.nodes work.done pair.1) m).next) is.next_is
      ∙ ap (λ (w : Work). w.next) (sym (one_some u work p pair at)) in
      omega (arith, over, whole)
