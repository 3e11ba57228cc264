-- The new executions of a version, each with its home.
use Rattle.std.proofs.Common.{◌≡◌, ℕ, ◌+◌, ◌<◌, Bool, true, false, List, [], ◌∷◌, ◌++◌, length, eqb, Option, Some, None, refl, sym, ap, ◌∙◌, arith, append-nil, append_assoc}
use Rattle.std.proofs.lemmas.Bool.Decides.{nat_tests}
use Rattle.std.proofs.lemmas.List.{length-append}
use Rattle.std.proofs.lemmas.List.FromFn.{get_or-map-range_with_len}
use Rattle.std.specs.Prelude.{slice_get, slice_index_or, ◌||◌}
use Rattle.std.specs.List.{flat_map}
use Rattle.std.specs.Option.{option_map_or}
use Rattle.std.proofs.lemmas.Bool.{or_parts, or_right}
use Rattle.text_words.specs.Members.{has}
use Rattle.doc_nodes.specs.declared.node.Node.{Node}
use Rattle.doc_nodes.specs.Imports.{order}
use Rattle.exec_rules.specs.declared.row.Assigned.{Assigned}
use Rattle.exec_rules.specs.Keys.{nothing_assigned, assigned_at, key_of}
use Rattle.exec_rules.specs.Assigning.{Update, Work, given, extended_work, assign_one, assign_all, assignment}
use Rattle.exec_assign.specs.Numbered.{new_of, new_at, new_in, with_numbers, AreBelow}
use Rattle.exec_assign.proofs.WorkLemmas.{at_more, one_none, one_some}
use Rattle.exec_assign.proofs.OldLemmas.{AllKeep}
use Rattle.exec_assign.proofs.NumberedNodes.{numbers_more, given_numbers, given_made}

-- each of these places stands once
abbrev Distinct : List ℕ → Type 0
Distinct [] = Unit {0}
Distinct (p ∷ ps) = (has ps p ≡ false) × Distinct ps

itself : (p : ℕ) → eqb p p ≡ true
itself p = grind (arith, nat_tests)

parted : (p : ℕ) (xs : List ℕ) → has xs p ≡ true → (front : List ℕ) × (rest : List ℕ) × (xs ≡ front ++ p ∷ rest)
parted p [] e = absurd (cc)
parted p (x ∷ xs) e = go (eqb p x) refl (λ h. parted p xs h)
  where
    go : (b : Bool) → eqb p x ≡ b → (has xs p ≡ true → (front : List ℕ) × (rest : List ℕ) × (xs ≡ front ++ p ∷ rest))
        → (front : List ℕ) × (rest : List ℕ) × (x ∷ xs ≡ front ++ p ∷ rest)
    go true same later = let is : x ≡ p = grind (arith, nat_tests) in ([], xs, ap (λ y. y ∷ xs) is)
    go false other later =
        let more = later (ap (λ b. b || has xs p) (sym other) ∙ e) in (x ∷ more.0, more.1, ap (λ ys. x ∷ ys) more.2)

distinct : (xs : List ℕ) → ((front rest : List ℕ) (p : ℕ) → xs ≡ front ++ p ∷ rest → has front p ≡ false) → Distinct xs
distinct [] once = tt
distinct (x ∷ xs) once =
    (go (has xs x) refl, distinct xs (λ front rest p e. (or_parts (eqb p x) (has front p) (once (x ∷ front) rest p (ap (λ ys. x ∷ ys) e))).1))
  where
    go : (b : Bool) → has xs x ≡ b → has xs x ≡ false
    go false e = e
    go true e =
        let twice = parted x xs e in
        let none : has (x ∷ twice.0) x ≡ false = once (x ∷ twice.0) twice.1 x (ap (λ ys. x ∷ ys) twice.2) in
        let some : has (x ∷ twice.0) x ≡ true = ap (λ b. b || has twice.0 x) (itself x) in absurd (cc)

-- what is assigned at another place stays
stays_one : (u : Update) (work : Work) (p q : ℕ) → eqb q p ≡ false → assigned_at (assign_one u work p).done q ≡ assigned_at work.done q
stays_one u work p q other = go (slice_get u.nodes p) refl
  where
    apart : eqb p q ≡ false
    apart = grind (arith, nat_tests)

    go : (o : Option (List ℕ × Node)) → slice_get u.nodes p ≡ o → assigned_at (assign_one u work p).done q ≡ assigned_at work.done q
    go None at = ap (λ (w : Work). assigned_at w.done q) (one_none u work p at)
    go (Some pair) at = ap (λ (w : Work). assigned_at w.done q) (one_some u work p pair at) ∙ at_more work.done p q _ false apart

stays : (u : Update) (ps : List ℕ) (work : Work) (q : ℕ) → has ps q ≡ false → assigned_at (assign_all u ps work).done q ≡ assigned_at work.done q
stays u [] work q e = refl
stays u (p ∷ ps) work q e =
    let none = or_parts (eqb q p) (has ps q) e in
    stays u ps (assign_one u work p) q none.1 ∙ stays_one u work p q none.0

module _ (all_keep : AllKeep) (u : Update) (first : ℕ) (old : AreBelow first u.tip) where
  one_next : (work : Work) (p : ℕ) → work.next ≡ first + length work.homes → (assign_one u work p).next ≡ first + length (assign_one u work p).homes
  one_next work p next = go (slice_get u.nodes p) refl
    where
      go : (o : Option (List ℕ × Node)) → slice_get u.nodes p ≡ o → (assign_one u work p).next ≡ first + length (assign_one u work p).homes
      go None at = ap (λ (w : Work). w.next) (one_none u work p at) ∙ next ∙ ap (λ (w : Work). first + length w.homes) (sym (one_none u work p at))
      go (Some pair) at =
          let key = key_of u.nodes work.done pair.1 in
          let g = given u p pair key work.next in
          let counted : g.next ≡ first + length (work.homes ++ g.homes) =
          omega (arith, next, given_numbers all_keep u p pair key work.next at, length-append work.homes g.homes) in
          ap (λ (w : Work). w.next) (one_some u work p pair at) ∙ counted ∙ ap (λ (w : Work). first + length w.homes) (sym (one_some u work p pair at))

  one_made : (work : Work) (p : ℕ) (a : ℕ → Assigned) → work.next ≡ first + length work.homes
      → a p ≡ assigned_at (assign_one u work p).done p
      → with_numbers first work.homes ++ new_at u first a p ≡ with_numbers first (assign_one u work p).homes
  one_made work p a next is = go (slice_get u.nodes p) refl
    where
      go : (o : Option (List ℕ × Node)) → slice_get u.nodes p ≡ o
          → with_numbers first work.homes ++ new_at u first a p ≡ with_numbers first (assign_one u work p).homes
      go None at =
          ap (λ (o : Option (List ℕ × Node)). with_numbers first work.homes ++ option_map_or (λ pair. new_of u first p pair (a p)) o []) at
          ∙ append-nil (with_numbers first work.homes)
          ∙ ap (λ (w : Work). with_numbers first w.homes) (sym (one_none u work p at))
      go (Some pair) at =
          let key = key_of u.nodes work.done pair.1 in
          let g = given u p pair key work.next in
          let one : assign_one u work p ≡ extended_work work p g = one_some u work p pair at in
          let here : a p ≡ g.assigned = is ∙ ap (λ (w : Work). assigned_at w.done p) one ∙ at_more work.done p p g.assigned true (itself p) in
          ap (λ (o : Option (List ℕ × Node)). with_numbers first work.homes ++ option_map_or (λ pair. new_of u first p pair (a p)) o []) at
          ∙ ap (λ (x : Assigned). with_numbers first work.homes ++ new_of u first p pair x) here
          ∙ ap (λ xs. with_numbers first work.homes ++ xs) (given_made all_keep u p pair key work.next at first old (omega (arith, next)))
          ∙ ap (λ m. with_numbers first work.homes ++ with_numbers m g.homes) next
          ∙ numbers_more first work.homes g.homes
          ∙ ap (λ (w : Work). with_numbers first w.homes) (sym one)

  all_made : (ps : List ℕ) (work : Work) (a : ℕ → Assigned) → Distinct ps → work.next ≡ first + length work.homes
      → ((q : ℕ) → has ps q ≡ true → a q ≡ assigned_at (assign_all u ps work).done q)
      → with_numbers first work.homes ++ flat_map (new_at u first a) ps ≡ with_numbers first (assign_all u ps work).homes
  all_made [] work a once next is = append-nil (with_numbers first work.homes)
  all_made (p ∷ ps) work a once next is =
      let here : a p ≡ assigned_at (assign_one u work p).done p =
      is p (ap (λ b. b || has ps p) (itself p)) ∙ stays u ps (assign_one u work p) p once.0 in
      sym (append_assoc (with_numbers first work.homes) (new_at u first a p) (flat_map (new_at u first a) ps))
      ∙ ap (λ xs. xs ++ flat_map (new_at u first a) ps) (one_made work p a next here)
      ∙ all_made ps (assign_one u work p) a once.1 (one_next work p next) (λ q e. is q (or_right (eqb q p) (has ps q) e))

  -- all nodes, in the order of imports
  pub made_in_order : ((p : ℕ) → has (order u.nodes) p ≡ true → p < length u.nodes)
      → ((front rest : List ℕ) (p : ℕ) → order u.nodes ≡ front ++ p ∷ rest → has front p ≡ false)
      → new_in u first (assignment u first).assigned ≡ with_numbers first (assignment u first).homes
  made_in_order within once =
      let start : Work = record { done = []; homes = []; next = first } in
      let none : first ≡ first + 0 = omega arith in
      all_made (order u.nodes) start (λ p. slice_index_or (assignment u first).assigned p nothing_assigned) (distinct (order u.nodes) once) none
      (λ q e. let same : 0 + q ≡ q = omega arith in
      get_or-map-range_with_len (assigned_at (assign_all u (order u.nodes) start).done) 0 (length u.nodes) q q nothing_assigned (within q e) same)
