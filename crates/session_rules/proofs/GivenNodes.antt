-- What an update gives all nodes, one after the other in the order of imports.
use Rattle.std.proofs.Common.{◌≡◌, ℕ, ◌+◌, ◌<◌, ◌⊎◌, inl, inr, true, List, [], ◌∷◌, ◌++◌, length, Some, refl, ap, sym, subst, ◌∙◌, arith, append_assoc, append-nil}
use Rattle.std.proofs.lemmas.Option.{slice_get_within}
use Rattle.std.specs.Prelude.{◌==◌, slice_get}
use Rattle.std.specs.Option.{option_map_or}
use Rattle.text_words.specs.Members.{has}
use Rattle.text_words.proofs.KnownMembers.{has_middle}
use Rattle.doc_nodes.specs.declared.node.Node.{Node}
use Rattle.doc_nodes.specs.Imports.{order}
use Rattle.exec_rules.specs.declared.row.Assigned.{Assigned}
use Rattle.exec_rules.specs.declared.version.Version.{Version}
use Rattle.exec_rules.specs.Keys.{nothing_assigned, assigned_at, key_of}
use Rattle.exec_rules.specs.Assigning.{Update, Work, Given, extended_work, given, assign_one, assign_all, assigned_all, assignment}
use Rattle.exec_rules.proofs.KnownThere.{get_there}
use Rattle.exec_rules.proofs.KnownGiven.{given_rises}
use Rattle.core_rules.specs.Doc.{assigned_version}
use Rattle.core_rules.specs.FromScratch.{assigned_to}
use Rattle.core_rules.proofs.KnownKeys.{key_is, key_rests, assigned_other, assigned_newest, other_place, inside_more, listed}
use Rattle.session_rules.proofs.GivenNode.{InOrder, IsGiven, AreGiven, among, given_on}

module _ (u : Update) (made : ℕ) (facts : InOrder u.nodes) where
  module _ (w : Work) (front rest : List ℕ) (p : ℕ) (pair : List ℕ × Node) (at : slice_get u.nodes p ≡ Some pair)
      (split : order u.nodes ≡ front ++ p ∷ rest) (so : AreGiven u made w front) where
    abbrev g : Given
    g = given u p pair (key_of u.nodes w.done pair.1) w.next

    abbrev done : List (ℕ × Assigned)
    done = (p, g.assigned) ∷ w.done

    agree : (q : ℕ) → has front q ≡ true → assigned_at w.done q ≡ assigned_at done q
    agree q is = sym (assigned_other w.done g.assigned p q (other_place front p q (p == q) refl (facts.once front rest p split) is))

    here : assigned_at done p ≡ g.assigned
    here = assigned_newest w.done g.assigned p

    new_given : IsGiven u made (assigned_at done) (front ++ p ∷ []) p pair
    new_given = record {
      next = w.next;
      new = so.next;
      is = here ∙ ap (λ k. (given u p pair k w.next).assigned) (sym (ap (λ (a : Assigned). a.key) here));
      key = ap (λ (a : Assigned). a.key) here ∙ key_is u.nodes w.done pair.1
          ∙ key_rests u.nodes front (assigned_at w.done) (assigned_at done) agree pair.1 (facts.inside front rest p pair split at);
      inside = λ good. inside_more u.nodes front p pair.1.imports (facts.inside front rest p pair split at good);
    }

    each_given : (q : ℕ) (other : List ℕ × Node) → (has front q ≡ true) ⊎ (q ≡ p) → slice_get u.nodes q ≡ Some other
        → IsGiven u made (assigned_at done) (front ++ p ∷ []) q other
    each_given q other (inl is) there = given_on u made (assigned_at w.done) (assigned_at done) front (front ++ p ∷ []) agree
        (inside_more u.nodes front p) q other is (so.each q other is there)
    each_given q other (inr e) there =
        let same : pair ≡ other = let h = sym at ∙ ap (slice_get u.nodes) (sym e) ∙ there in cc in
        subst (λ x. IsGiven u made (assigned_at done) (front ++ p ∷ []) x other) (sym e)
        (subst (λ x. IsGiven u made (assigned_at done) (front ++ p ∷ []) p x) same new_given)

    pub step : AreGiven u made (extended_work w p g) (front ++ p ∷ [])
    step = record {
      next = let more = given_rises u p pair (key_of u.nodes w.done pair.1) w.next in omega (arith, more, so.next);
      each = λ q other is there. each_given q other (among front p q is) there;
    }

  one : (w : Work) (front rest : List ℕ) (p : ℕ) → order u.nodes ≡ front ++ p ∷ rest → AreGiven u made w front
      → AreGiven u made (assign_one u w p) (front ++ p ∷ [])
  one w front rest p split so =
      let there : has (order u.nodes) p ≡ true = ap (λ ps. has ps p) split ∙ has_middle front p rest in
      let found = get_there u.nodes p ((facts.every p).0 there) in
      subst (λ x. AreGiven u made x (front ++ p ∷ []))
      (sym (ap (λ o. option_map_or (λ (pair : List ℕ × Node). extended_work w p (given u p pair (key_of u.nodes w.done pair.1) w.next)) o w) found.1))
      (step w front rest p found.0 found.1 split so)

  all : (ps front : List ℕ) (w : Work) → order u.nodes ≡ front ++ ps → AreGiven u made w front
      → AreGiven u made (assign_all u ps w) (order u.nodes)
  all [] front w split so = subst (AreGiven u made w) (sym (split ∙ append-nil front)) so
  all (p ∷ ps) front w split so = all ps (front ++ p ∷ []) (assign_one u w p)
      (split ∙ sym (append_assoc front (p ∷ []) ps)) (one w front ps p split so)

  module _ (first : ℕ) (less : made < first) where
    all_given : AreGiven u made (assigned_all u first) (order u.nodes)
    all_given = all (order u.nodes) [] (record { done = []; homes = []; next = first }) refl
        (record { next = less; each = λ p pair is at. absurd (cc) })

    abbrev pub new : Version
    new = assigned_version u.nodes u.blobs (assignment u first)

    listed_at : (p : ℕ) → p < length u.nodes → assigned_to new p ≡ assigned_at (assigned_all u first).done p
    listed_at p lt =
        let e : 0 + p ≡ p = omega arith in
        ap (λ o. option_map_or (λ (a : Assigned). a) o nothing_assigned) (listed (assigned_all u first).done 0 (length u.nodes) p lt)
        ∙ ap (assigned_at (assigned_all u first).done) e

    -- each node of the new version
    pub given_in : (p : ℕ) (pair : List ℕ × Node) → slice_get u.nodes p ≡ Some pair
        → IsGiven u made (assigned_to new) (order u.nodes) p pair
    given_in p pair at =
        let is = (facts.every p).1 (slice_get_within u.nodes p pair at) in
        given_on u made (assigned_at (assigned_all u first).done) (assigned_to new) (order u.nodes) (order u.nodes)
        (λ q there. sym (listed_at q ((facts.every q).0 there))) (λ names known. known) p pair is (all_given.each p pair is at)
