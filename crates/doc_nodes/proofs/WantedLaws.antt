-- What is reached, in the subject's words.
use Rattle.std.proofs.Common.{◌≡◌, ◌⊎◌, inl, inr, ℕ, eqb, Bool, true, false, ◌&&◌, ◌||◌, cond, List, [], ◌∷◌, ◌++◌, Option, Some, None, refl, sym, ap, subst, ◌∙◌, arith, append_assoc}
use Rattle.std.specs.List.{list_all}
use Rattle.std.proofs.lemmas.Bool.{false≢true, and_parts, or_cases}
use Rattle.std.proofs.lemmas.Bool.Decides.{nat_tests}
use Rattle.std.proofs.lemmas.List.Folds.{list_any-append}
use Rattle.std.proofs.Math.Bool.{or-true}
use Rattle.text_words.specs.Members.{has}
use Rattle.doc_nodes.specs.Rounds.{is_known}
use Rattle.doc_nodes.specs.Looks.{aims_at}
use Rattle.text_words.proofs.KnownMembers.{has_both, cut_at}
use Rattle.doc_nodes.proofs.KnownOrdered.{ordered_known}
use Rattle.doc_nodes.specs.Imports.{NodeList, aims, is_ordered, ordered_places, order}
use Rattle.doc_nodes.specs.Wanted.{is_at, is_aimed, wants, hands_on, reached, is_reached}
use Rattle.doc_nodes.specs.Reached.{Reached}
use Rattle.doc_nodes.specs.Reached.Reached.{direct, further}
use Rattle.doc_nodes.proofs.OrderLaws.{each_once, aims_before, within_in_order}
use Rattle.doc_nodes.proofs.WantedLemmas.{placed_within}

-- what is aimed at is known, where all aims are
aimed_known : (places : List ℕ) (aims : List (Option ℕ)) (p : ℕ) → list_all (is_known places) aims ≡ true → is_aimed aims p ≡ true → has places p ≡ true
aimed_known places [] p all h = absurd (false≢true h)
aimed_known places (None ∷ aims) p all h = absurd (false≢true all)
aimed_known places (Some q ∷ aims) p all h = go (eqb p q) refl h (and_parts (has places q) (list_all (is_known places) aims) all) (aimed_known places aims p)
  where
    go : (b : Bool) → eqb p q ≡ b → (b || is_aimed aims p) ≡ true → (has places q ≡ true) × (list_all (is_known places) aims ≡ true)
        → (list_all (is_known places) aims ≡ true → is_aimed aims p ≡ true → has places p ≡ true) → has places p ≡ true
    go true e h k rest = let same : p ≡ q = grind (arith, nat_tests) in ap (has places) same ∙ k.0
    go false e h k rest = rest k.1 h

module _ (nodes : NodeList) where
  aims_of_place : ℕ → List (Option ℕ)
  aims_of_place q = aims_at (aims nodes) q

  -- what is reached from these places is reached
  reached_from : (ps : List ℕ) (p : ℕ) → is_aimed (reached nodes ps) p ≡ true → Reached nodes p
  reached_from [] p h = absurd (false≢true h)
  reached_from (q ∷ ps) p h =
      go (hands_on nodes (reached nodes ps) q) refl
      (or_cases _ _ (sym (list_any-append (is_at p) (cond (hands_on nodes (reached nodes ps) q) (aims_at (aims nodes) q) []) (reached nodes ps)) ∙ h))
      (reached_from ps)
    where
      from : (is_ordered nodes q && (wants nodes q || is_aimed (reached nodes ps) q)) ≡ true → is_aimed (aims_at (aims nodes) q) p ≡ true
          → ((r : ℕ) → is_aimed (reached nodes ps) r ≡ true → Reached nodes r) → Reached nodes p
      from hands aimed rest =
          let b = and_parts (is_ordered nodes q) (wants nodes q || is_aimed (reached nodes ps) q) hands in
          elim (or_cases (wants nodes q) (is_aimed (reached nodes ps) q) b.1) [
            | inl idle ↦ direct q p b.0 idle aimed
            | inr later ↦ further q p (rest q later) aimed
          ]

      go : (b : Bool) → hands_on nodes (reached nodes ps) q ≡ b
          → (is_aimed (cond b (aims_at (aims nodes) q) []) p ≡ true) ⊎ (is_aimed (reached nodes ps) p ≡ true)
          → ((r : ℕ) → is_aimed (reached nodes ps) r ≡ true → Reached nodes r) → Reached nodes p
      go b e (inr later) rest = rest p later
      go true e (inl aimed) rest = from e aimed rest
      go false e (inl aimed) rest = absurd (false≢true aimed)

  -- what a later place reaches is reached
  reached_more : (front : List ℕ) (ps : List ℕ) (p : ℕ) → is_aimed (reached nodes ps) p ≡ true → is_aimed (reached nodes (front ++ ps)) p ≡ true
  reached_more [] ps p h = h
  reached_more (q ∷ front) ps p h =
      list_any-append (is_at p) (cond (hands_on nodes (reached nodes (front ++ ps)) q) (aims_at (aims nodes) q) []) (reached nodes (front ++ ps))
      ∙ ap (λ b. is_aimed (cond (hands_on nodes (reached nodes (front ++ ps)) q) (aims_at (aims nodes) q) []) p || b) (reached_more front ps p h)
      ∙ or-true (is_aimed (cond (hands_on nodes (reached nodes (front ++ ps)) q) (aims_at (aims nodes) q) []) p)

  handed : (q p : ℕ) (ps : List ℕ) → hands_on nodes (reached nodes ps) q ≡ true → is_aimed (aims_at (aims nodes) q) p ≡ true → is_aimed (reached nodes (q ∷ ps)) p ≡ true
  handed q p ps hands aimed =
      list_any-append (is_at p) (cond (hands_on nodes (reached nodes ps) q) (aims_at (aims nodes) q) []) (reached nodes ps)
      ∙ ap (λ b. is_aimed (cond b (aims_at (aims nodes) q) []) p || is_aimed (reached nodes ps) p) hands
      ∙ ap (λ b. b || is_aimed (reached nodes ps) p) aimed

  -- none of the places up to a node's own reaches it
  reached_behind : (before front : List ℕ) (q : ℕ) (ps : List ℕ) → order nodes ≡ before ++ (front ++ q ∷ ps)
      → is_aimed (reached nodes (front ++ q ∷ ps)) q ≡ true → is_aimed (reached nodes ps) q ≡ true
  reached_behind before [] q ps e h =
      go (hands_on nodes (reached nodes ps) q) refl
      (or_cases _ _ (sym (list_any-append (is_at q) (cond (hands_on nodes (reached nodes ps) q) (aims_at (aims nodes) q) []) (reached nodes ps)) ∙ h))
    where
      go : (b : Bool) → hands_on nodes (reached nodes ps) q ≡ b
          → (is_aimed (cond b (aims_at (aims nodes) q) []) q ≡ true) ⊎ (is_aimed (reached nodes ps) q ≡ true) → is_aimed (reached nodes ps) q ≡ true
      go b f (inr later) = later
      go true f (inl aimed) =
          let b = and_parts (is_ordered nodes q) (wants nodes q || is_aimed (reached nodes ps) q) f in
          let early = aimed_known before (aims_at (aims nodes) q) q (aims_before nodes before q ps e b.0) aimed in
          absurd (false≢true (sym (each_once nodes before q ps e) ∙ early))
      go false f (inl aimed) = absurd (false≢true aimed)
  reached_behind before (z ∷ front) q ps e h =
      go (hands_on nodes (reached nodes (front ++ q ∷ ps)) z) refl
      (or_cases _ _ (sym (list_any-append (is_at q) (cond (hands_on nodes (reached nodes (front ++ q ∷ ps)) z) (aims_at (aims nodes) z) []) (reached nodes (front ++ q ∷ ps))) ∙ h))
      (reached_behind (before ++ z ∷ []) front q ps (e ∙ sym (append_assoc before (z ∷ []) (front ++ q ∷ ps))))
    where
      twice : order nodes ≡ (before ++ z ∷ front) ++ q ∷ ps
      twice = e ∙ sym (append_assoc before (z ∷ front) (q ∷ ps))

      go : (b : Bool) → hands_on nodes (reached nodes (front ++ q ∷ ps)) z ≡ b
          → (is_aimed (cond b (aims_at (aims nodes) z) []) q ≡ true) ⊎ (is_aimed (reached nodes (front ++ q ∷ ps)) q ≡ true)
          → (is_aimed (reached nodes (front ++ q ∷ ps)) q ≡ true → is_aimed (reached nodes ps) q ≡ true) → is_aimed (reached nodes ps) q ≡ true
      go b f (inr later) rest = rest later
      go true f (inl aimed) rest =
          let b = and_parts (is_ordered nodes z) (wants nodes z || is_aimed (reached nodes (front ++ q ∷ ps)) z) f in
          let early = aimed_known before (aims_at (aims nodes) z) q (aims_before nodes before z (front ++ q ∷ ps) e b.0) aimed in
          let first = each_once nodes (before ++ z ∷ front) q ps twice in
          absurd (false≢true (sym first ∙ has_both before (z ∷ front) q ∙ ap (λ c. c || has (z ∷ front) q) early))
      go false f (inl aimed) rest = absurd (false≢true aimed)

  aimed_ordered : (q p : ℕ) → is_ordered nodes q ≡ true → is_aimed (aims_at (aims nodes) q) p ≡ true → is_ordered nodes p ≡ true
  aimed_ordered q p h aimed = aimed_known (ordered_places nodes) (aims_at (aims nodes) q) p
      (ordered_known (aims nodes) q h) aimed

  hands_by : (q p : ℕ) → is_ordered nodes q ≡ true → is_aimed (aims_at (aims nodes) q) p ≡ true
      → ((ps : List ℕ) (front : List ℕ) → order nodes ≡ front ++ q ∷ ps → (wants nodes q || is_aimed (reached nodes ps) q) ≡ true) → is_reached nodes p ≡ true
  hands_by q p h aimed some =
      let c = cut_at (order nodes) q (within_in_order nodes q (placed_within nodes q h)) in
      let hands : hands_on nodes (reached nodes c.1) q ≡ true = ap (λ b. b && (wants nodes q || is_aimed (reached nodes c.1) q)) h ∙ some c.1 c.0 c.2 in
      subst (λ (ps : List ℕ). is_aimed (reached nodes ps) p ≡ true) (sym c.2) (reached_more c.0 (q ∷ c.1) p (handed q p c.1 hands aimed))

  pub reached_sound : (p : ℕ) → is_reached nodes p ≡ true → Reached nodes p
  reached_sound p h = reached_from (order nodes) p h

  both_reached : (p : ℕ) → Reached nodes p → (is_ordered nodes p ≡ true) × (is_reached nodes p ≡ true)
  both_reached p (direct q r h busy aimed) =
      (aimed_ordered q p h aimed, hands_by q p h aimed (λ ps front e. ap (λ b. b || is_aimed (reached nodes ps) q) busy))
  both_reached p (further q r before aimed) =
      let b = both_reached q before in (
        aimed_ordered q p b.0 aimed,
        hands_by q p b.0 aimed (λ ps front e.
            ap (λ c. wants nodes q || c) (reached_behind [] front q ps e (subst (λ (xs : List ℕ). is_aimed (reached nodes xs) q ≡ true) e b.1))
            ∙ or-true (wants nodes q)),
      )

  pub reached_complete : (p : ℕ) → Reached nodes p → is_reached nodes p ≡ true
  reached_complete p r = (both_reached p r).1
