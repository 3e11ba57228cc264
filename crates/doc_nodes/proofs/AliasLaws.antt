-- The aliases of nodes in the subject's words.
use Rattle.std.proofs.Common.{◌≡◌, ℕ, ◌<◌, eqb, eq-eqb, Bool, true, false, ◌&&◌, ◌||◌, cond, List, [], ◌∷◌, ◌++◌, length, Option, Some, None, refl, sym, ap, ◌∙◌, arith, append_assoc}
use Rattle.std.specs.Prelude.{find}
use Rattle.std.specs.Option.{option_map_or}
use Rattle.std.specs.List.{list_all, flat_map}
use Rattle.std.proofs.lemmas.Bool.{false≢true}
use Rattle.std.proofs.lemmas.Bool.Decides.{nat_tests}
use Rattle.text_words.specs.Members.{has}
use Rattle.doc_nodes.specs.Rounds.{is_known}
use Rattle.doc_nodes.specs.Looks.{aims_at}
use Rattle.text_words.proofs.KnownMembers.{has_both, cut_at, has_middle}
use Rattle.doc_nodes.specs.declared.inherited.NodeAliases.{NodeAliases}
use Rattle.doc_nodes.specs.Imports.{NodeList, aims, is_ordered, order}
use Rattle.doc_nodes.specs.Aliases.{no_aliases, folded, known, pairs_from, own_at, inherited, aliases_by, in_turn, aliases_at}
use Rattle.doc_nodes.specs.HandedDown.{pairs_of, handed_down}
use Rattle.doc_nodes.proofs.OrderLaws.{each_once, aims_before, within_in_order}

module _ (nodes : NodeList) where
  -- what stands in the first part of the order doesn't stand in the second
  not_later : (front rest : List ℕ) (q : ℕ) → order nodes ≡ front ++ rest → has front q ≡ true → has rest q ≡ false
  not_later front rest q e early = go (has rest q) refl
    where
      go : (b : Bool) → has rest q ≡ b → b ≡ false
      go false h = refl
      go true h =
          let c = cut_at rest q h in
          let whole : order nodes ≡ (front ++ c.0) ++ q ∷ c.1 = e ∙ ap (λ xs. front ++ xs) c.2 ∙ sym (append_assoc front c.0 (q ∷ c.1)) in
          absurd (false≢true (sym (each_once nodes (front ++ c.0) q c.1 whole) ∙ has_both front c.0 q ∙ ap (λ b. b || has c.0 q) early))

  in_turn-append : (front rest : List ℕ) (done : List (ℕ × NodeAliases)) → in_turn nodes (front ++ rest) done ≡ in_turn nodes rest (in_turn nodes front done)
  in_turn-append [] rest done = refl
  in_turn-append (q ∷ front) rest done = in_turn-append front rest ((q, aliases_by nodes done q) ∷ done)

  -- later turns leave what is known
  known_kept : (ps : List ℕ) (done : List (ℕ × NodeAliases)) (q : ℕ) → has ps q ≡ false → known (in_turn nodes ps done) q ≡ known done q
  known_kept [] done q h = refl
  known_kept (p ∷ ps) done q h = go (eqb q p) refl h (known_kept ps ((p, aliases_by nodes done p) ∷ done) q)
    where
      go : (b : Bool) → eqb q p ≡ b → (b || has ps q) ≡ false
          → (has ps q ≡ false → known (in_turn nodes (p ∷ ps) done) q ≡ known ((p, aliases_by nodes done p) ∷ done) q)
          → known (in_turn nodes (p ∷ ps) done) q ≡ known done q
      go true e h rest = absurd (false≢true (sym h))
      go false e h rest =
          let other : eqb p q ≡ false = grind (arith, nat_tests) in
          rest h ∙ ap (λ b. option_map_or (λ (one : ℕ × NodeAliases). one.1) (cond b (Some (p, aliases_by nodes done p)) (find (λ (one : ℕ × NodeAliases). eqb one.0 q) done)) no_aliases) other

  known_here : (done : List (ℕ × NodeAliases)) (p : ℕ) (a : NodeAliases) → known ((p, a) ∷ done) p ≡ a
  known_here done p a = ap (λ b. option_map_or (λ (one : ℕ × NodeAliases). one.1) (cond b (Some (p, a)) (find (λ (one : ℕ × NodeAliases). eqb one.0 p) done)) no_aliases) (eq-eqb p p refl)

  module _ (front rest : List ℕ) (p : ℕ) (e : order nodes ≡ front ++ p ∷ rest) where
    abbrev before : List (ℕ × NodeAliases)
    before = in_turn nodes front []

    whole : in_turn nodes (order nodes) [] ≡ in_turn nodes (p ∷ rest) before
    whole = ap (λ (ps : List ℕ). in_turn nodes ps []) e ∙ in_turn-append front (p ∷ rest) []

    not_again : has rest p ≡ false
    not_again =
        let split : order nodes ≡ (front ++ p ∷ []) ++ rest = e ∙ sym (append_assoc front (p ∷ []) rest) in
        not_later (front ++ p ∷ []) rest p split (has_middle front p [])

    own_turn : aliases_at nodes p ≡ aliases_by nodes before p
    own_turn =
        ap (λ (done : List (ℕ × NodeAliases)). known done p) whole
        ∙ known_kept rest ((p, aliases_by nodes before p) ∷ before) p not_again
        ∙ known_here before p (aliases_by nodes before p)

    early_turn : (q : ℕ) → has front q ≡ true → known before q ≡ aliases_at nodes q
    early_turn q h =
        sym (ap (λ (done : List (ℕ × NodeAliases)). known done q) whole ∙ known_kept (p ∷ rest) before q (not_later front (p ∷ rest) q e h))

    all_early : (xs : List (Option ℕ)) → list_all (is_known front) xs ≡ true → flat_map (pairs_from before) xs ≡ flat_map (pairs_of nodes) xs
    all_early [] all = refl
    all_early (None ∷ xs) all = absurd (false≢true all)
    all_early (Some q ∷ xs) all = go (has front q) refl all (all_early xs)
      where
        go : (b : Bool) → has front q ≡ b → (b && list_all (is_known front) xs) ≡ true
            → (list_all (is_known front) xs ≡ true → flat_map (pairs_from before) xs ≡ flat_map (pairs_of nodes) xs)
            → (known before q).pairs ++ flat_map (pairs_from before) xs ≡ (aliases_at nodes q).pairs ++ flat_map (pairs_of nodes) xs
        go true h k later =
            ap (λ (a : NodeAliases). a.pairs ++ flat_map (pairs_from before) xs) (early_turn q h)
            ∙ ap (λ ys. (aliases_at nodes q).pairs ++ ys) (later k)
        go false h k later = absurd (false≢true k)

    inherited_is : inherited nodes before p ≡ handed_down nodes p
    inherited_is = go (is_ordered nodes p) refl
      where
        go : (b : Bool) → is_ordered nodes p ≡ b
            → cond b (flat_map (pairs_from before) (aims_at (aims nodes) p)) [] ≡ cond b (flat_map (pairs_of nodes) (aims_at (aims nodes) p)) []
        go true h = all_early (aims_at (aims nodes) p) (aims_before nodes front p rest e h)
        go false h = refl

    by_imports : aliases_at nodes p ≡ folded no_aliases (handed_down nodes p ++ own_at nodes p)
    by_imports = own_turn ∙ ap (λ xs. folded no_aliases (xs ++ own_at nodes p)) inherited_is

  pub aliases_are : (p : ℕ) → p < length nodes → aliases_at nodes p ≡ folded no_aliases (handed_down nodes p ++ own_at nodes p)
  aliases_are p lt = let c = cut_at (order nodes) p (within_in_order nodes p lt) in by_imports c.0 c.1 p c.2
