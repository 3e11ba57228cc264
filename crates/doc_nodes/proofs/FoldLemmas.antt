-- The fold of aliases.
use Rattle.std.proofs.Common.{◌≡◌, ℕ, suc, ◌+◌, ◌<◌, ◌≤◌, drop, Bool, true, false, cond, List, [], ◌∷◌, ◌++◌, length, get_or, set, get_or-set_same, get_or-set_other, eqb, Option, Some, None, Result, Ok, Err, IfOk, refl, sym, ap, subst, ◌∙◌, arith, length-append, append-nil, append_assoc}
use Rattle.std.specs.Prelude.{find, slice_get}
use Rattle.std.specs.Option.{option_map_or}
use Rattle.std.proofs.lemmas.Bool.Decides.{nat_tests}
use Rattle.doc_nodes.specs.Imports.{NodeList, order}
use Rattle.std.proofs.Math.Seq.{drop-cons}
use Rattle.std.proofs.lemmas.Option.{slice_get-get_or}
use Rattle.std.proofs.lemmas.List.{drop_all}
use Rattle.doc_nodes.proofs.WantedLemmas.{order_within}
use Rattle.std.specs.List.{flat_map}
use Rattle.shared_map.specs.Pairs.{found}
use Rattle.doc_nodes.specs.Names.{in_order, equal}
use Rattle.doc_nodes.specs.declared.inherited.NodeAliases.{NodeAliases}
use Rattle.doc_nodes.specs.Aliases.{is_target, no_aliases, left_out, with_target, taken_in, folded, known, pairs_from, own_at, inherited, aliases_by, in_turn, aliases_at}
use Rattle.doc_nodes.specs.Known.{IsClean, AreKnown}
use Rattle.doc_nodes.proofs.CleanFolds.{folded-append, clean_folded}

-- a fold adds behind what is there
grows_taken : (a : NodeAliases) (pair : List ℕ × List ℕ) → (more : List (List ℕ × List ℕ)) × ((taken_in a pair).pairs ≡ a.pairs ++ more)
grows_taken a pair = go (is_target pair.1) (found in_order pair.0 a.pairs)
  where
    kept : (b : Bool) → (more : List (List ℕ × List ℕ)) × ((cond b a (left_out a pair)).pairs ≡ a.pairs ++ more)
    kept true = ([], sym (append-nil a.pairs))
    kept false = ([], sym (append-nil a.pairs))

    go : (good : Bool) (o : Option (List ℕ)) → (more : List (List ℕ × List ℕ)) × ((cond good (with_target a pair o) (left_out a pair)).pairs ≡ a.pairs ++ more)
    go false o = ([], sym (append-nil a.pairs))
    go true (Some target) = kept (equal pair.1 target)
    go true None = (pair ∷ [], refl)

grows : (pairs : List (List ℕ × List ℕ)) (a : NodeAliases) → (more : List (List ℕ × List ℕ)) × ((folded a pairs).pairs ≡ a.pairs ++ more)
grows [] a = ([], sym (append-nil a.pairs))
grows (pair ∷ pairs) a =
    let first = grows_taken a pair in
    let later = grows pairs (taken_in a pair) in
    (first.0 ++ later.0, later.1 ∙ ap (λ xs. xs ++ later.0) first.1 ∙ append_assoc a.pairs first.0 later.0)

no_more : {X : Type 0} (xs more all : List X) → all ≡ xs ++ more → length xs ≡ length all → all ≡ xs
no_more xs [] all e len = e ∙ append-nil xs
no_more xs (x ∷ more) all e len = absurd (omega (arith, ap length e, length-append xs (x ∷ more)))

-- where a fold that begins with clean aliases has no more than these, it has these
pub folded_same : (a : NodeAliases) (rest : List (List ℕ × List ℕ)) → IsClean a → length a.pairs ≡ length (folded no_aliases (a.pairs ++ rest)).pairs
    → (folded no_aliases (a.pairs ++ rest)).pairs ≡ a.pairs
folded_same a rest clean len =
    let whole : folded no_aliases (a.pairs ++ rest) ≡ folded (record { pairs = a.pairs; bad = None }) rest =
    folded-append a.pairs rest no_aliases ∙ ap (λ (b : NodeAliases). folded b rest) clean in
    let more = grows rest (record { pairs = a.pairs; bad = None }) in
    no_more a.pairs more.0 _ (ap (λ (b : NodeAliases). b.pairs) whole ∙ more.1) len

-- the same for the aliases of a first import
pub first_same : (all : List NodeAliases) (done : List (ℕ × NodeAliases)) (aims : List (Option ℕ)) (own : List (List ℕ × List ℕ)) (base : List (List ℕ × List ℕ))
    → AreKnown all done → (q : ℕ) × (rest : List (Option ℕ)) × (aims ≡ Some q ∷ rest) × (base ≡ (get_or all q no_aliases).pairs)
    → length base ≡ length (folded no_aliases (flat_map (pairs_from done) aims ++ own)).pairs
    → base ≡ (folded no_aliases (flat_map (pairs_from done) aims ++ own)).pairs
first_same all done aims own base are first len =
    let q = first.0 in
    let rest = flat_map (pairs_from done) first.1 in
    let from : flat_map (pairs_from done) aims ++ own ≡ (known done q).pairs ++ (rest ++ own) =
    ap (λ (xs : List (Option ℕ)). flat_map (pairs_from done) xs ++ own) first.2 ∙ append_assoc (known done q).pairs rest own in
    let is : base ≡ (known done q).pairs = first.3 ∙ ap (λ (a : NodeAliases). a.pairs) (are.are q) in
    is
    ∙ sym (folded_same (known done q) (rest ++ own) (are.clean q)
    (sym (ap length is) ∙ len ∙ ap (λ (xs : List (List ℕ × List ℕ)). length (folded no_aliases xs).pairs) from))
    ∙ ap (λ (xs : List (List ℕ × List ℕ)). (folded no_aliases xs).pairs) (sym from)

pub paired : (a : NodeAliases) (pairs : List (List ℕ × List ℕ)) (bad : Option (List ℕ)) → pairs ≡ a.pairs → bad ≡ a.bad → record { pairs = pairs; bad = bad } ≡ a
paired a pairs bad e f = ap (λ (p : List (List ℕ × List ℕ)). record { pairs = p; bad = bad }) e ∙ ap (λ (b : Option (List ℕ)). record { pairs = a.pairs; bad = b }) f

pub same_along : {A E : Type 0} (r : Result A E) (a b : A) → IfOk r (λ made. made ≡ a) → a ≡ b → IfOk r (λ made. made ≡ b)
same_along (Ok made) a b is e = is ∙ e
same_along (Err fault) a b is e = tt

-- by its parts, where they could be made
pub made_by : {E : Type 0} (r : Result NodeAliases E) (pairs : Result (List (List ℕ × List ℕ)) E) (bad : Option (List ℕ)) (a : NodeAliases)
    → IfOk r (λ made. pairs ≡ Ok made.pairs) → IfOk r (λ made. made.bad ≡ bad) → IfOk pairs (λ ps. ps ≡ a.pairs) → bad ≡ a.bad
    → IfOk r (λ made. made ≡ a)
made_by {E} (Ok made) pairs bad a ep eb same bads =
    paired a made.pairs made.bad (subst (λ (r : Result (List (List ℕ × List ℕ)) E). IfOk r (λ ps. ps ≡ a.pairs)) ep same) (eb ∙ bads)
made_by (Err fault) pairs bad a ep eb same bads = tt

-- what is known of one place more
pub known_more : (all : List NodeAliases) (done : List (ℕ × NodeAliases)) (p : ℕ) (a : NodeAliases) → AreKnown all done → p < length all → IsClean a
    → AreKnown (set all p a) ((p, a) ∷ done)
known_more all done p a are lt clean = record { are = λ q. at q (eqb p q) refl; clean = λ q. tidy q (eqb p q) refl }
  where
    at : (q : ℕ) (b : Bool) → eqb p q ≡ b → get_or (set all p a) q no_aliases ≡ known ((p, a) ∷ done) q
    at q true e =
        let same : p ≡ q = grind (arith, nat_tests) in
        ap (λ r. get_or (set all p a) r no_aliases) (sym same) ∙ get_or-set_same all p a no_aliases lt ∙ ap (λ b. option_map_or (λ (one : ℕ × NodeAliases). one.1) (cond b (Some (p, a)) (find (λ (one : ℕ × NodeAliases). eqb one.0 q) done)) no_aliases) (sym e)
    at q false e =
        let other : q ≡ p → ⊥ = grind (arith, nat_tests) in
        get_or-set_other all p q a no_aliases other ∙ are.are q ∙ ap (λ b. option_map_or (λ (one : ℕ × NodeAliases). one.1) (cond b (Some (p, a)) (find (λ (one : ℕ × NodeAliases). eqb one.0 q) done)) no_aliases) (sym e)

    tidy : (q : ℕ) (b : Bool) → eqb p q ≡ b → IsClean (known ((p, a) ∷ done) q)
    tidy q true e = subst IsClean (ap (λ b. option_map_or (λ (one : ℕ × NodeAliases). one.1) (cond b (Some (p, a)) (find (λ (one : ℕ × NodeAliases). eqb one.0 q) done)) no_aliases) (sym e)) clean
    tidy q false e = subst IsClean (ap (λ b. option_map_or (λ (one : ℕ × NodeAliases). one.1) (cond b (Some (p, a)) (find (λ (one : ℕ × NodeAliases). eqb one.0 q) done)) no_aliases) (sym e)) (are.clean q)

-- the aliases of any node are clean
pub clean_by : (nodes : NodeList) (done : List (ℕ × NodeAliases)) (p : ℕ) → IsClean (aliases_by nodes done p)
clean_by nodes done p = clean_folded (inherited nodes done p ++ own_at nodes p) no_aliases refl

-- the next node's turn
pub turn_step : (nodes : NodeList) (places : List ℕ) (all : List NodeAliases) (done : List (ℕ × NodeAliases)) (i : ℕ) (a : NodeAliases)
    → places ≡ order nodes → length all ≡ length nodes → i < length places → AreKnown all done → a ≡ aliases_by nodes done (get_or places i 0)
    → in_turn nodes (drop i (order nodes)) done ≡ in_turn nodes (order nodes) []
    → (more : List (ℕ × NodeAliases)) × AreKnown (set all (get_or places i 0) a) more
    × (in_turn nodes (drop (i + 1) (order nodes)) more ≡ in_turn nodes (order nodes) [])
turn_step nodes places all done i a same len lt are is turn =
    let within : i < length (order nodes) = subst (λ (ps : List ℕ). i < length ps) same lt in
    let place : get_or places i 0 ≡ get_or (order nodes) i 0 = ap (λ (ps : List ℕ). get_or ps i 0) same in
    let placed : get_or places i 0 < length all = omega (arith, order_within nodes i within) in
    let next : suc i ≡ i + 1 = omega arith in (
      (get_or places i 0, a) ∷ done,
      known_more all done (get_or places i 0) a are placed (subst IsClean (sym is) (clean_by nodes done (get_or places i 0))),
      ap (λ (b : NodeAliases). in_turn nodes (drop (i + 1) (order nodes)) ((get_or places i 0, b) ∷ done)) is
          ∙ ap (λ (q : ℕ). in_turn nodes (drop (i + 1) (order nodes)) ((q, aliases_by nodes done q) ∷ done)) place
          ∙ ap (λ (n : ℕ). in_turn nodes (drop n (order nodes)) ((get_or (order nodes) i 0, aliases_by nodes done (get_or (order nodes) i 0)) ∷ done)) (sym next)
          ∙ ap (λ (ps : List ℕ). in_turn nodes ps done) (sym (drop-cons (order nodes) i 0 within))
          ∙ turn,
    )

-- when each has had its turn
pub turn_over : (nodes : NodeList) (places : List ℕ) (all : List NodeAliases) (done : List (ℕ × NodeAliases)) (i : ℕ)
    → places ≡ order nodes → length places ≤ i → AreKnown all done → in_turn nodes (drop i (order nodes)) done ≡ in_turn nodes (order nodes) []
    → (p : ℕ) → p < length all → slice_get all p ≡ Some (aliases_at nodes p)
turn_over nodes places all done i same le are turn p lt =
    let past : length (order nodes) ≤ i = subst (λ (ps : List ℕ). length ps ≤ i) same le in
    slice_get-get_or all p no_aliases lt
    ∙ ap (λ (a : NodeAliases). Some a) (are.are p ∙ ap (λ (d : List (ℕ × NodeAliases)). known d p) (ap (λ (ps : List ℕ). in_turn nodes ps done) (sym (drop_all i (order nodes) past)) ∙ turn))
