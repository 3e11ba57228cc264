-- Where a node wants a command, all commands of its imports are assigned.
use Rattle.std.proofs.Common.{◌≡◌, ℕ, zero, suc, ◌<◌, ◌≤◌, Bool, true, false, cond, ◌||◌, List, [], ◌∷◌, length, map, Option, Some, None, refl, ap, subst, ◌∙◌, arith}
use Rattle.std.proofs.lemmas.Bool.{eq-eqb, or_from, lt-ltb}
use Rattle.std.specs.Prelude.{slice_get, nat_lt}
use Rattle.std.specs.List.{list_any}
use Rattle.std.specs.Option.{option_map_or}
use Rattle.std.proofs.Math.Bool.{or-true}
use Rattle.doc_nodes.specs.Looks.{aims_at}
use Rattle.doc_nodes.specs.declared.node.Entry.{Entry}
use Rattle.doc_nodes.specs.declared.node.Node.{Node}
use Rattle.doc_nodes.specs.Imports.{NodeList, place_of, aims, is_ordered}
use Rattle.doc_nodes.specs.Prefix.{own_wanted}
use Rattle.doc_nodes.specs.Reached.{Reached}
use Rattle.doc_nodes.specs.Wanted.{is_at, is_aimed, is_reached, wanted_at}
use Rattle.exec_rules.specs.declared.key.Last.TheVariants.{Empty}
use Rattle.exec_rules.specs.declared.row.Row.{Row}
use Rattle.exec_rules.specs.declared.row.Assigned.{Assigned}
use Rattle.exec_rules.specs.Keys.{by_row, last_of}
use Rattle.exec_rules.specs.Assigning.{entries_at}
use Rattle.exec_rules.proofs.KnownThere.{get_there}
use Rattle.core_rules.specs.FromScratch.{last_by, is_open_last}
use Rattle.core_rules.proofs.Facts.{NodeFacts}
use Rattle.core_rules.proofs.KnownPlaces.{place_found, aims_found}
use Rattle.core_rules.proofs.AliasesByKey.{entries_found}

-- an import that is a node is aimed at
aimed_name : (nodes : NodeList) (names : List (List ℕ)) (name : List ℕ) (i q : ℕ) → slice_get names i ≡ Some name
    → place_of nodes name ≡ Some q → is_aimed (map (place_of nodes) names) q ≡ true
aimed_name nodes [] name i q at place = absurd (cc)
aimed_name nodes (x ∷ names) name zero q at place =
    let same : x ≡ name = cc in
    let here : place_of nodes x ≡ Some q = ap (place_of nodes) same ∙ place in
    ap (λ o. is_at q o || is_aimed (map (place_of nodes) names) q) here
    ∙ ap (λ b. b || is_aimed (map (place_of nodes) names) q) (eq-eqb q q refl)
aimed_name nodes (x ∷ names) name (suc i) q at place =
    ap (λ b. is_at q (place_of nodes x) || b) (aimed_name nodes names name i q at place) ∙ or-true (is_at q (place_of nodes x))

-- the last of commands that are all assigned has an evaluation
last_shut : (es : List Entry) (rs : List Row) → length es ≤ length rs → is_open_last (last_of es rs) ≡ false
last_shut [] rs le = refl
last_shut (e ∷ es) rs le =
    let there = get_there rs (length es) (omega (arith, le)) in ap (λ o. is_open_last (by_row o)) there.1

module _ (nodes : NodeList) (facts : NodeFacts nodes) (p : ℕ) (pair : List ℕ × Node) (at : slice_get nodes p ≡ Some pair)
    (ordered : is_ordered nodes p ≡ true) (wanted : 0 < wanted_at nodes p) where
  reached_by : (b : Bool) → is_reached nodes p ≡ b → (q : ℕ) → is_aimed (aims_at (aims nodes) p) q ≡ true
      → 0 < cond b (length pair.1.entries) (own_wanted pair.1) → Reached nodes q
  reached_by true is q aimed lt = Reached.further p q ((facts.reached p).0 is) aimed
  reached_by false is q aimed lt = Reached.direct p q ordered
      (ap (λ o. option_map_or (λ (x : List ℕ × Node). nat_lt 0 (own_wanted x.1)) o false) at
      ∙ lt-ltb 0 (own_wanted pair.1) lt) aimed

  -- an import is wanted as a whole
  pub import_wanted : (name : List ℕ) (i q : ℕ) (other : List ℕ × Node) → slice_get pair.1.imports i ≡ Some name
      → place_of nodes name ≡ Some q → slice_get nodes q ≡ Some other → wanted_at nodes q ≡ length other.1.entries
  import_wanted name i q other is place there =
      let aimed : is_aimed (aims_at (aims nodes) p) q ≡ true =
      ap (λ xs. is_aimed xs q) (aims_found nodes nodes p pair at) ∙ aimed_name nodes pair.1.imports name i q is place in
      let lt : 0 < cond (is_reached nodes p) (length pair.1.entries) (own_wanted pair.1) =
      subst (λ o. 0 < option_map_or (λ (x : List ℕ × Node). cond (is_reached nodes p) (length x.1.entries) (own_wanted x.1)) o 0)
      at wanted in
      let reached : is_reached nodes q ≡ true =
      (facts.reached q).1 (reached_by (is_reached nodes p) refl q aimed lt) in
      ap (λ o. option_map_or (λ (x : List ℕ × Node). cond (is_reached nodes q) (length x.1.entries) (own_wanted x.1)) o 0) there
      ∙ ap (λ b. cond b (length other.1.entries) (own_wanted other.1)) reached

  -- so no import's last command is without an evaluation
  module _ (assigned : ℕ → Assigned)
      (covers : (name : List ℕ) (i q : ℕ) → slice_get pair.1.imports i ≡ Some name → place_of nodes name ≡ Some q
      → wanted_at nodes q ≤ length (assigned q).rows) where
    one_shut : (name : List ℕ) (i : ℕ) (o : Option ℕ) → slice_get pair.1.imports i ≡ Some name → place_of nodes name ≡ o
        → is_open_last (option_map_or (λ p. last_of (entries_at nodes p) (assigned p).rows) o Empty) ≡ false
    one_shut name i None is place = refl
    one_shut name i (Some q) is place =
        let found = place_found nodes name q place in
        let long : length (entries_at nodes q) ≡ length found.pair.1.entries =
        ap length (entries_found nodes q found.pair found.stands) in
        last_shut (entries_at nodes q) (assigned q).rows
        (omega (arith, long, covers name i q is place, import_wanted name i q found.pair is place found.stands))

    pub all_shut : (names : List (List ℕ))
        → ((i : ℕ) (name : List ℕ) → slice_get names i ≡ Some name → (k : ℕ) × (slice_get pair.1.imports k ≡ Some name))
        → list_any is_open_last (map (last_by nodes assigned) names) ≡ false
    all_shut [] within = refl
    all_shut (name ∷ names) within = or_from _ _
        (one_shut name (within zero name refl).0 (place_of nodes name) (within zero name refl).1 refl)
        (all_shut names (λ i x is. within (suc i) x is))
