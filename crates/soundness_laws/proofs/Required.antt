-- All commands of a required node and of what it needs have evaluations.
use Rattle.std.proofs.Common.{◌≡◌, ℕ, ◌<◌, ◌≤◌, ◌↔◌, ◌⊎◌, inl, inr, Bool, true, false, cond, ◌||◌, List, [], ◌∷◌, length, map, Some, refl, ap, sym, subst, ◌∙◌, arith}
use Rattle.std.proofs.lemmas.Bool.{eq-eqb, lt-ltb}
use Rattle.std.proofs.Math.Bool.{or-true}
use Rattle.std.specs.Prelude.{slice_get, nat_lt}
use Rattle.std.specs.Option.{option_map_or}
use Rattle.doc_nodes.specs.Looks.{aims_at}
use Rattle.doc_nodes.specs.declared.node.Node.{Node}
use Rattle.doc_nodes.specs.Imports.{NodeList, aims, is_ordered, place_of}
use Rattle.doc_nodes.specs.Prefix.{own_wanted, wanted_prefix}
use Rattle.doc_nodes.specs.Reached.{Reached}
use Rattle.doc_nodes.specs.Wanted.{is_aimed, is_at, is_reached, wanted_at, wants}
use Rattle.exec_rules.specs.declared.version.Version.{Version}
use Rattle.exec_rules.specs.Assigning.{entries_at, entries_in}
use Rattle.core_rules.specs.FromScratch.{assigned_to}
use Rattle.core_rules.proofs.KnownPlaces.{place_found, aims_found, rows_found}
use Rattle.soundness_laws.specs.Imports.{IsListed, Needs, itself, imports}
use Rattle.soundness_laws.specs.Seen.{IsWhole, OfEachNeeded}

-- what an update leaves: what is wanted is assigned, and a node without commands has no imports
abbrev pub IsAssigned : Version → Type 0
IsAssigned v = (q : ℕ) (pair : List ℕ × Node) → slice_get v.nodes q ≡ Some pair
    → (wanted_at v.nodes q ≤ length (assigned_to v q).rows) × (pair.1.entries ≡ [] → pair.1.imports ≡ [])

aimed_name : (nodes : NodeList) (names : List (List ℕ)) (name : List ℕ) (q : ℕ) → IsListed names name → place_of nodes name ≡ Some q
    → is_aimed (map (place_of nodes) names) q ≡ true
aimed_name nodes [] name q listed place = absurd listed
aimed_name nodes (x ∷ names) name q (inl same) place =
    ap (λ o. is_at q o || is_aimed (map (place_of nodes) names) q) (ap (place_of nodes) same ∙ place)
    ∙ ap (λ b. b || is_aimed (map (place_of nodes) names) q) (eq-eqb q q refl)
aimed_name nodes (x ∷ names) name q (inr later) place =
    ap (λ b. is_at q (place_of nodes x) || b) (aimed_name nodes names name q later place) ∙ or-true (is_at q (place_of nodes x))

aimed : (nodes : NodeList) (p q : ℕ) (pair : List ℕ × Node) (name : List ℕ) → slice_get nodes p ≡ Some pair → IsListed pair.1.imports name
    → place_of nodes name ≡ Some q → is_aimed (aims_at (aims nodes) p) q ≡ true
aimed nodes p q pair name at listed place =
    ap (λ xs. is_aimed xs q) (aims_found nodes nodes p pair at) ∙ aimed_name nodes pair.1.imports name q listed place

-- what a reached node needs is reached
reach_on : {nodes : NodeList} {p q : ℕ} → Needs nodes p q → Reached nodes p → Reached nodes q
reach_on itself reached = reached
reach_on {nodes} {p} (imports pair name at listed place needs) reached =
    reach_on needs (Reached.further p _ reached (aimed nodes p _ pair name at listed place))

some_length : {A : Type 0} (xs : List A) → (xs ≡ [] → ⊥) → 0 < length xs
some_length [] none = absurd (none refl)
some_length (x ∷ xs) none = omega arith

module _ (v : Version) (is : IsAssigned v) (reaches : (q : ℕ) → (is_reached v.nodes q ≡ true) ↔ Reached v.nodes q) (p : ℕ)
    (pair : List ℕ × Node) (at : slice_get v.nodes p ≡ Some pair) (required : pair.1.required ≡ true) (ordered : is_ordered v.nodes p ≡ true) where
  own : own_wanted pair.1 ≡ length pair.1.entries
  own = ap (λ b. cond b (length pair.1.entries) (wanted_prefix pair.1.entries)) required

  it_wants : (name : List ℕ) → IsListed pair.1.imports name → wants v.nodes p ≡ true
  it_wants name listed =
      let some : 0 < length pair.1.entries =
      some_length pair.1.entries (λ none. subst (λ names. IsListed names name) ((is p pair at).1 none) listed) in
      ap (λ o. option_map_or (λ (x : List ℕ × Node). nat_lt 0 (own_wanted x.1)) o false) at
      ∙ lt-ltb 0 (own_wanted pair.1) (omega (arith, own, some))

  -- what is needed is the node or is reached
  reached_or : (q : ℕ) → Needs v.nodes p q → (q ≡ p) ⊎ (is_reached v.nodes q ≡ true)
  reached_or q itself = inl refl
  reached_or q (imports other name there listed place needs) =
      let same : other ≡ pair = let h = sym there ∙ at in cc in
      let here : IsListed pair.1.imports name = subst (λ (x : List ℕ × Node). IsListed x.1.imports name) same listed in
      inr ((reaches q).1 (reach_on needs (Reached.direct p _ ordered (it_wants name here) (aimed v.nodes p _ pair name at here place))))

  wanted_by : (q : ℕ) (other : List ℕ × Node) → slice_get v.nodes q ≡ Some other → (q ≡ p) ⊎ (is_reached v.nodes q ≡ true)
      → wanted_at v.nodes q ≡ length other.1.entries
  wanted_by q other there (inr reached) =
      ap (λ o. option_map_or (λ (x : List ℕ × Node). cond (is_reached v.nodes q) (length x.1.entries) (own_wanted x.1)) o 0) there
      ∙ ap (λ b. cond b (length other.1.entries) (own_wanted other.1)) reached
  wanted_by q other there (inl e) =
      let same : other ≡ pair = let h = sym there ∙ ap (slice_get v.nodes) e ∙ at in cc in
      ap (λ o. option_map_or (λ (x : List ℕ × Node). cond (is_reached v.nodes q) (length x.1.entries) (own_wanted x.1)) o 0) there
      ∙ subst (λ (x : List ℕ × Node). cond (is_reached v.nodes q) (length x.1.entries) (own_wanted x.1) ≡ length x.1.entries) (sym same)
      (go (is_reached v.nodes q))
    where
      go : (b : Bool) → cond b (length pair.1.entries) (own_wanted pair.1) ≡ length pair.1.entries
      go true = refl
      go false = own

  pub whole_from : OfEachNeeded (IsWhole v) v p
  whole_from q name needs place =
      let other = place_found v.nodes name q place in
      let entries : entries_in v name ≡ other.pair.1.entries =
      ap (λ o. option_map_or (entries_at v.nodes) o []) place
      ∙ ap (λ o. option_map_or (λ (x : List ℕ × Node). x.1.entries) o []) other.stands in
      let rows = rows_found v name q place in
      let wanted = wanted_by q other.pair other.stands (reached_or q needs) in
      let le = (is q other.pair other.stands).0 in
      omega (arith, ap length entries, ap length rows, wanted, le)
