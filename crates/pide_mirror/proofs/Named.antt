-- Rows that are found by the names of nodes.
use Rattle.std.proofs.Common.{◌≡◌, ℕ, zero, suc, Bool, true, false, cond, List, [], ◌∷◌, ◌++◌, length, map, Option, Some, None, refl, ap, sym, subst, ◌∙◌, arith}
use Rattle.std.specs.Prelude.{find, slice_get, ◌==◌, ◌||◌}
use Rattle.std.specs.Option.{option_map, option_map_or, option_and_then}
use Rattle.std.proofs.lemmas.Bool.{eq-eqb, eqb-true, false≢true}
use Rattle.text_words.specs.Members.{has}
use Rattle.shared_map.specs.Pairs.{IsSorted, has_key, found}
use Rattle.text_words.proofs.KnownLists.{position_found}
use Rattle.doc_nodes.specs.declared.node.Entry.{Entry}
use Rattle.doc_nodes.specs.declared.node.Node.{Node}
use Rattle.doc_nodes.specs.Names.{in_order, equal}
use Rattle.doc_nodes.specs.Imports.{NodeList, place_of}
use Rattle.doc_nodes.proofs.KnownNames.{name_is, name_itself}
use Rattle.doc_nodes.proofs.KnownPlaces.{place_named}
use Rattle.exec_rules.specs.Listed.{Told}
use Rattle.core_rules.specs.Updates.{AllDiffer}
use Rattle.core_rules.proofs.KnownPlaces.{place_found}
use Rattle.reply_messages.specs.declared.told.NodeRows.{NodeRows}
use Rattle.mirror_rules.specs.Rows.{executions_of, rows_by}
use Rattle.pide_mirror.specs.Listing.{is_of}

-- tests that agree find the same
pub find_by : {A : Type 0} (f g : A → Bool) (xs : List A) → ((x : A) → f x ≡ g x) → find f xs ≡ find g xs
find_by f g [] same = refl
find_by f g (x ∷ xs) same = ap (λ b. cond b (Some x) (find f xs)) (same x) ∙ ap (λ o. cond (g x) (Some x) o) (find_by f g xs same)

-- what is said of each node isn't found where the name is no node's
pub none_named : {B : Type 0} (f : List ℕ × Node → B) (nodes : NodeList) (name : List ℕ) → place_of nodes name ≡ None
    → found in_order name (map (λ p. (p.0, f p)) nodes) ≡ None
none_named {B} f nodes name none = go nodes (sym (position_found (λ pair. equal pair.0 name) nodes) ∙ ap (option_and_then (slice_get nodes)) none)
  where
    go : (ns : NodeList) → find (λ (pair : List ℕ × Node). equal pair.0 name) ns ≡ None → found in_order name (map (λ p. (p.0, f p)) ns) ≡ None
    go [] is = refl
    go (n ∷ ns) is = by (equal n.0 name) is (go ns)
      where
        by : (b : Bool) → cond b (Some n) (find (λ (pair : List ℕ × Node). equal pair.0 name) ns) ≡ None
            → (find (λ (pair : List ℕ × Node). equal pair.0 name) ns ≡ None → found in_order name (map (λ p. (p.0, f p)) ns) ≡ None)
            → option_map (λ (x : List ℕ × B). x.1) (cond b (Some (n.0, f n)) (find (has_key in_order name) (map (λ p. (p.0, f p)) ns))) ≡ None
        by true at rest = absurd (cc)
        by false at rest = rest at

-- a list is of the node at a place just where it has its name
pub of_named : (nodes : NodeList) (p : ℕ) (pair : List ℕ × Node) → IsSorted in_order nodes → slice_get nodes p ≡ Some pair
    → (n : NodeRows) → is_of nodes p n ≡ equal n.node pair.0
of_named nodes p pair sorted at n = go (equal n.node pair.0) refl
  where
    here : (o : Option ℕ) → place_of nodes n.node ≡ o → equal n.node pair.0 ≡ false → option_map_or (λ q. q == p) o false ≡ false
    here None is other = refl
    here (Some q) is other = by (q == p) refl
      where
        by : (b : Bool) → (q == p) ≡ b → b ≡ false
        by false differs = refl
        by true same =
            let there = place_found nodes n.node q is in
            let mine : slice_get nodes p ≡ Some there.pair = ap (slice_get nodes) (sym (eqb-true q p same)) ∙ there.stands in
            let both : Some there.pair ≡ Some pair = sym mine ∙ at in
            let one : there.pair ≡ pair = cc in
            let name : n.node ≡ pair.0 = sym there.named ∙ ap (λ (x : List ℕ × Node). x.0) one in
            absurd (false≢true (sym other ∙ ap (λ x. equal x pair.0) name ∙ name_itself pair.0))

    go : (b : Bool) → equal n.node pair.0 ≡ b → is_of nodes p n ≡ b
    go true same =
        ap (λ o. option_map_or (λ q. q == p) o false) (ap (place_of nodes) (name_is n.node pair.0 same) ∙ place_named nodes p pair sorted at)
        ∙ eq-eqb p p refl
    go false other = here (place_of nodes n.node) refl other

-- a row of another command is passed by
skip_row : (es : List Entry) (row : Told) (rows : List Told) → has (map (λ e. e.command) es) row.0 ≡ false → rows_by es (row ∷ rows) ≡ rows_by es rows
skip_row [] row rows out = refl
skip_row (e ∷ es) row rows out = go (row.0 == e.command) refl out (skip_row es row rows)
  where
    go : (b : Bool) → (row.0 == e.command) ≡ b → (b || has (map (λ e. e.command) es) row.0) ≡ false
        → (has (map (λ e. e.command) es) row.0 ≡ false → rows_by es (row ∷ rows) ≡ rows_by es rows)
        → (e.command, option_map_or (λ (r : Told). r.1) (cond b (Some row) (find (λ r. r.0 == e.command) rows)) []) ∷ rows_by es (row ∷ rows) ≡ rows_by (e ∷ es) rows
    go true same is rest = absurd (false≢true (sym is))
    go false other is rest = ap (λ all. (e.command, executions_of rows e.command) ∷ all) (rest is)

-- rows of these commands, of which no two are one, are theirs as they are
pub rows_own : (es : List Entry) (rows : List Told) → map (λ r. r.0) rows ≡ map (λ e. e.command) es → AllDiffer (map (λ e. e.command) es)
    → rows_by es rows ≡ rows
rows_own [] [] same differ = refl
rows_own [] (r ∷ rows) same differ = absurd (cc)
rows_own (e ∷ es) [] same differ = absurd (cc)
rows_own (e ∷ es) (r ∷ rows) same differ =
    let first : r.0 ≡ e.command = cc in
    let rest : map (λ (x : Told). x.0) rows ≡ map (λ (d : Entry). d.command) es = cc in
    let out : has (map (λ (d : Entry). d.command) es) r.0 ≡ false = ap (has (map (λ (d : Entry). d.command) es)) first ∙ differ.0 in
    ap (λ b. (e.command, option_map_or (λ (x : Told). x.1) (cond b (Some r) (find (λ x. x.0 == e.command) rows)) []) ∷ rows_by es (r ∷ rows)) (eq-eqb r.0 e.command first)
    ∙ ap (λ c. (c, r.1) ∷ rows_by es (r ∷ rows)) (sym first)
    ∙ ap (λ all. r ∷ all) (skip_row es r rows out ∙ rows_own es rows rest differ.1)

-- what stands at the places of two lists that go together, with one item more in each
pub more_at : {A B : Type 0} (Q : ℕ → A → B → Type 0) (front : List A) (all : List B) (n : ℕ) (x : A) (y : B) → n ≡ length front → length front ≡ length all
    → ((p : ℕ) (a : A) → slice_get front p ≡ Some a → (b : B) × (slice_get all p ≡ Some b) × Q p a b) → Q n x y
    → (p : ℕ) (a : A) → slice_get (front ++ x ∷ []) p ≡ Some a → (b : B) × (slice_get (all ++ y ∷ []) p ≡ Some b) × Q p a b
more_at Q [] [] n x y at len so q zero a is =
    let same : x ≡ a = cc in
    (y, refl, subst (λ z. Q zero z y) same (subst (λ k. Q k x y) at q))
more_at Q [] [] n x y at len so q (suc p) a is = absurd (cc)
more_at Q [] (b ∷ all) n x y at len so q p a is = absurd (cc)
more_at Q (f ∷ front) [] n x y at len so q p a is = absurd (cc)
more_at Q (f ∷ front) (b ∷ all) n x y at len so q zero a is = so zero a is
more_at Q (f ∷ front) (b ∷ all) n x y at len so q (suc p) a is =
    let here : n ≡ suc (length front) = omega (arith, at) in
    let rest : length front ≡ length all = omega (arith, len) in
    more_at (λ k. Q (suc k)) front all (length front) x y refl rest (λ k c is. so (suc k) c is) (subst (λ k. Q k x y) here q) p a is
