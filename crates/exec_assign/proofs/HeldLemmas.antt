-- Executions that are not new stand where they stood.
use Rattle.std.proofs.Common.{◌≡◌, ℕ, zero, suc, ◌+◌, ◌-◌, ◌<◌, ◌≤◌, Bool, true, false, cond, List, [], ◌∷◌, ◌++◌, map, take, get_or, Option, Some, None, refl, ap, subst, ◌∙◌, arith}
use Rattle.std.proofs.lemmas.List.Quantifiers.{position-Some}
use Rattle.std.proofs.lemmas.Option.{slice_get-get_or}
use Rattle.std.specs.Prelude.{slice_get}
use Rattle.std.specs.List.{range_with_len}
use Rattle.std.specs.Option.{option_map_or}
use Rattle.doc_nodes.specs.declared.node.Entry.{Entry}
use Rattle.doc_nodes.specs.declared.node.Node.{Node}
use Rattle.doc_nodes.specs.Names.{equal}
use Rattle.doc_nodes.specs.Imports.{NodeList, place_of}
use Rattle.doc_nodes.specs.Wanted.{wanted_at}
use Rattle.doc_nodes.proofs.KnownNames.{name_is}
use Rattle.exec_rules.specs.declared.key.Key.{Key}
use Rattle.exec_rules.specs.declared.row.Row.{Row}
use Rattle.exec_rules.specs.Rows.{live_print, live_prints, print_of, number_behind, with_prints}
use Rattle.exec_rules.specs.Assigning.{Update, rows_in, kept_of, greater, given, assignment}
use Rattle.exec_assign.specs.Telling.{update_version}
use Rattle.exec_assign.specs.Numbered.{IsHeld, AreHeld}
use Rattle.exec_assign.proofs.RowLemmas.{behind_first}
use Rattle.exec_assign.proofs.OldLemmas.{live_is}
use Rattle.exec_assign.proofs.DoneLemmas.{each_assigned}
use Rattle.exec_assign.proofs.BelowLemmas.{rows_named}

-- all executions of a row are new
record IsFresh (first : ℕ) (row : Row) : Type 0 where
  pub evaluation : first ≤ row.evaluation
  pub print : (q : ℕ) → row.print ≡ Some q → first ≤ q

print_fresh : (first : ℕ) (seen : Bool) (m q : ℕ) → first ≤ m → cond seen (Some m) None ≡ Some q → first ≤ q
print_fresh first true m q le e = let same : m ≡ q = cc in omega arith
print_fresh first false m q le e = absurd (cc)

rows_fresh : (first : ℕ) (es : List Entry) (m d x i : ℕ) (row : Row) → first ≤ m → first ≤ x
    → slice_get (with_prints es (range_with_len m d) [] x) i ≡ Some row → IsFresh first row
rows_fresh first [] m d x i row le lx at = absurd (cc)
rows_fresh first (e ∷ es) m zero x i row le lx at = absurd (cc)
rows_fresh first (e ∷ es) m (suc d) x zero row le lx at =
    let same : ◌≡◌ {A = Row} (record { evaluation = m; print = print_of e None x }) row = cc in
    subst (IsFresh first) same (record { evaluation = le; print = λ q. print_fresh first e.visible x q lx })
rows_fresh first (e ∷ es) m (suc d) x (suc i) row le lx at =
    rows_fresh first es (m + 1) d (number_behind e None x) i row (omega arith)
    (omega (arith, behind_first e None x, lx)) at

fresh_held : (first : ℕ) (before : Option Row) (row : Row) → IsFresh first row → IsHeld first before row
fresh_held first before row fresh = record {
  evaluation = λ lt. absurd (omega (arith, lt, fresh.evaluation));
  print = λ q e lt. absurd (omega (arith, lt, fresh.print q e));
}

print_held : (first : ℕ) (cancelled : List ℕ) (print : Option ℕ) (seen : Bool) (m q : ℕ) → first ≤ m
    → (live : Option ℕ) → live_print cancelled print ≡ live
    → cond seen (Some (option_map_or (λ p. p) live m)) None ≡ Some q → q < first → print ≡ Some q
print_held first cancelled print false m q le live same e lt = absurd (cc)
print_held first cancelled print true m q le None same e lt = let new : m ≡ q = cc in absurd (omega arith)
print_held first cancelled print true m q le (Some p) same e lt =
    let old : p ≡ q = cc in live_is cancelled print p same ∙ ap (λ (n : ℕ). Some n) old

-- the first rows keep what they have, and the others are new
rows_held : (first : ℕ) (cancelled : List ℕ) (es : List Entry) (old : List Row) (k m d x i : ℕ) (row : Row) → first ≤ m → first ≤ x
    → slice_get (with_prints es (map (λ r. r.evaluation) (take k old) ++ range_with_len m d) (live_prints cancelled old k) x) i ≡ Some row
    → IsHeld first (slice_get old i) row
rows_held first cancelled [] old k m d x i row le lx at = absurd (cc)
rows_held first cancelled (e ∷ es) old zero m d x i row le lx at =
    fresh_held first (slice_get old i) row (rows_fresh first (e ∷ es) m d x i row le lx at)
rows_held first cancelled (e ∷ es) [] (suc k) m d x i row le lx at =
    fresh_held first None row (rows_fresh first (e ∷ es) m d x i row le lx at)
rows_held first cancelled (e ∷ es) (r ∷ rs) (suc k) m d x zero row le lx at =
    let same : ◌≡◌ {A = Row} (record { evaluation = r.evaluation; print = print_of e (live_print cancelled r.print) x }) row = cc in
    subst (IsHeld first (Some r)) same (record {
      evaluation = λ lt. refl;
      print = λ q is lt. print_held first cancelled r.print e.visible x q lx (live_print cancelled r.print) refl is lt;
    })
rows_held first cancelled (e ∷ es) (r ∷ rs) (suc k) m d x (suc i) row le lx at =
    rows_held first cancelled es rs k m d (number_behind e (live_print cancelled r.print) x) i row
    le
    (omega (arith, behind_first e (live_print cancelled r.print) x, lx)) at

-- the node of a name stands at its place
named_at : (nodes : NodeList) (name : List ℕ) (p : ℕ) → place_of nodes name ≡ Some p
    → (pair : List ℕ × Node) × (slice_get nodes p ≡ Some pair) × (pair.0 ≡ name)
named_at [] name p at = absurd (cc)
named_at (n ∷ ns) name p at =
    let found = position-Some (λ (pair : List ℕ × Node). equal pair.0 name) (n ∷ ns) p n at in
    (get_or (n ∷ ns) p n, slice_get-get_or (n ∷ ns) p n found.0, name_is (get_or (n ∷ ns) p n).0 name found.1)

-- the rows of the node at a place
abbrev HeldAt : Update → ℕ → ℕ → List Row → Type 0
HeldAt u first p rows = (pair : List ℕ × Node) → slice_get u.nodes p ≡ Some pair → (i : ℕ) (row : Row) → slice_get rows i ≡ Some row
    → IsHeld first (slice_get (rows_in u.tip pair.0) i) row

given_held : (u : Update) (first p : ℕ) (pair : List ℕ × Node) (key : Key) (m : ℕ) → slice_get u.nodes p ≡ Some pair → first ≤ m
    → HeldAt u first p (given u p pair key m).assigned.rows
given_held u first p pair key m at le other here i row row_at =
    let k = kept_of u pair key in
    let n = greater k (wanted_at u.nodes p) in
    let it : pair ≡ other = cc in
    subst (λ (x : List ℕ × Node). IsHeld first (slice_get (rows_in u.tip x.0) i) row) it
    (rows_held first u.cancelled pair.1.entries (rows_in u.tip pair.0) k m (n - k) (m + (n - k)) i row le (omega arith) row_at)

pub made_held : (u : Update) (first : ℕ)
    → AreHeld first u.tip (update_version u (assignment u first).assigned)
made_held u first = λ name.
    rows_named u (assignment u first).assigned name
    (λ rows. (i : ℕ) (row : Row) → slice_get rows i ≡ Some row → IsHeld first (slice_get (rows_in u.tip name) i) row)
    (λ i row at. absurd (cc))
    (λ p place i row at.
    let found = named_at u.nodes name p place in
    subst (λ (x : List ℕ). IsHeld first (slice_get (rows_in u.tip x) i) row) found.2
    (each_assigned u first (λ m p rows. HeldAt u first p rows) (λ m n p rows le held. held)
    (λ p pair key m at le. given_held u first p pair key m at le)
    (λ m p pair here i row at. absurd (cc)) p found.0 found.1 i row at))
