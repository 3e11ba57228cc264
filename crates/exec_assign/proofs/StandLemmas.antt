-- Nodes that are given what they had.
use Rattle.std.proofs.Common.{◌≡◌, ℕ, ◌+◌, ◌-◌, ◌≤◌, Bool, true, false, cond, List, [], ◌++◌, length, map, drop, Option, Some, refl, ap, subst, ◌∙◌, arith, append-nil}
use Rattle.std.proofs.lemmas.List.{take_all, length-map}
use Rattle.std.proofs.lemmas.Bool.{ltb-true}
use Rattle.std.specs.Prelude.{slice_get, nat_lt}
use Rattle.std.specs.List.{range_with_len}
use Rattle.std.specs.Option.{option_map_or}
use Rattle.shared_map.specs.Pairs.{found}
use Rattle.doc_nodes.specs.declared.node.Entry.{Entry}
use Rattle.doc_nodes.specs.declared.node.Node.{Node}
use Rattle.doc_nodes.specs.Names.{in_order}
use Rattle.doc_nodes.specs.Wanted.{wanted_at}
use Rattle.exec_rules.specs.declared.key.Key.{Key}
use Rattle.exec_rules.specs.declared.row.Row.{Row}
use Rattle.exec_rules.specs.declared.row.Assigned.{Assigned}
use Rattle.exec_rules.specs.declared.home.Head.{Head}
use Rattle.exec_rules.specs.declared.home.Home.{Home}
use Rattle.exec_rules.specs.Keys.{same_key}
use Rattle.exec_rules.specs.Kept.{agree, kept_count}
use Rattle.exec_rules.specs.Rows.{live_print, evaluations, live_prints, with_prints, behind_prints}
use Rattle.exec_rules.specs.Homes.{eval_homes, print_homes}
use Rattle.exec_rules.specs.Assigning.{Update, Given, times, entries_in, rows_in, assigned_in, kept_of, greater, node_given, head_at, given}
use Rattle.exec_assign.specs.Fitting.{Fit}
use Rattle.exec_assign.specs.Untouched.{IsAlive, IsUntouched}
use Rattle.exec_assign.proofs.HomeLemmas.{eval_over}
use Rattle.exec_assign.proofs.AgainLemmas.{kept_whole, fit_long, evaluations_of, prints_of, rows_again, none_taken, no_homes, live_all}

greater_by : (b : Bool) (k n : ℕ) → nat_lt k n ≡ b → n ≤ k → cond b n k ≡ k
greater_by true k n e le = absurd (omega (arith, ltb-true k n e))
greater_by false k n e le = refl

evaluations_all : (rs : List Row) (next k : ℕ) → k ≡ length rs → evaluations rs k k next ≡ evaluations_of rs
evaluations_all rs next k all =
    let none : k - k ≡ 0 = omega arith in
    ap (λ (xs : List Row). evaluations_of xs ++ range_with_len next (k - k)) (take_all k rs (omega arith))
    ∙ ap (λ n. evaluations_of rs ++ range_with_len next n) none
    ∙ append-nil (evaluations_of rs)

prints_all : (cancelled : List ℕ) (rs : List Row) (k : ℕ) → k ≡ length rs
    → ((i : ℕ) (row : Row) → slice_get rs i ≡ Some row → IsAlive cancelled row) → live_prints cancelled rs k ≡ prints_of rs
prints_all cancelled rs k all alive =
    ap (λ (xs : List Row). map (λ row. live_print cancelled row.print) xs) (take_all k rs (omega arith)) ∙ live_all cancelled rs alive

-- what a node is given, by its evaluations and the prints that it can keep
abbrev pub shaped : Update → List ℕ × Node → Head → ℕ → List ℕ → List (Option ℕ) → ℕ → Given
shaped u pair head k vs live m = record {
  assigned = record { key = head.key; rows = with_prints pair.1.entries vs live m };
  homes = drop k (eval_homes pair.1 u.blobs head vs) ++ print_homes pair.1 u.blobs pair.1.entries vs live;
  next = behind_prints pair.1.entries vs live m;
}

-- by its parts
pub given_made : (a : Assigned) (key : Key) (rows : List Row) (homes hs : List Home) (next m : ℕ) → a ≡ record { key = key; rows = rows } → homes ≡ hs → next ≡ m
    → ◌≡◌ {A = Given} (record { assigned = a; homes = homes; next = next }) (record { assigned = record { key = key; rows = rows }; homes = hs; next = m })
given_made a key rows homes hs next m ea eh em =
    ap (λ (x : Assigned). record { assigned = x; homes = homes; next = next }) ea
    ∙ ap (λ (x : List Home). record { assigned = record { key = key; rows = rows }; homes = x; next = next }) eh
    ∙ ap (λ (x : ℕ). record { assigned = record { key = key; rows = rows }; homes = hs; next = x }) em

shaped_again : (u : Update) (pair : List ℕ × Node) (head : Head) (k : ℕ) (rs : List Row) (m : ℕ) → Fit pair.1.entries rs → k ≡ length rs
    → shaped u pair head k (evaluations_of rs) (prints_of rs) m ≡ record { assigned = record { key = head.key; rows = rs }; homes = []; next = m }
shaped_again u pair head k rs m fit all =
    let long : length (evaluations_of rs) ≡ length rs = length-map rs (λ (row : Row). row.evaluation) in
    let short : length rs ≤ length pair.1.entries = fit_long pair.1.entries rs fit in
    given_made _ head.key rs _ [] _ m (ap (λ (xs : List Row). record { key = head.key; rows = xs }) (rows_again pair.1.entries rs m fit))
    (ap (λ (hs : List Home). hs ++ print_homes pair.1 u.blobs pair.1.entries (evaluations_of rs) (prints_of rs))
    (eval_over pair.1 u.blobs head (evaluations_of rs) k (omega arith) (omega arith))
    ∙ no_homes pair.1 u.blobs pair.1.entries rs fit)
    (none_taken pair.1.entries rs m fit)

by_again : (u : Update) (pair : List ℕ × Node) (head : Head) (k n : ℕ) (rs : List Row) (next : ℕ) → rows_in u.tip pair.0 ≡ rs → Fit pair.1.entries rs
    → ((i : ℕ) (row : Row) → slice_get rs i ≡ Some row → IsAlive u.cancelled row) → k ≡ length rs → n ≡ k
    → node_given u pair head k n next ≡ record
    { assigned = record { key = head.key; rows = rs }; homes = []; next = next }
by_again u pair head k n rs next rows fit alive all same =
    let none : next + (k - k) ≡ next = omega arith in
    ap (λ (m : ℕ). node_given u pair head k m next) same
    ∙ ap (λ (xs : List Row). shaped u pair head k (evaluations xs k k next) (live_prints u.cancelled xs k) (next + (k - k))) rows
    ∙ ap (λ (m : ℕ). shaped u pair head k (evaluations rs k k next) (live_prints u.cancelled rs k) m) none
    ∙ ap (λ (vs : List ℕ). shaped u pair head k vs (live_prints u.cancelled rs k) next) (evaluations_all rs next k all)
    ∙ ap (λ (ps : List (Option ℕ)). shaped u pair head k (evaluations_of rs) ps next) (prints_all u.cancelled rs k all alive)
    ∙ shaped_again u pair head k rs next fit all

-- an untouched node whose key is as before, of which no more is wanted, and no blob changed
pub given_again : (u : Update) (p : ℕ) (pair : List ℕ × Node) (key : Key) (old : Assigned) → IsUntouched u pair
    → ((name : List ℕ) → agree (found in_order name u.blobs) (found in_order name u.tip.blobs) ≡ true)
    → Fit (entries_in u.tip pair.0) (rows_in u.tip pair.0) → assigned_in u.tip pair.0 ≡ Some old → same_key key old.key ≡ true
    → key ≡ old.key → wanted_at u.nodes p ≤ length old.rows
    → (next : ℕ) → given u p pair key next ≡ record { assigned = old; homes = []; next = next }
given_again u p pair key old untouched agrees fits had same keys wanted next =
    let rows : rows_in u.tip pair.0 ≡ old.rows = ap (λ (o : Option Assigned). option_map_or (λ a. a.rows) o []) had in
    let fit : Fit pair.1.entries old.rows =
    subst (λ (xs : List Row). Fit pair.1.entries xs) rows (subst (λ (es : List Entry). Fit es (rows_in u.tip pair.0)) untouched.commands fits) in
    let alive : (i : ℕ) (row : Row) → slice_get old.rows i ≡ Some row → IsAlive u.cancelled row =
    subst (λ (xs : List Row). (i : ℕ) (row : Row) → slice_get xs i ≡ Some row → IsAlive u.cancelled row) rows untouched.alive in
    let all : kept_of u pair key ≡ length old.rows =
    ap (λ (o : Option Assigned). option_map_or (λ a. cond (same_key key a.key) (kept_count (times u) pair.1.entries (entries_in u.tip pair.0) a.rows) 0) o 0) had
    ∙ ap (λ b. cond b (kept_count (times u) pair.1.entries (entries_in u.tip pair.0) old.rows) 0)
    same
    ∙ ap (λ (es : List Entry). kept_count (times u) pair.1.entries es old.rows) untouched.commands
    ∙ kept_whole (times u) agrees pair.1.entries old.rows fit alive in
    by_again u pair (head_at u p pair key) (kept_of u pair key) (greater (kept_of u pair key) (wanted_at u.nodes p)) old.rows next rows fit alive all
    (greater_by (nat_lt (kept_of u pair key) (wanted_at u.nodes p)) (kept_of u pair key) (wanted_at u.nodes p) refl (omega arith))
    ∙ ap (λ (k : Key). record { assigned = record { key = k; rows = old.rows }; homes = []; next = next }) keys
