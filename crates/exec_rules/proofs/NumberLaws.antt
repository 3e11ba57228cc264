-- How many numbers an update gives.
use Rattle.std.proofs.Common.{◌≡◌, ℕ, ◌+◌, ◌-◌, ◌≤◌, List, [], ◌∷◌, length, drop, Option, Some, None, refl, ◌∙◌, arith}
use Rattle.std.proofs.lemmas.List.{length-append, length-drop}
use Rattle.std.specs.Prelude.{slice_get}
use Rattle.std.specs.Option.{option_map_or}
use Rattle.doc_nodes.specs.declared.node.Entry.{Entry}
use Rattle.doc_nodes.specs.declared.node.Node.{Node}
use Rattle.doc_nodes.specs.Prefix.{wanted_prefix}
use Rattle.doc_nodes.specs.Wanted.{wanted_at}
use Rattle.exec_rules.specs.declared.key.Key.{Key}
use Rattle.exec_rules.specs.Keys.{key_of}
use Rattle.exec_rules.specs.Rows.{evaluations, live_prints}
use Rattle.exec_rules.specs.Homes.{eval_homes, print_homes}
use Rattle.exec_rules.specs.Assigning.{Update, Work, extended_work, rows_in, kept_of, greater, head_at, given, assign_one, assign_all}
use Rattle.exec_rules.proofs.KnownCounts.{kept_of_rows, greater_least, evaluations_long}
use Rattle.exec_rules.proofs.KnownNumbers.{print_numbers, eval_count}
use Rattle.exec_rules.proofs.RowLaws.{count_within}

-- what a node is given
given_numbers : (within : (es : List Entry) → wanted_prefix es ≤ length es) (u : Update) (p : ℕ) (pair : List ℕ × Node)
    (key : Key) (next : ℕ) → slice_get u.nodes p ≡ Some pair
    → (given u p pair key next).next ≡ next + length (given u p pair key next).homes
given_numbers within u p pair key next at =
    let k = kept_of u pair key in
    let n = greater k (wanted_at u.nodes p) in
    let vs = evaluations (rows_in u.tip pair.0) k n next in
    let live = live_prints u.cancelled (rows_in u.tip pair.0) k in
    let head = head_at u p pair key in
    let long : length vs ≡ n = evaluations_long (rows_in u.tip pair.0) k n next (greater_least k (wanted_at u.nodes p)) (kept_of_rows u pair key) in
    let le : length vs ≤ length pair.1.entries = omega (arith, long, count_within within u p pair key next at) in
    print_numbers pair.1 u.blobs pair.1.entries vs live (next + (n - k))
    ∙ omega (
      arith,
      long,
      eval_count pair.1 u.blobs head vs le,
      length-drop k (eval_homes pair.1 u.blobs head vs),
      length-append (drop k (eval_homes pair.1 u.blobs head vs)) (print_homes pair.1 u.blobs pair.1.entries vs live),
      greater_least k (wanted_at u.nodes p),
    )

one_numbers : (within : (es : List Entry) → wanted_prefix es ≤ length es) (u : Update) (work : Work) (p next : ℕ)
    → work.next ≡ next + length work.homes → (assign_one u work p).next ≡ next + length (assign_one u work p).homes
one_numbers within u work p next e = go (slice_get u.nodes p) refl
  where
    go : (o : Option (List ℕ × Node)) → slice_get u.nodes p ≡ o
        → (option_map_or (λ pair. extended_work work p (given u p pair (key_of u.nodes work.done
        pair.1) work.next)) o work).next
        ≡ next + length (option_map_or (λ pair. extended_work work p (given u p pair (key_of u.nodes work.done pair.1) work.next)) o work).homes
    go None at = e
    go (Some pair) at = omega (
      arith,
      e,
      given_numbers within u p pair (key_of u.nodes work.done pair.1) work.next at,
      length-append work.homes (given u p pair (key_of u.nodes work.done pair.1) work.next).homes,
    )

pub all_numbers : (within : (es : List Entry) → wanted_prefix es ≤ length es) (u : Update) (ps : List ℕ) (work : Work) (next : ℕ)
    → work.next ≡ next + length work.homes → (assign_all u ps work).next ≡ next + length (assign_all u ps work).homes
all_numbers within u [] work next e = e
all_numbers within u (p ∷ ps) work next e =
    all_numbers within u ps (assign_one u work p) next (one_numbers within u work p next e)
