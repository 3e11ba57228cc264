-- The rows of a node, in the subject's words.
use Rattle.std.proofs.Common.{◌≡◌, ℕ, ◌+◌, ◌-◌, ◌<◌, ◌≤◌, cond, List, length, map, Option, Some, None, ap, sym, subst, ◌∙◌, arith}
use Rattle.std.proofs.lemmas.List.{length-map}
use Rattle.std.proofs.lemmas.Option.{slice_get-map, slice_get_past}
use Rattle.std.specs.Prelude.{slice_get, option_map}
use Rattle.std.specs.Option.{option_map_or}
use Rattle.doc_nodes.specs.declared.node.Entry.{Entry}
use Rattle.exec_rules.specs.declared.row.Row.{Row}
use Rattle.exec_rules.specs.Rows.{evaluations}
use Rattle.doc_nodes.specs.declared.node.Node.{Node}
use Rattle.doc_nodes.specs.Imports.{NodeList}
use Rattle.doc_nodes.specs.Prefix.{wanted_prefix, own_wanted}
use Rattle.doc_nodes.specs.Wanted.{is_reached, wanted_at}
use Rattle.exec_rules.specs.declared.key.Key.{Key}
use Rattle.exec_rules.specs.Kept.{kept_count}
use Rattle.exec_rules.specs.Assigning.{Update, rows_in, kept_of, greater}
use Rattle.exec_rules.proofs.KnownCounts.{evaluations_long, kept_of_commands, kept_of_rows, all_or, greater_within, greater_least, greater_most}
use Rattle.exec_rules.proofs.KnownGiven.{rows_given}
use Rattle.exec_rules.proofs.RowParts.{rows_evaluate, front_at, behind_at}

-- no more are wanted than there are commands
pub wanted_commands : ((es : List Entry) → wanted_prefix es ≤ length es) → (nodes : NodeList) (p : ℕ) (pair : List ℕ × Node)
    → slice_get nodes p ≡ Some pair → wanted_at nodes p ≤ length pair.1.entries
wanted_commands within nodes p pair at =
    subst (λ (o : Option (List ℕ × Node)). option_map_or
    (λ pair. cond (is_reached nodes p) (length pair.1.entries) (own_wanted pair.1)) o 0 ≤ length pair.1.entries)
    (sym at)
    (all_or (is_reached nodes p) (own_wanted pair.1) (length pair.1.entries)
    (all_or pair.1.required (wanted_prefix pair.1.entries) (length pair.1.entries) (within pair.1.entries)))

-- how many of its commands are assigned
abbrev count_given : Update → ℕ → List ℕ × Node → Key → ℕ
count_given u p pair key = greater (kept_of u pair key) (wanted_at u.nodes p)

module _ (within : (es : List Entry) → wanted_prefix es ≤ length es) (u : Update) (p : ℕ) (pair : List ℕ × Node)
    (key : Key) (next : ℕ) (at : slice_get u.nodes p ≡ Some pair) where
  pub count_within : count_given u p pair key ≤ length pair.1.entries
  count_within = greater_within (kept_of u pair key) (wanted_at u.nodes p) (length pair.1.entries)
      (kept_of_commands u pair key) (wanted_commands within u.nodes p pair at)

  pub given_long : length (evaluations (rows_in u.tip pair.0) (kept_of u pair key) (count_given u p pair key) next)
      ≡ count_given u p pair key
  given_long = evaluations_long (rows_in u.tip pair.0) (kept_of u pair key) (count_given u p pair key) next
      (greater_least (kept_of u pair key) (wanted_at u.nodes p)) (kept_of_rows u pair key)

  evaluate : map (λ row. row.evaluation) (rows_given u p pair key next)
      ≡ evaluations (rows_in u.tip pair.0) (kept_of u pair key) (count_given u p pair key) next
  evaluate = rows_evaluate pair.1.entries _ _ _ (omega (arith, given_long, count_within))

  pub rows_long : length (rows_given u p pair key next) ≡ count_given u p pair key
  rows_long = sym (length-map (rows_given u p pair key next) (λ (row : Row). row.evaluation)) ∙ ap length evaluate ∙ given_long

  evaluation_at : (i : ℕ) → option_map (λ row. row.evaluation) (slice_get (rows_given u p pair key next) i)
      ≡ slice_get (evaluations (rows_in u.tip pair.0) (kept_of u pair key) (count_given u p pair key) next) i
  evaluation_at i = sym (slice_get-map (λ (row : Row). row.evaluation) (rows_given u p pair key next) i)
      ∙ ap (λ (vs : List ℕ). slice_get vs i) evaluate

  pub keeps_at : (i : ℕ) → i < kept_of u pair key
      → option_map (λ row. row.evaluation) (slice_get (rows_given u p pair key next) i)
      ≡ option_map (λ row. row.evaluation) (slice_get (rows_in u.tip pair.0) i)
  keeps_at i lt = evaluation_at i
      ∙ front_at (rows_in u.tip pair.0) _ (kept_of u pair key) i lt (kept_of_rows u pair key)
      ∙ slice_get-map (λ (row : Row). row.evaluation) (rows_in u.tip pair.0) i

  pub next_at : (i : ℕ) → kept_of u pair key ≤ i → i < wanted_at u.nodes p
      → option_map (λ row. row.evaluation) (slice_get (rows_given u p pair key next) i)
      ≡ Some (next + (i - kept_of u pair key))
  next_at i le lt = evaluation_at i
      ∙ behind_at (rows_in u.tip pair.0) (kept_of u pair key) (count_given u p pair key) next i le
      (omega (arith, greater_most (kept_of u pair key) (wanted_at u.nodes p))) (kept_of_rows u pair key)

  pub covers : wanted_at u.nodes p ≤ length (rows_given u p pair key next)
  covers = omega (arith, rows_long, greater_most (kept_of u pair key) (wanted_at u.nodes p))

  pub none_at : (i : ℕ) → wanted_at u.nodes p ≤ i → kept_of u pair key ≤ i
      → slice_get (rows_given u p pair key next) i ≡ None
  none_at i wanted kept = slice_get_past (rows_given u p pair key next) i
      (omega (arith, rows_long, greater_within (kept_of u pair key) (wanted_at u.nodes p) i kept wanted))
