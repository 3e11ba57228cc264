-- What is told of a node's results is what is shown of it, and what is pending in it.
use Rattle.std.proofs.Common.{◌≡◌, ℕ, zero, suc, ◌≤◌, Bool, true, false, not, ◌&&◌, List, [], ◌∷◌, ◌++◌, map, filter, length, Some, refl, ap, sym, ◌∙◌}
use Rattle.std.proofs.lemmas.Bool.{or_left, or_right, eq-eqb, and_parts}
use Rattle.std.proofs.lemmas.List.Elements.{filter-append}
use Rattle.std.specs.Prelude.{◌==◌, slice_get, flat_map}
use Rattle.std.specs.List.{range_with_len}
use Rattle.std.specs.List.Sorted.{IsStrictlyIncreasing}
use Rattle.std.proofs.Math.Bool.{and-false, and-true}
use Rattle.text_words.specs.Members.{has}
use Rattle.text_words.proofs.KnownMembers.{has_passing}
use Rattle.doc_nodes.specs.declared.node.Entry.{Entry}
use Rattle.exec_rules.specs.declared.row.Row.{Row}
use Rattle.exec_rules.specs.Listed.{executions}
use Rattle.language.specs.Lang.{Lang}
use Rattle.core_rules.specs.declared.event.Event.{Event}
use Rattle.core_rules.specs.Assigned.{is_assigned}
use Rattle.core_rules.specs.Parts.{parts_of, reports_of}
use Rattle.core_rules.specs.Standing.{is_open}
use Rattle.core_rules.specs.Doc.{Doc, doc}
use Rattle.core_rules.specs.Shown.{PartShown, shown_with, commands_parts}
use Rattle.core_rules.proofs.KnownNumbers.{numbered_within, numbered_positive}
use Rattle.prover_core.specs.Kept.{Tables, IsKept}
use Rattle.core_jobs.specs.Parts.{parts_known, rows_known, is_unfinished}
use Rattle.prover_core.specs.Results.{is_reported}
use Rattle.prover_core.proofs.OpenRows.{row_known, done_closed}
use Rattle.doc_nodes.proofs.KnownRising.{risen_range}
use Rattle.prover_core.proofs.ShownParts.{execution_shown}

filter_flat : {A B : Type 0} (test : B → Bool) (f : A → List B) (xs : List A) → filter test (flat_map f xs) ≡ flat_map (λ x. filter test (f x)) xs
filter_flat test f [] = refl
filter_flat test f (x ∷ xs) = filter-append test (f x) (flat_map f xs) ∙ ap (λ ys. filter test (f x) ++ ys) (filter_flat test f xs)

flat_alike : {B : Type 0} (f g : ℕ → List B) (xs : List ℕ) → ((x : ℕ) → has xs x ≡ true → f x ≡ g x) → flat_map f xs ≡ flat_map g xs
flat_alike f g [] same = refl
flat_alike f g (x ∷ xs) same =
    ap (λ ys. ys ++ flat_map f xs) (same x (or_left (x == x) (has xs x) (eq-eqb x x refl)))
    ∙ ap (λ ys. g x ++ ys) (flat_alike f g xs (λ y is. same y (or_right (y == x) (has xs y) is)))

module _ {S : Type 0} (l : Lang S) (h : List Event) (t : Tables S) (k : IsKept l h t) where
  abbrev d : Doc
  d = doc l h

  -- one execution
  pub one_known : (entry : Entry) (e : ℕ) → is_assigned d.live e ≡ true
      → filter is_reported (map (λ p. shown_with h entry (reports_of l d.homes p) p) (parts_of l d.homes e))
      ≡ parts_known entry.range e (t.rows e)
  one_known entry e live =
      execution_shown l h d entry e (k.known e live) (has d.cancelled e) (k.in_order e)
      ∙ sym (ap (parts_known entry.range e) (k.rows e ∙ row_known l h d e (k.known e live) live))

  -- the first commands of a node
  pub rows_shown : (es : List Entry) (rows : List Row)
      → ((i e : ℕ) (row : Row) → slice_get rows i ≡ Some row → has (executions row) e ≡ true → is_assigned d.live e ≡ true)
      → filter is_reported (commands_parts l h d.homes es rows) ≡ rows_known t.rows es rows
  rows_shown [] rows live = refl
  rows_shown (entry ∷ es) [] live = refl
  rows_shown (entry ∷ es) (row ∷ rows) live =
      filter-append is_reported (flat_map parts (executions row)) (commands_parts l h d.homes es rows)
      ∙ ap (λ ps. ps ++ filter is_reported (commands_parts l h d.homes es rows))
      (filter_flat is_reported parts (executions row)
      ∙ flat_alike (λ e. filter is_reported (parts e)) (λ e. parts_known entry.range e (t.rows e)) (executions row)
      (λ e is. one_known entry e (live zero e row refl is)))
      ∙ ap (λ ps. flat_map (λ e. parts_known entry.range e (t.rows e)) (executions row) ++ ps)
      (rows_shown es rows (λ i e r at is. live (suc i) e r at is))
    where
      parts : ℕ → List PartShown
      parts e = map (λ p. shown_with h entry (reports_of l d.homes p) p) (parts_of l d.homes e)

  -- an execution has an unfinished part where it is open
  pub unfinished_open : (e : ℕ) → is_assigned d.live e ≡ true → is_unfinished (t.rows e) ≡ is_open l h d.homes e
  unfinished_open e live = ap is_unfinished (k.rows e ∙ row_known l h d e (k.known e live) live)
      ∙ ap not (done_closed l h d e (k.known e live)) ∙ twice (is_open l h d.homes e)
    where
      twice : (b : Bool) → not (not b) ≡ b
      twice true = refl
      twice false = refl

  -- those among some that live versions assign, rising
  pub open_risen : (xs kept : List ℕ) → ((e : ℕ) → has xs e ≡ true → is_assigned d.live e ≡ true) → IsStrictlyIncreasing kept
      → ((e : ℕ) → has kept e ≡ has (filter (λ n. is_unfinished (t.rows n)) xs) e)
      → kept ≡ filter (λ e. has xs e && is_open l h d.homes e) (range_with_len 1 (length d.homes))
  open_risen xs kept live rises same = risen_range (λ e. has xs e && is_open l h d.homes e) (length d.homes) kept rises
      (λ e. same e ∙ has_passing (λ n. is_unfinished (t.rows n)) xs e ∙ by e (has xs e) refl) within
    where
      by : (e : ℕ) (b : Bool) → has xs e ≡ b → (is_unfinished (t.rows e) && has xs e) ≡ (has xs e && is_open l h d.homes e)
      by e true is = ap (λ b. is_unfinished (t.rows e) && b) is ∙ and-true (is_unfinished (t.rows e))
          ∙ unfinished_open e (live e is) ∙ sym (ap (λ b. b && is_open l h d.homes e) is)
      by e false is = ap (λ b. is_unfinished (t.rows e) && b) is ∙ and-false (is_unfinished (t.rows e))
          ∙ sym (ap (λ b. b && is_open l h d.homes e) is)

      within : (e : ℕ) → (has xs e && is_open l h d.homes e) ≡ true → (1 ≤ e) × (e ≤ length d.homes)
      within e is =
          let x = k.known e (live e (and_parts (has xs e) (is_open l h d.homes e) is).0) in
          (numbered_positive d.homes e x.home x.homed, numbered_within d.homes e x.home x.homed)
