-- An update assigns nothing that is cancelled.
use Rattle.std.proofs.Common.{◌≡◌, ℕ, zero, suc, ◌+◌, ◌<◌, Bool, true, false, cond, List, [], ◌∷◌, ◌++◌, length, map, find, Option, Some, None, refl, ap, sym, ◌∙◌, arith}
use Rattle.text_words.proofs.KnownLists.{each-both}
use Rattle.std.proofs.lemmas.Bool.{or_from, eqb-true, false≢true}
use Rattle.std.specs.Prelude.{◌==◌, slice_get, flat_map}
use Rattle.std.specs.Option.{option_map_or}
use Rattle.std.specs.List.{AllByRecursion, range_with_len}
use Rattle.text_words.specs.Members.{has}
use Rattle.doc_nodes.specs.declared.node.Node.{Node}
use Rattle.doc_nodes.specs.Imports.{NodeList, order}
use Rattle.exec_rules.specs.declared.row.Row.{Row}
use Rattle.exec_rules.specs.declared.row.Assigned.{Assigned}
use Rattle.exec_rules.specs.Keys.{nothing_assigned, assigned_at, key_of}
use Rattle.exec_rules.specs.Kept.{BlobList}
use Rattle.exec_rules.specs.Listed.{executions, print_list}
use Rattle.exec_rules.specs.Assigning.{Update, Work, extended_work, given, assign_one, assign_all}
use Rattle.core_rules.specs.Numbered.{next_number}
use Rattle.core_rules.specs.Assigned.{assigns}
use Rattle.core_rules.specs.Doc.{Doc, update_of, assignment_of, assigned_version}
use Rattle.core_rules.proofs.Tables.{AtMost}
use Rattle.core_rules.proofs.NotCancelled.{NoneOf, PrintNot, RowNot, RowsNot, given_not}

-- what is done so far
abbrev DoneNot : List ℕ → List (ℕ × Assigned) → Type 0
DoneNot c done = AllByRecursion (λ one. RowsNot c one.1.rows) done

abbrev WorkNot : List ℕ → ℕ → Work → Type 0
WorkNot c m w = (m < w.next) × DoneNot c w.done

module _ (u : Update) (m : ℕ) (all : AtMost m u.cancelled) where
  one_not : (w : Work) (p : ℕ) → WorkNot u.cancelled m w → WorkNot u.cancelled m (assign_one u w p)
  one_not w p so = go (slice_get u.nodes p)
    where
      go : (o : Option (List ℕ × Node)) → WorkNot u.cancelled m
          (option_map_or (λ (pair : List ℕ × Node). extended_work w p (given u p pair (key_of
          u.nodes w.done pair.1) w.next)) o w)
      go None = so
      go (Some pair) =
          let made = given_not u m all p pair (key_of u.nodes w.done pair.1) w.next so.0 in (made.1, (made.0, so.1))

  all_not : (ps : List ℕ) (w : Work) → WorkNot u.cancelled m w → WorkNot u.cancelled m (assign_all u ps w)
  all_not [] w so = so
  all_not (p ∷ ps) w so = all_not ps (assign_one u w p) (one_not w p so)

at_not : (c : List ℕ) (done : List (ℕ × Assigned)) (p : ℕ) → DoneNot c done → RowsNot c (assigned_at done p).rows
at_not c [] p so = tt
at_not c (one ∷ done) p so = go (one.0 == p) (at_not c done p so.1)
  where
    go : (b : Bool) → RowsNot c (assigned_at done p).rows
        → RowsNot c (option_map_or (λ (one : ℕ × Assigned). one.1) (cond b (Some one) (find (λ one. one.0 == p) done)) nothing_assigned).rows
    go true rest = so.0
    go false rest = rest

-- an execution of rows that are not cancelled is not
module _ (c : List ℕ) where
  none_has : (xs : List ℕ) (e : ℕ) → NoneOf c xs → has c e ≡ true → has xs e ≡ false
  none_has [] e all is = refl
  none_has (x ∷ xs) e all is = or_from (e == x) (has xs e) (by (e == x) refl) (none_has xs e all.1 is)
    where
      by : (b : Bool) → (e == x) ≡ b → b ≡ false
      by false same = refl
      by true same =
          let eq = eqb-true e x same in
          absurd (false≢true (sym all.0 ∙ ap (has c) (sym eq) ∙ is))

  row_none : (r : Row) → RowNot c r → NoneOf c (executions r)
  row_none r so = (so.0, go r.print so.1)
    where
      go : (o : Option ℕ) → PrintNot c o → NoneOf c (print_list o)
      go None so = tt
      go (Some q) so = (so, tt)

  rows_none : (rows more : List Row) → RowsNot c rows → NoneOf c (flat_map executions more)
      → NoneOf c (flat_map executions (rows ++ more))
  rows_none [] more so rest = rest
  rows_none (r ∷ rows) more so rest =
      each-both (λ x. has c x ≡ false) (executions r) (flat_map executions (rows ++ more)) (row_none r so.0) (rows_none rows more so.1 rest)

  listed_none : (done : List (ℕ × Assigned)) (a n : ℕ) → DoneNot c done
      → NoneOf c (flat_map executions (flat_map (λ (x : Assigned). x.rows) (map (assigned_at done) (range_with_len a n))))
  listed_none done a zero so = tt
  listed_none done a (suc n) so = rows_none (assigned_at done a).rows _ (at_not c done a so) (listed_none done (a + 1) n so)

-- an update assigns nothing that is cancelled
pub update_not : (d : Doc) (nodes : NodeList) (blobs : BlobList) (e : ℕ) → AtMost (length d.homes) d.cancelled
    → has d.cancelled e ≡ true
    → assigns (assigned_version nodes blobs (assignment_of d nodes blobs)) e ≡ false
update_not d nodes blobs e all is =
    let u : Update = update_of d nodes blobs in
    let done = all_not u (length d.homes) all (order nodes) (record { done = []; homes = []; next = next_number d.homes })
    (omega arith, tt) in
    none_has d.cancelled _ e (listed_none d.cancelled _ 0 (length nodes) done.1) is
