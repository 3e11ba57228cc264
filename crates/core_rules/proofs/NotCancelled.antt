-- What an update gives a node is not cancelled.
use Rattle.std.proofs.Common.{◌≡◌, ℕ, zero, suc, ◌+◌, ◌<◌, Bool, true, false, not, cond, ◌&&◌, List, [], ◌∷◌, take, drop, Option, Some, None, refl, arith}
use Rattle.text_words.proofs.KnownLists.{each-both}
use Rattle.std.proofs.lemmas.Bool.{ne_eqb, or_from, not-true, and_parts}
use Rattle.std.specs.Prelude.{◌==◌, ⊤}
use Rattle.std.specs.Option.{option_map_or}
use Rattle.std.specs.List.{AllByRecursion, range_with_len}
use Rattle.text_words.specs.Members.{has}
use Rattle.doc_nodes.specs.declared.node.Entry.{Entry}
use Rattle.doc_nodes.specs.declared.node.Node.{Node}
use Rattle.exec_rules.specs.declared.key.Key.{Key}
use Rattle.exec_rules.specs.declared.row.Row.{Row}
use Rattle.exec_rules.specs.declared.row.Assigned.{Assigned}
use Rattle.exec_rules.specs.Keys.{same_key}
use Rattle.exec_rules.specs.Kept.{Times, same_blob, keeps, kept_count}
use Rattle.exec_rules.specs.Rows.{live_print, live_prints, first_print, takes_print, number_behind, with_prints, behind_prints}
use Rattle.exec_rules.specs.Assigning.{Update, times, assigned_in, entries_in, rows_in, kept_of, given}
use Rattle.exec_rules.proofs.KnownGiven.{next_below}
use Rattle.core_rules.proofs.Tables.{AtMost}
use Rattle.core_rules.proofs.HomedRows.{evals}

-- none of these is cancelled
abbrev pub NoneOf : List ℕ → List ℕ → Type 0
NoneOf c xs = AllByRecursion (λ e. has c e ≡ false) xs

abbrev pub PrintNot : List ℕ → Option ℕ → Type 0
PrintNot c None = ⊤
PrintNot c (Some q) = has c q ≡ false

abbrev pub RowNot : List ℕ → Row → Type 0
RowNot c r = (has c r.evaluation ≡ false) × PrintNot c r.print

abbrev pub RowsNot : List ℕ → List Row → Type 0
RowsNot c rows = AllByRecursion (RowNot c) rows

-- what is greater than all cancelled is not
new_not : (c : List ℕ) (m e : ℕ) → AtMost m c → m < e → has c e ≡ false
new_not [] m e all lt = refl
new_not (x ∷ c) m e all lt =
    or_from (e == x) (has c e) (ne_eqb e x (λ same. absurd (omega (arith, same, all.0, lt)))) (new_not c m e all.1 lt)

range_not : (c : List ℕ) (m a n : ℕ) → AtMost m c → m < a → NoneOf c (range_with_len a n)
range_not c m a zero all lt = tt
range_not c m a (suc n) all lt = (new_not c m a all lt, range_not c m (a + 1) n all (omega arith))

kept_not : (t : Times) (es bs : List Entry) (rs : List Row)
    → NoneOf t.cancelled (evals (take (kept_count t es bs rs) rs))
kept_not t [] bs rs = tt
kept_not t (e ∷ es) [] rs = tt
kept_not t (e ∷ es) (b ∷ bs) [] = tt
kept_not t (e ∷ es) (b ∷ bs) (r ∷ rs) = go (keeps t e b r) refl (kept_not t es bs rs)
  where
    go : (x : Bool) → keeps t e b r ≡ x
        → NoneOf t.cancelled (evals (take (kept_count t es bs rs) rs))
        → NoneOf t.cancelled (evals (take (cond x (suc (kept_count t es bs rs)) 0) (r ∷ rs)))
    go false same rest = tt
    go true same rest =
        let a = and_parts (e.command == b.command) (not (has t.cancelled r.evaluation) && same_blob t e.needs b.needs) same in
        let b = and_parts (not (has t.cancelled r.evaluation)) (same_blob t e.needs b.needs) a.1 in
        (not-true (has t.cancelled r.evaluation) b.0, rest)

live_not : (c : List ℕ) (o : Option ℕ) → PrintNot c (live_print c o)
live_not c None = tt
live_not c (Some q) = go (has c q) refl
  where
    go : (b : Bool) → has c q ≡ b → PrintNot c (cond b None (Some q))
    go true e = tt
    go false e = e

-- prints that can be kept are not cancelled
abbrev LiveNot : List ℕ → List (Option ℕ) → Type 0
LiveNot c live = AllByRecursion (PrintNot c) live

lives_not : (c : List ℕ) (rs : List Row) (k : ℕ) → LiveNot c (live_prints c rs k)
lives_not c rs zero = tt
lives_not c [] (suc k) = tt
lives_not c (r ∷ rs) (suc k) = (live_not c r.print, lives_not c rs k)

first_not : (c : List ℕ) (live : List (Option ℕ)) → LiveNot c live → PrintNot c (first_print live)
first_not c [] all = tt
first_not c (o ∷ live) all = all.0

rest_not : (c : List ℕ) (live : List (Option ℕ)) → LiveNot c live → LiveNot c (drop 1 live)
rest_not c [] all = tt
rest_not c (o ∷ live) all = all.1

print_not : (c : List ℕ) (m next : ℕ) (seen : Bool) (live : Option ℕ) → AtMost m c → m < next → PrintNot c live
    → PrintNot c (cond seen (Some (option_map_or (λ p. p) live next)) None)
print_not c m next true None all lt live = new_not c m next all lt
print_not c m next true (Some q) all lt live = live
print_not c m next false live all lt is = tt

rows_not : (c : List ℕ) (m : ℕ) → AtMost m c → (es : List Entry) (vs : List ℕ) (live : List (Option ℕ)) (next : ℕ) → NoneOf c vs
    → LiveNot c live → m < next → RowsNot c (with_prints es vs live next) × (m < behind_prints es vs live next)
rows_not c m all [] vs live next a b lt = (tt, lt)
rows_not c m all (e ∷ es) [] live next a b lt = (tt, lt)
rows_not c m all (e ∷ es) (v ∷ vs) live next a b lt =
    let rest = rows_not c m all es vs (drop 1 live) (number_behind e (first_print live) next) a.1
    (rest_not c live b)
    (next_below m next (takes_print e (first_print live)) lt) in
    (((a.0, print_not c m next e.visible (first_print live) all lt (first_not c live b)), rest.0), rest.1)

module _ (u : Update) (m : ℕ) (all : AtMost m u.cancelled) where
  front_not : (pair : List ℕ × Node) (key : Key) → NoneOf u.cancelled (evals (take (kept_of u pair key) (rows_in u.tip pair.0)))
  front_not pair key = go (assigned_in u.tip pair.0)
    where
      by : (b : Bool) (old : Assigned) → NoneOf u.cancelled
          (evals (take (cond b (kept_count (times u) pair.1.entries (entries_in u.tip pair.0)
          old.rows) 0) old.rows))
      by true old = kept_not (times u) pair.1.entries (entries_in u.tip pair.0) old.rows
      by false old = tt

      go : (o : Option Assigned) → NoneOf u.cancelled (evals (take
          (option_map_or (λ old. cond (same_key key old.key) (kept_count (times u) pair.1.entries (entries_in u.tip pair.0) old.rows) 0) o 0)
          (option_map_or (λ (a : Assigned). a.rows) o [])))
      go None = tt
      go (Some old) = by (same_key key old.key) old

  -- what a node is given is not cancelled
  pub given_not : (p : ℕ) (pair : List ℕ × Node) (key : Key) (next : ℕ) → m < next
      → RowsNot u.cancelled (given u p pair key next).assigned.rows × (m < (given u p pair key next).next)
  given_not p pair key next lt =
      rows_not u.cancelled m all pair.1.entries _ _ _
      (each-both (λ e. has u.cancelled e ≡ false) _ _ (front_not pair key) (range_not u.cancelled m next _ all lt))
      (lives_not u.cancelled (rows_in u.tip pair.0) (kept_of u pair key)) (omega (arith, lt))
