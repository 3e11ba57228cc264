-- Of which rows the same is cancelled.
use Rattle.std.proofs.Common.{◌≡◌, ℕ, zero, suc, true, cond, List, [], ◌∷◌, Option, Some, None, refl, sym, ap, ◌∙◌}
use Rattle.std.proofs.lemmas.Grind.{flat_map-append}
use Rattle.std.specs.Prelude.{slice_get, not, ◌&&◌, ◌==◌, flat_map}
use Rattle.std.specs.Option.{option_map_or, option_and_then}
use Rattle.text_words.specs.Members.{has}
use Rattle.text_words.proofs.KnownMembers.{has_itself, has_left, has_right}
use Rattle.doc_nodes.specs.declared.node.Entry.{Entry}
use Rattle.doc_nodes.specs.Imports.{place_of}
use Rattle.exec_rules.specs.declared.row.Row.{Row}
use Rattle.exec_rules.specs.declared.row.Assigned.{Assigned}
use Rattle.exec_rules.specs.declared.version.Version.{Version}
use Rattle.exec_rules.specs.Kept.{BlobList, same_blob, keeps, kept_count}
use Rattle.exec_rules.specs.Rows.{live_print, live_prints}
use Rattle.exec_rules.specs.Listed.{executions, print_list}
use Rattle.exec_rules.specs.Assigning.{rows_in}
use Rattle.exec_assign.specs.Agreeing.{AgreeAt}

-- the executions of a row are among those of its node, and these among all
row_among : (rs : List Row) (i e : ℕ) (row : Row) → slice_get rs i ≡ Some row → has (executions row) e ≡ true → has (flat_map executions rs) e ≡ true
row_among [] i e row at h = absurd (cc)
row_among (r ∷ rs) zero e row at h =
    let same : row ≡ r = cc in
    has_left (executions r) (flat_map executions rs) e (ap (λ (x : Row). has (executions x) e) (sym same) ∙ h)
row_among (r ∷ rs) (suc i) e row at h = has_right (executions r) (flat_map executions rs) e (row_among rs i e row at h)

node_among : (all : List Assigned) (p e : ℕ) (a : Assigned) → slice_get all p ≡ Some a → has (flat_map executions a.rows) e ≡ true
    → has (flat_map executions (flat_map (λ (x : Assigned). x.rows) all)) e ≡ true
node_among [] p e a at h = absurd (cc)
node_among (x ∷ all) zero e a at h =
    let same : a ≡ x = cc in
    let rest = flat_map (λ (x : Assigned). x.rows) all in
    ap (λ (xs : List ℕ). has xs e) (flat_map-append executions x.rows rest)
    ∙ has_left (flat_map executions x.rows) (flat_map executions rest) e (ap (λ (y : Assigned). has (flat_map executions y.rows) e) (sym same) ∙ h)
node_among (x ∷ all) (suc p) e a at h =
    let rest = flat_map (λ (x : Assigned). x.rows) all in
    ap (λ (xs : List ℕ). has xs e) (flat_map-append executions x.rows rest)
    ∙ has_right (flat_map executions x.rows) (flat_map executions rest) e (node_among all p e a at h)

-- of a row, the same is cancelled
pub record RowAgrees (one other : List ℕ) (row : Row) : Type 0 where
  pub evaluation : has one row.evaluation ≡ has other row.evaluation
  pub print : live_print one row.print ≡ live_print other row.print

print_agrees : (one other : List ℕ) (print : Option ℕ) → ((e : ℕ) → has (print_list print) e ≡ true → has one e ≡ has other e)
    → live_print one print ≡ live_print other print
print_agrees one other None agree = refl
print_agrees one other (Some q) agree = ap (λ b. cond b None (Some q)) (agree q (has_itself [] q))

row_agrees : (one other : List ℕ) (row : Row) → ((e : ℕ) → has (executions row) e ≡ true → has one e ≡ has other e) → RowAgrees one other row
row_agrees one other row agree = record {
  evaluation = agree row.evaluation (has_itself (print_list row.print) row.evaluation);
  print = print_agrees one other row.print (λ e h. agree e (has_right (row.evaluation ∷ []) (print_list row.print) e h));
}

-- rows of which the same is cancelled
abbrev pub RowsAgree : List ℕ → List ℕ → List Row → Type 0
RowsAgree one other rows = (i : ℕ) (row : Row) → slice_get rows i ≡ Some row → RowAgrees one other row

pub rows_agree : (tip : Version) (one other : List ℕ) → AgreeAt tip one other → (name : List ℕ) → RowsAgree one other (rows_in tip name)
rows_agree tip one other agree name = placed (place_of tip.nodes name)
  where
    found : (p : ℕ) (o : Option Assigned) → slice_get tip.assigned p ≡ o → RowsAgree one other (option_map_or (λ a. a.rows) o [])
    found p None at = λ i row here. absurd (cc)
    found p (Some a) at = λ i row here. row_agrees one other row
        (λ e h. agree e (node_among tip.assigned p e a at (row_among a.rows i e row here h)))

    placed : (o : Option ℕ) → RowsAgree one other (option_map_or (λ a. a.rows) (option_and_then (slice_get tip.assigned) o) [])
    placed None = λ i row here. absurd (cc)
    placed (Some p) = found p (slice_get tip.assigned p) refl

pub kept_agrees : (before now : BlobList) (one other : List ℕ) (es bs : List Entry) (rs : List Row) → RowsAgree one other rs
    → kept_count (record { before = before; now = now; cancelled = one }) es bs rs ≡ kept_count (record { before = before; now = now; cancelled = other }) es bs rs
kept_agrees before now one other [] bs rs agree = refl
kept_agrees before now one other (e ∷ es) [] rs agree = refl
kept_agrees before now one other (e ∷ es) (b ∷ bs) [] agree = refl
kept_agrees before now one other (e ∷ es) (b ∷ bs) (r ∷ rs) agree =
    ap (λ h. cond ((e.command == b.command) && (not h && same_blob (record { before = before; now = now; cancelled = one }) e.needs b.needs))
    (suc (kept_count (record { before = before; now = now; cancelled = one }) es bs rs)) 0)
    (agree zero r refl).evaluation
    ∙ ap (λ n. cond (keeps (record { before = before; now = now; cancelled = other }) e b r) (suc n) 0)
    (kept_agrees before now one other es bs rs (λ i row at. agree (suc i) row at))

pub prints_agree : (one other : List ℕ) (rs : List Row) (k : ℕ) → RowsAgree one other rs → live_prints one rs k ≡ live_prints other rs k
prints_agree one other rs zero agree = refl
prints_agree one other [] (suc k) agree = refl
prints_agree one other (r ∷ rs) (suc k) agree =
    ap (λ o. o ∷ live_prints one rs k) (agree zero r refl).print
    ∙ ap (λ os. live_print other r.print ∷ os) (prints_agree one other rs k (λ i row at. agree (suc i) row at))
