-- The greatest of two lists.
use Rattle.std.proofs.Common.{◌≡◌, ℕ, ◌+◌, List, [], ◌∷◌, ◌++◌, drop, refl, ap, sym, ◌∙◌}
use Rattle.std.specs.Prelude.{flat_map}
use Rattle.std.proofs.lemmas.List.Concat.{flat_map-append}
use Rattle.core_tables.specs.declared.versions.Live.{Live}
use Rattle.exec_rules.specs.declared.row.Assigned.{Assigned}
use Rattle.exec_rules.specs.declared.row.Row.{Row}
use Rattle.exec_rules.specs.declared.version.Version.{Version}
use Rattle.exec_rules.specs.Assigning.{greater}
use Rattle.exec_rules.specs.Listed.{executions}
use Rattle.core_rules.specs.Assigned.{executions_of}
use Rattle.core_rules.specs.Doc.{greatest}

pub greatest_more : (n : ℕ) (xs ys : List ℕ) → greatest n (xs ++ ys) ≡ greatest (greatest n xs) ys
greatest_more n [] ys = refl
greatest_more n (x ∷ xs) ys = greatest_more (greater n x) xs ys

pub rows_more : (n : ℕ) (rows more : List Row)
    → greatest n (flat_map executions (rows ++ more)) ≡ greatest (greatest n (flat_map executions rows)) (flat_map executions more)
rows_more n rows more = ap (greatest n) (flat_map-append executions rows more) ∙ greatest_more n (flat_map executions rows) (flat_map executions more)

-- one more
pub rows_next : (xs : List Assigned) (i : ℕ) (x : Assigned) (found next all : ℕ) → drop i xs ≡ x ∷ drop (i + 1) xs
    → greatest found (flat_map executions (flat_map (λ assigned. assigned.rows) (drop i xs))) ≡ all
    → next ≡ greatest found (flat_map executions x.rows)
    → greatest next (flat_map executions (flat_map (λ assigned. assigned.rows) (drop (i + 1) xs))) ≡ all
rows_next xs i x found next all at so next_is =
    ap (λ n. greatest n (flat_map executions (flat_map (λ assigned. assigned.rows) (drop (i + 1) xs)))) next_is
    ∙ sym (rows_more found x.rows (flat_map (λ assigned. assigned.rows) (drop (i + 1) xs)))
    ∙ sym (ap (λ ys. greatest found (flat_map executions (flat_map (λ assigned. assigned.rows) ys))) at) ∙ so

pub versions_next : (xs : List (Live Version)) (i : ℕ) (x : Live Version) (found next all : ℕ) → drop i xs ≡ x ∷ drop (i + 1) xs
    → greatest found (flat_map (λ one. executions_of one.version) (drop i xs)) ≡ all
    → next ≡ greatest found (executions_of x.version)
    → greatest next (flat_map (λ one. executions_of one.version) (drop (i + 1) xs)) ≡ all
versions_next xs i x found next all at so next_is =
    ap (λ n. greatest n (flat_map (λ one. executions_of one.version) (drop (i + 1) xs))) next_is
    ∙ sym (greatest_more found (executions_of x.version) (flat_map (λ one. executions_of one.version) (drop (i + 1) xs)))
    ∙ sym (ap (λ ys. greatest found (flat_map (λ one. executions_of one.version) ys)) at) ∙ so
