-- Rows as they are told, found again by the ids of commands.
use Rattle.std.proofs.Common.{◌≡◌, ℕ, zero, suc, true, false, cond, List, [], ◌∷◌, Option, Some, refl, ap, sym, ◌∙◌}
use Rattle.std.proofs.lemmas.Bool.{eq-eqb, false≢true, or_parts, ne_eqb}
use Rattle.std.specs.Prelude.{find, slice_get, ◌==◌}
use Rattle.std.specs.Option.{option_map_or}
use Rattle.text_words.specs.Members.{has}
use Rattle.text_words.proofs.KnownMembers.{apart, has_itself, has_tail}
use Rattle.doc_nodes.specs.declared.node.Entry.{Entry}
use Rattle.exec_rules.specs.declared.row.Row.{Row}
use Rattle.exec_rules.specs.Listed.{Told, executions, told_commands}
use Rattle.core_rules.specs.Updates.{AllDiffer}
use Rattle.core_rules.proofs.KnownCommands.{ids, id_there}
use Rattle.mirror_rules.specs.Rows.{executions_of, rows_by}

-- another command's row is passed by
pub other_row : (c d : ℕ) (es : List ℕ) (rows : List Told) → (c == d) ≡ false → executions_of ((c, es) ∷ rows) d ≡ executions_of rows d
other_row c d es rows is = ap (λ b. option_map_or (λ (row : Told). row.1) (cond b (Some (c, es)) (find (λ (row : Told). row.0 == d) rows)) []) is

own_row : (c : ℕ) (es : List ℕ) (rows : List Told) → executions_of ((c, es) ∷ rows) c ≡ es
own_row c es rows = ap (λ b. option_map_or (λ (row : Told). row.1) (cond b (Some (c, es)) (find (λ (row : Told). row.0 == c) rows)) []) (eq-eqb c c refl)

abbrev pub row_list : Option Row → List ℕ
row_list o = option_map_or executions o []

-- a command has what its row has, and nothing where it has none
pub told_row : (es : List Entry) (rows : List Row) (i : ℕ) (e : Entry) → AllDiffer (ids es) → slice_get es i ≡ Some e
    → executions_of (told_commands es rows) e.command ≡ row_list (slice_get rows i)
told_row [] rows i e differ at = absurd (cc)
told_row (x ∷ es) [] zero e differ at =
    let same : x ≡ e = cc in
    ap (λ (y : Entry). executions_of ((x.command, []) ∷ told_commands es []) y.command) (sym same) ∙ own_row x.command [] (told_commands es [])
told_row (x ∷ es) (r ∷ rows) zero e differ at =
    let same : x ≡ e = cc in
    ap (λ (y : Entry). executions_of ((x.command, executions r) ∷ told_commands es rows) y.command) (sym same) ∙ own_row x.command (executions r) (told_commands es rows)
told_row (x ∷ es) [] (suc i) e differ at =
    other_row x.command e.command [] (told_commands es [])
    (apart (ids es) x.command e.command differ.0 (id_there es i e at))
    ∙ told_row es [] i e differ.1 at ∙ none i
  where
    none : (j : ℕ) → row_list (slice_get [] j) ≡ []
    none zero = refl
    none (suc j) = refl
told_row (x ∷ es) (r ∷ rows) (suc i) e differ at =
    other_row x.command e.command (executions r) (told_commands es rows) (apart (ids es) x.command e.command differ.0 (id_there es i e at))
    ∙ told_row es rows i e differ.1 at

other_rows : (es : List Entry) (c : ℕ) (xs : List ℕ) (rows : List Told) → has (ids es) c ≡ false
    → rows_by es ((c, xs) ∷ rows) ≡ rows_by es rows
other_rows [] c xs rows out = refl
other_rows (e ∷ es) c xs rows out =
    let parts = or_parts (c == e.command) (has (ids es) c) out in
    ap (λ ys. (e.command, ys) ∷ rows_by es ((c, xs) ∷ rows)) (other_row c e.command xs rows parts.0)
    ∙ ap (λ ys. (e.command, executions_of rows e.command) ∷ ys) (other_rows es c xs rows parts.1)

-- the rows that are told are those of the commands
pub told_by : (es : List Entry) (rows : List Row) → AllDiffer (ids es) → rows_by es (told_commands es rows) ≡ told_commands es rows
told_by [] rows differ = refl
told_by (e ∷ es) [] differ =
    ap (λ ys. (e.command, ys) ∷ rows_by es ((e.command, []) ∷ told_commands es []))
    (own_row e.command [] (told_commands es []))
    ∙ ap (λ ys. (e.command, []) ∷ ys) (other_rows es e.command [] (told_commands es []) differ.0 ∙
    told_by es [] differ.1)
told_by (e ∷ es) (r ∷ rows) differ =
    ap (λ ys. (e.command, ys) ∷ rows_by es ((e.command, executions r) ∷ told_commands es rows)) (own_row e.command (executions r) (told_commands es rows))
    ∙ ap (λ ys. (e.command, executions r) ∷ ys) (other_rows es e.command (executions r) (told_commands es rows) differ.0 ∙ told_by es rows differ.1)
