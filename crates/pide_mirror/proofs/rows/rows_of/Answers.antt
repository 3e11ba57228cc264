-- One command's row more.
use Rattle.std.proofs.Common.{◌∷◌, ◌++◌, [], List, ℕ, take, arith, ap, sym, ◌∙◌}
use Rattle.doc_nodes.specs.declared.node.Entry.{Entry}
use Rattle.mirror_rules.specs.Rows.{rows_by, executions_of}
use Rattle.pide_mirror.specs.Kept.{told_rows}
use Rattle.pide_mirror.specs.Indexed.{executions_in}
use Rattle.pide_mirror.proofs.Indexing.{front_more, rows_more, told_more, executions_first}
use Rattle.pide_mirror.proofs.rows.rows_of.Goals as goal

pub entries-preserved : goal.entries-preserved
entries-preserved c =
    let es = c.args.entries.now in
    let i = c.entries.entry-index in
    let e = c.entry-item.result in
    let rows = told_rows c.args.rows.now in
    let made = c.in_ok-row_of.ensures in
    let executions = made.1 ∙ ap executions_in (c.in_ok-index.ensures e.command) ∙ executions_first c.args.rows.now e.command in
    ap told_rows c.in_ok-push.ensures.items ∙ told_more c.entries.made.items c.in_ok-row_of.field-0
    ∙ ap (λ n. told_rows c.entries.made.items ++ (n, c.in_ok-row_of.field-0.executions) ∷ []) made.0
    ∙ ap (λ xs. told_rows c.entries.made.items ++ (e.command, xs) ∷ []) executions
    ∙ ap (λ (rs : List (ℕ × List ℕ)). rs ++ (e.command, executions_of rows e.command) ∷ []) c.entries.invariant
    ∙ sym (ap (λ (xs : List Entry). rows_by xs rows) (front_more es i e (omega arith) c.entry-item.is) ∙ rows_more rows (take i es) e)
