use Rattle.std.proofs.Common.{◌++◌, ◌<◌, ◌≤◌, map, length, sym, ap, ◌∙◌, append-nil, arith}
use Rattle.std.specs.Prelude.{min, flat_map}
use Rattle.text_words.proofs.KnownLists.{rest_at}
use Rattle.core_tables.specs.Rows.{execution_of}
use Rattle.core_jobs.specs.Parts.{told_part, parts_known}
use Rattle.doc_nodes.specs.declared.node.Entry.{Entry}
use Rattle.core_rules.specs.exec_rules_below.Listed.{executions}
use Rattle.core_jobs.proofs.KnownRows.{next_rows, rows_over}
use Rattle.core_jobs.proofs.shown.finished_parts.Goals as goal

pub commands-preserved : goal.commands-preserved
commands-preserved g c =
    let lt : c.commands.place < min (length c.args.entries.now) (length c.args.rows.now) = omega (arith, c.commands-test.true, c.min-count.ensures) in
    next_rows (λ e. execution_of c.args.execs.now.rows e) _ (map told_part c.commands.parts.items) (map told_part c.add_command.new.parts.items)
    c.index-entries-place.result c.index-rows-place.result _ _ _ _
    (rest_at c.args.entries.now c.commands.place c.index-entries-place.result (omega (arith, lt)) c.index-entries-place.is)
    (rest_at c.args.rows.now c.commands.place c.index-rows-place.result (omega (arith, lt)) c.index-rows-place.is)
    c.commands.invariant (c.in_ok-add_command.ensures ∙ ap (λ (x : Entry). map told_part
    c.commands.parts.items
    ++ flat_map (λ e. parts_known x.range e (execution_of c.args.execs.now.rows e)) (executions c.index-rows-place.result))
    (sym c.index-entries-place.is))

pub returns : goal.returns
returns g c =
    let le : min (length c.args.entries.now) (length c.args.rows.now) ≤ c.commands.place = omega (arith, c.commands-test.false, c.min-count.ensures) in
    sym (append-nil (map told_part c.commands.parts.items))
    ∙ ap (λ rest. map told_part c.commands.parts.items ++ rest)
    (sym (rows_over (λ e. execution_of c.args.execs.now.rows e) c.args.entries.now c.args.rows.now c.commands.place le))
    ∙ c.commands.invariant
