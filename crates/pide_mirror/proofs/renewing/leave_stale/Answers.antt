-- One node of the tip further.
use Rattle.std.proofs.Common.{◌≡◌, ◌∷◌, None, List, drop, ap, sym, ◌∙◌}
use Rattle.std.proofs.lemmas.List.{take_rest}
use Rattle.text_words.proofs.KnownLists.{first_and_rest}
use Rattle.std.specs.Prelude.{if◌then◌else◌}
use Rattle.std.specs.Option.{option_copied}
use Rattle.reply_messages.specs.declared.told.CommandRow.{CommandRow}
use Rattle.pide_mirror.specs.Renewed.{stale_in, stale_of, made_for}
use Rattle.pide_mirror.specs.Tables.{table_of}
use Rattle.pide_mirror.proofs.Stepping.{stale_then}
use Rattle.pide_mirror.proofs.renewing.leave_stale.Goals as goal

pub nodes-preserved : goal.nodes-preserved
nodes-preserved c = λ e d.
    let name = c.in-Some.name.now in
    let rest = c.next.new.self in
    let rows : List CommandRow = c.rows-item.result in
    let old = c.nodes.old.now in
    let table = table_of c.nodes.places in
    let after = table_of c.leave_stale_of.new.places in
    let for = made_for c.args.nodes.now c.args.made.now in
    let split : old ≡ rows ∷ drop 1 old = first_and_rest old rows c.in-len1-up.len_at_least c.rows-item.is in
    let left = c.in_ok-leave_stale_of.ensures e d ∙ ap (λ rs. if stale_of rs (option_copied c.new_rows.result) e d then None else table e d) (c.as_slice-rows.ensures ∙ c.get-in-Some.ensures)
    ∙ ap (λ o. if stale_of rows o e d then None else table e d) c.new_rows.ensures in
    ap (λ all. if stale_in for rest all e d then None else after e d) (take_rest old 1)
    ∙ ap (λ o. if stale_in for rest (drop 1 old) e d then None else o) left
    ∙ stale_then (stale_of rows (for name) e d) (stale_in for rest (drop 1 old) e d) (table e d)
    ∙ ap (λ ns. if stale_in for ns (rows ∷ drop 1 old) e d then None else table e d) (sym c.in-Some.ensures.steps)
    ∙ ap (λ all. if stale_in for c.nodes.rest all e d then None else table e d) (sym split)
    ∙ c.nodes.invariant e d
