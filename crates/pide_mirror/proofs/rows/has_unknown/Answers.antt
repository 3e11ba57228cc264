-- A row of a command is passed by.
use Rattle.std.proofs.Common.{◌≡◌, ◌∷◌, ◌==◌, true, not, map, drop, ap, sym, ◌∙◌}
use Rattle.std.proofs.lemmas.List.{take_rest}
use Rattle.std.specs.List.{list_any}
use Rattle.text_words.specs.Members.{has}
use Rattle.text_words.proofs.KnownLists.{first_and_rest}
use Rattle.doc_nodes.specs.declared.node.Entry.{Entry}
use Rattle.reply_messages.specs.declared.told.CommandRow.{CommandRow}
use Rattle.pide_mirror.proofs.Indexing.{any_behind}
use Rattle.pide_mirror.proofs.rows.has_unknown.Goals as goal

pub rows-preserved : goal.rows-preserved
rows-preserved c =
    let rest = c.rows.rest.now in
    let row : CommandRow = c.row-item.result in
    let ids = map (λ (e : Entry). e.command) c.args.entries.now in
    let split : rest ≡ row ∷ drop 1 rest = first_and_rest rest row c.in-len1-up.len_at_least c.row-item.is in
    let there : has ids row.command ≡ true
    = sym (c.in_ok-commands.ensures row.command) ∙ ap (λ n. list_any (λ key. n == key) c.in_ok-commands.commands.keys) (sym c.number.ensures.value) ∙ sym c.if-not-contains.ensures in
    ap (list_any (λ (r : CommandRow). not (has ids r.command))) (take_rest rest 1)
    ∙ any_behind (λ (r : CommandRow). not (has ids r.command)) rest (drop 1 rest) row split (ap not there)
    ∙ c.rows.invariant
