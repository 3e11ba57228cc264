-- One command more.
use Rattle.std.proofs.Common.{◌∷◌, [], List, ◌==◌, true, cond, map, take, arith, ap, sym, ◌∙◌}
use Rattle.std.specs.List.{list_any}
use Rattle.text_words.specs.Members.{has}
use Rattle.doc_nodes.specs.declared.node.Entry.{Entry}
use Rattle.pide_mirror.proofs.Indexing.{front_more, ids_more}
use Rattle.std.proofs.lemmas.List.{map-append}
use Rattle.pide_mirror.proofs.rows.commands_of.Goals as goal

pub entries-preserved : goal.entries-preserved
entries-preserved c = λ id.
    let es = c.args.entries.now in
    let i = c.entries.entry-index in
    let e = c.entry-item.result in
    let front = front_more es i e (omega arith) c.entry-item.is in
    c.in_ok-insert.ensures.updates.0 id
    ∙ ap (λ n. cond (n == id) true (list_any (λ key. id == key) c.entries.commands.keys)) c.number.ensures.value
    ∙ ap (λ b. cond (e.command == id) true b) (c.entries.invariant id)
    ∙ sym (ap (λ (xs : List Entry). has (map (λ (x : Entry). x.command) xs) id) front ∙ ap (λ xs. has xs id) (map-append (λ (x : Entry). x.command) (take i es) (e ∷ []))
    ∙ ids_more (map (λ (x : Entry). x.command) (take i es)) e.command id)
