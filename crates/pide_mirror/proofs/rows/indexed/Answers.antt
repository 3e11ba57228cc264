-- The first row of a command comes in, and others don't.
use Rattle.std.proofs.Common.{◌≡◌, ◌∷◌, ◌++◌, [], ◌==◌, cond, Some, None, drop, refl, ap, sym, ◌∙◌}
use Rattle.std.specs.Option.{option_copied}
use Rattle.text_words.proofs.KnownLists.{first_and_rest}
use Rattle.reply_messages.specs.declared.told.CommandRow.{CommandRow}
use Rattle.pide_mirror.specs.Indexed.{row_at}
use Rattle.pide_mirror.proofs.Indexing.{index_more, index_same, cut_row, gives_row, none_row, some_row}
use Rattle.pide_mirror.proofs.rows.indexed.Goals as goal

pub rows-preserved-in_ok-insert : goal.rows-preserved-in_ok-insert
rows-preserved-in_ok-insert c =
    let rest = c.rows.rest.now in
    let row : CommandRow = c.row-item.result in
    let inv = c.rows.invariant in
    let split : rest ≡ row ∷ drop 1 rest = first_and_rest rest row c.in-len1-up.len_at_least c.row-item.is in
    let none : row_at c.rows.index.entries row.command ≡ None
    = ap (row_at c.rows.index.entries) (sym c.number.ensures.value) ∙ none_row c.get.result _ c.get.ensures.value c.if-is_none.ensures in (
      inv.0 ++ row ∷ [],
      cut_row c.args.rows.now inv.0 rest row inv.1 split,
      index_more (row_at c.rows.index.entries) inv.0 row inv.2 none (row_at c.insert.new.self.entries)
          (λ d. ap option_copied (c.in_ok-insert.ensures.updates.0 d) ∙ gives_row (c.number-then-is_none.result == d) row _ _ refl
          ∙ ap (λ n. cond (n == d) (Some row) (row_at c.rows.index.entries d)) c.number-then-is_none.ensures.value),
    )

pub rows-preserved : goal.rows-preserved
rows-preserved c =
    let rest = c.rows.rest.now in
    let row : CommandRow = c.row-item.result in
    let inv = c.rows.invariant in
    let split : rest ≡ row ∷ drop 1 rest = first_and_rest rest row c.in-len1-up.len_at_least c.row-item.is in
    let there = some_row c.get.result _ c.get.ensures.value c.if-is_none.ensures in (
      inv.0 ++ row ∷ [],
      cut_row c.args.rows.now inv.0 rest row inv.1 split,
      index_same (row_at c.rows.index.entries) inv.0 row inv.2 there.0 (ap (row_at c.rows.index.entries) (sym c.number.ensures.value) ∙ there.1),
    )
