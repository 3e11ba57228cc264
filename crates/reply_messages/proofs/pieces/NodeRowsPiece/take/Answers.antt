-- A name in a node before its rows.
use Rattle.std.proofs.Common.{ℕ, List, ◌++◌, drop, sym, ap, subst, ◌∙◌}
use Rattle.std.specs.List.{AllByRecursion, flat_map}
use Rattle.reply_messages.specs.declared.told.CommandRow.{CommandRow}
use Rattle.reply_messages.specs.declared.pair.Listed.{Listed}
use Rattle.reply_messages.specs.Fits.{FitsRow, IsName}
use Rattle.reply_messages.specs.Found.{FindsFront}
use Rattle.reply_messages.specs.Marks.{pair_bytes}
use Rattle.reply_messages.proofs.Names.{names_are_words}
use Rattle.reply_messages.proofs.Spelled.{row_bytes, rows_are, rows_are_elements}
use Rattle.reply_messages.proofs.pieces.NodeRowsPiece.take.Goals as goal

pub take_listed-requires : goal.take_listed-requires
take_listed-requires c = record { words = names_are_words; elements = rows_are_elements }

pub returns-in_default : goal.returns-in_default
returns-in_default c = λ node rest fits e.
    subst (λ found. FindsFront (λ (l : Listed (List ℕ) CommandRow). pair_bytes l.of (flat_map row_bytes l.items)) (λ (l : Listed (List ℕ) CommandRow). IsName l.of × AllByRecursion FitsRow l.items) c.args.text.now found)
    c.in_default.is c.in_ok-taken.ensures (record { of = node.node; items = node.rows }) rest fits (e ∙ ap (λ s. s ++ rest) (rows_are node))

pub returns : goal.returns
returns c =
    let front = subst (λ found. FindsFront (λ (l : Listed (List ℕ) CommandRow). pair_bytes l.of (flat_map row_bytes l.items)) (λ (l : Listed (List ℕ) CommandRow). IsName l.of × AllByRecursion FitsRow l.items) c.args.text.now found)
    c.in-Some.is c.in_ok-taken.ensures in
    record {
      fits = front.fits;
      some = front.some;
      within = front.within;
      told = front.told ∙ ap (λ s. s ++ drop c.in-Some.taken.length c.args.text.now) (sym (rows_are (record { node = c.in-Some.taken.value.of; rows = c.in-Some.taken.value.items })));
    }
