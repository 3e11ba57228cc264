-- A command in a node before its executions.
use Rattle.std.proofs.Common.{ℕ, ◌++◌, drop, decimal, sym, ap, subst, ◌∙◌}
use Rattle.std.specs.List.{AllByRecursion, flat_map}
use Rattle.pide_base.specs.Ids.{IsId}
use Rattle.reply_messages.specs.declared.pair.Listed.{Listed}
use Rattle.reply_messages.specs.Found.{FindsFront}
use Rattle.reply_messages.specs.Marks.{pair_bytes}
use Rattle.reply_messages.proofs.ReadNumbers.{ids_are_words}
use Rattle.reply_messages.proofs.Spelled.{id_bytes, row_is, ids_are_elements}
use Rattle.reply_messages.proofs.pieces.CommandRowPiece.take.Goals as goal

pub take_listed-requires : goal.take_listed-requires
take_listed-requires c = record { words = ids_are_words; elements = ids_are_elements }

pub returns-in_default : goal.returns-in_default
returns-in_default c = λ row rest fits e.
    subst (λ found. FindsFront (λ (l : Listed ℕ ℕ). pair_bytes (decimal l.of) (flat_map id_bytes l.items)) (λ (l : Listed ℕ ℕ). IsId l.of × AllByRecursion IsId l.items) c.args.text.now found)
    c.in_default.is c.in_ok-taken.ensures (record { of = row.command; items = row.executions }) rest fits (e ∙ ap (λ s. s ++ rest) (row_is row))

pub returns : goal.returns
returns c =
    let front = subst (λ found. FindsFront (λ (l : Listed ℕ ℕ). pair_bytes (decimal l.of) (flat_map id_bytes l.items)) (λ (l : Listed ℕ ℕ). IsId l.of × AllByRecursion IsId l.items) c.args.text.now found)
    c.in-Some.is c.in_ok-taken.ensures in
    record {
      fits = front.fits;
      some = front.some;
      within = front.within;
      told = front.told ∙ ap (λ s. s ++ drop c.in-Some.taken.length c.args.text.now) (sym (row_is (record { command = c.in-Some.taken.value.of; executions = c.in-Some.taken.value.items })));
    }
