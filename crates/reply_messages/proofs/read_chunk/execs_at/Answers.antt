-- Elements, one after the other, that rise.
use Rattle.std.proofs.Common.{sym, subst, ◌∙◌}
use Rattle.std.specs.List.{AllByRecursion, flat_map}
use Rattle.std.proofs.lemmas.Bool.{both_ways}
use Rattle.pide_base.specs.Ids.{IsId}
use Rattle.reply_messages.specs.Forms.{IsRising}
use Rattle.reply_messages.specs.Found.{Finds}
use Rattle.reply_messages.proofs.Elements.{one_whole}
use Rattle.reply_messages.proofs.OneChunk.{ids_are}
use Rattle.reply_messages.proofs.Spelled.{id_bytes, ids_are_elements}
use Rattle.reply_messages.proofs.read_chunk.execs_at.Goals as goal

pub all_of-requires : goal.all_of-requires
all_of-requires c = record { elements = ids_are_elements }

pub returns-in_default : goal.returns-in_default
returns-in_default c = λ ids fits e.
    subst (λ found. Finds (flat_map id_bytes) (AllByRecursion IsId) c.args.chunk.now found) c.in_default.is c.in_ok-execs.ensures ids fits.0 (sym (ids_are ids) ∙ e)

pub returns-then-execs_rise : goal.returns-then-execs_rise
returns-then-execs_rise c =
    let told = subst (λ found. Finds (flat_map id_bytes) (AllByRecursion IsId) c.args.chunk.now found) c.in-Some.is c.in_ok-execs.ensures in
    ((told.0, subst IsRising c.as_slice.ensures (c.execs_rise.ensures.0 c.if-execs_rise.true)), ids_are c.in-Some.execs ∙ told.1)

pub returns-else-execs_rise : goal.returns-else-execs_rise
returns-else-execs_rise c = λ ids fits e.
    let told = subst (λ found. Finds (flat_map id_bytes) (AllByRecursion IsId) c.args.chunk.now found) c.in-Some.is c.in_ok-execs.ensures in
    let same = one_whole id_bytes IsId ids_are_elements c.in-Some.execs ids told.0 fits.0 (told.1 ∙ sym e ∙ ids_are ids) in
    both_ways c.execs_rise.result c.if-execs_rise.false (c.execs_rise.ensures.1 (subst IsRising (sym (c.as_slice.ensures ∙ same)) fits.1))
