use Rattle.std.proofs.Common.{sym, subst, ◌∙◌, arith}
use Rattle.pide_base.specs.declared.part.Part.{Part}
use Rattle.core_tables.specs.Tasks.{standing}
use Rattle.core_tables.specs.Ready.{IsNext}
use Rattle.prover_core.proofs.LastReady.{none_is_ready, last_is_next}
use Rattle.prover_core.proofs.claiming.next_part.Goals as goal

pub returns-in-empty-clause-none : goal.returns-in-empty-clause-none
returns-in-empty-clause-none c = λ part is. none_is_ready (standing c.args.queue.now) c.ready.result.now part
    (omega (arith, c.in-empty.len_below)) c.ready.ensures.ready is

pub returns-in-len1-up-clause-some : goal.returns-in-len1-up-clause-some
returns-in-len1-up-clause-some c =
    subst (λ (p : Part). IsNext (standing c.args.queue.now) p) (sym (c.same.ensures ∙ c.last-item.is))
    (last_is_next (standing c.args.queue.now) c.ready.result.now _ (omega (arith, c.in-len1-up.len_at_least)) c.ready.ensures.ready)
