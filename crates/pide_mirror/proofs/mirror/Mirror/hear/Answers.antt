-- What is kept stands for one move more.
use Rattle.std.proofs.Common.{◌≡◌, List, Some, None, map, refl, ap, sym, subst, ◌∙◌}
use Rattle.mirror_rules.specs.Moves.{Heard, mirrored, next_reflection}
use Rattle.mirror_rules.specs.Replies.{mirror_after}
use Rattle.mirror_rules.specs.declared.fault.MirrorFault.TheVariants.{Unexpected}
use Rattle.pide_mirror.specs.Hearing.{Hearing}
use Rattle.pide_mirror.specs.Mirroring.{as_move, KnowsSo}
use Rattle.pide_mirror.specs.Taking.{TakenSo}
use Rattle.pide_mirror.specs.declared.error.MirrorError.TheVariants.{Fault}
use Rattle.pide_mirror.specs.declared.note.Note.{Note}
use Rattle.pide_mirror.proofs.Standing.{knows_heard, knows_unexpected}
use Rattle.pide_mirror.proofs.mirror.Mirror.hear.Goals as goal

pub invariant_of-self-in-Ok-true : goal.invariant_of-self-in-Ok-true
invariant_of-self-in-Ok-true c =
    let old = c.self.inside in
    let new = c.reply.new.self in
    let reply = c.in-Ok.reply in
    let known = mirrored old.mode (map as_move old.moves) in
    let none : old.ended ≡ None = ap (λ (h : Hearing). h.ended) c.self.view_is ∙ c.requires in
    let knows = subst (λ e. KnowsSo e old.going known) none c.self.invariant.knows in
    let more = knows_heard old.mode old.going new c.args.at reply known knows
    (λ m going. subst (TakenSo (mirror_after old.mode m reply) new) c.in-Ok-true.field-0-test (c.in-Ok-true.ensures.taken m c.args.at reply going refl)) in
    record {
      knows = subst (λ (ms : List Note). KnowsSo old.ended new (mirrored old.mode (map as_move ms))) (sym c.with-moves.ensures)
          (subst (λ e. KnowsSo e new (next_reflection old.mode known (Heard c.args.at reply))) (sym none) more);
      waiting = c.self.invariant.waiting;
      fault = c.self.invariant.fault;
    }

pub invariant_of-self-in-Ok-false : goal.invariant_of-self-in-Ok-false
invariant_of-self-in-Ok-false c =
    let old = c.self.inside in
    let new = c.reply.new.self in
    let reply = c.in-Ok.reply in
    let known = mirrored old.mode (map as_move old.moves) in
    let none : old.ended ≡ None = ap (λ (h : Hearing). h.ended) c.self.view_is ∙ c.requires in
    let knows = subst (λ e. KnowsSo e old.going known) none c.self.invariant.knows in
    let more = knows_unexpected old.mode old.going new c.args.at reply known c.ranges.at.fits knows
    (λ m going. subst (TakenSo (mirror_after old.mode m reply) new) c.in-Ok-false.field-0-test (c.in-Ok-false.ensures.taken m c.args.at reply going refl)) in
    record {
      knows = subst (λ (ms : List Note). KnowsSo (Some (Fault (Unexpected c.args.at))) new (mirrored old.mode (map as_move ms))) (sym c.with-moves.ensures) more;
      waiting = λ still. absurd (cc);
      fault = λ still. absurd (cc);
    }
