-- What is kept stands for a message more.
use Rattle.std.proofs.Common.{List, map, refl, sym, subst, rules}
use Rattle.mirror_rules.specs.Moves.{mirrored}
use Rattle.pide_mirror.specs.Mirroring.{as_move, KnowsSo}
use Rattle.pide_mirror.specs.declared.note.Note.{Note}
use Rattle.pide_mirror.proofs.Standing.{knows_same, knows_sent, has_sent}
use Rattle.pide_mirror.proofs.mirror.Mirror.sent.Goals as goal

pub invariant_of-self : goal.invariant_of-self
invariant_of-self c =
    let old = c.self.inside in record {
      knows = knows_same old.going c.sent.new.self old.ended (mirrored old.mode (map as_move old.moves)) c.self.invariant.knows c.in_err-sent.ensures.err;
      waiting = c.self.invariant.waiting;
      fault = c.self.invariant.fault;
    }

pub invariant_of-self-2 : goal.invariant_of-self-2
invariant_of-self-2 c =
    let old = c.self.inside in
    let new = c.sent.new.self in
    let read = c.match-read.read in record {
      knows = subst (λ (ms : List Note). KnowsSo old.ended new (mirrored old.mode (map as_move ms))) (sym c.with-moves.ensures)
          (knows_sent old.mode old.going new read old.ended (mirrored old.mode (map as_move old.moves)) c.self.invariant.knows (λ m going. c.in_ok-sent.ensures.ok m read going refl));
      waiting = c.self.invariant.waiting;
      fault = c.self.invariant.fault;
    }

pub returns-clause-heard : goal.returns-clause-heard
returns-clause-heard c = λ events h. has_sent events c.args.self.now _ c.args.message.now (search rules) h
