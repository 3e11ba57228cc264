-- The reply that the writer takes is the first that waits, by the list as by the session.
use Rattle.std.proofs.Common.{ap}
use Rattle.thread_serve.specs.Contents.{SharedState}
use Rattle.thread_serve.proofs.Pieces.{none_taken, piece_grows, piece_taken}
use Rattle.thread_serve.proofs.locked.Locked.take_piece.Goals as goal

pub returns-clause-some : goal.returns-clause-some
returns-clause-some g c = piece_taken g.L.Language.lang (λ piece. piece.items) c.self.inside.session c.sent.new.self c.args.self.now.log
    (ap (λ (s : SharedState). s.log) c.self.view_is) c.self.invariant c.sent.ensures.waits c.sent.result c.sent.ensures.some

pub returns-clause-none : goal.returns-clause-none
returns-clause-none g c = none_taken g.L.Language.lang (λ piece. piece.items) c.self.inside.session c.sent.new.self c.args.self.now.log
    (ap (λ (s : SharedState). s.log) c.self.view_is) c.self.invariant c.sent.ensures.waits c.sent.result c.sent.ensures.none

pub returns-clause-adds : goal.returns-clause-adds
returns-clause-adds g c = piece_grows g.L.Language.lang (λ piece. piece.items) c.self.inside.session c.sent.new.self c.args.self.now.log
    (ap (λ (s : SharedState). s.log) c.self.view_is) c.self.invariant c.sent.result c.sent.ensures.some c.sent.ensures.none
