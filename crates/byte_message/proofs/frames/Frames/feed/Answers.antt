-- A fault stays; else the piece leads on.
use Rattle.std.proofs.Common.{◌≡◌, ◌+◌, Some, None, sym, ap, ◌∙◌, length}
use Rattle.byte_message.specs.Kept.{Framing, Advances}
use Rattle.byte_message.specs.State.{framing}
use Rattle.byte_message.proofs.Advancing.{stays-bad, continues}
use Rattle.byte_message.proofs.frames.Frames.feed.Goals as goal

pub returns-in-Some-clause-feeds : goal.returns-in-Some-clause-feeds
returns-in-Some-clause-feeds c =
    let e : c.args.self.now.fault ≡ Some c.in-Some.fault = cc in
    (stays-bad c.args.self.now c.in-Some.fault c.args.piece.now e, e)

pub returns-in-Some-fault-clause-feeds : goal.returns-in-Some-fault-clause-feeds
returns-in-Some-fault-clause-feeds c =
    let e : c.args.self.now.fault ≡ None = cc in
    let a : Advances c.args.self.now c.args.piece.now (framing c.feed.new.self) = rw c.self.view_is at c.in_ok-made.ensures.ok in
    (continues c.args.self.now (framing c.feed.new.self) c.args.piece.now e a, sym c.fault-2.ensures ∙ c.in-Some-fault.is)

pub returns-clause-feeds : goal.returns-clause-feeds
returns-clause-feeds c =
    let e : c.args.self.now.fault ≡ None = cc in
    let a : Advances c.args.self.now c.args.piece.now (framing c.feed.new.self) = rw c.self.view_is at c.in_ok-made.ensures.ok in
    let n : length c.feed.new.self.waiting.items ≡ length c.args.self.now.waiting + c.in_ok-made.made
    = c.in_ok-made.ensures.made ∙ ap (λ (v : Framing). length v.waiting + c.in_ok-made.made) c.self.view_is in
    (continues c.args.self.now (framing c.feed.new.self) c.args.piece.now e a, cc, n)

pub returns-in-Some-fault-clause-faulted : goal.returns-in-Some-fault-clause-faulted
returns-in-Some-fault-clause-faulted c = let e : c.args.self.now.fault ≡ None = cc in rw e tt

pub returns-clause-faulted : goal.returns-clause-faulted
returns-clause-faulted c = let e : c.args.self.now.fault ≡ None = cc in rw e tt
