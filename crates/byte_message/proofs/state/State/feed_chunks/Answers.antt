-- The chunks' bytes are kept, or their message is whole.
use Rattle.std.proofs.Common.{◌≡◌, ◌++◌, ◌-◌, arith, length, take, drop, ap, sym, ◌∙◌, inr, append_assoc, [], ◌∷◌}
use Rattle.std.proofs.lemmas.List.{length-append, length-take-le, take-append-drop, take_rest}
use Rattle.std.proofs.lemmas.Result.{on_ok_weaker}
use Rattle.byte_message.specs.Parts.{rest_of, fault_of}
use Rattle.byte_message.specs.State.{framing}
use Rattle.byte_message.specs.Stream.{IsSpelling}
use Rattle.byte_message.proofs.Advancing.{keeps-all, reads-on, cut_there}
use Rattle.byte_message.proofs.Reaching.{reached-after}
use Rattle.byte_message.proofs.Spelled.{spelled-by}
use Rattle.byte_message.proofs.state.State.feed_chunks.Goals as goal

pub returns-then-piece-missing-clause-ok : goal.returns-then-piece-missing-clause-ok
returns-then-piece-missing-clause-ok c =
    let chunks = c.in-Chunks.chunks in
    let more = c.extend_from_slice.new.self.items in
    let n = ap length c.in_ok-extend_from_slice.ensures.items in
    let l = length-append chunks.bytes.items c.args.piece.now in
    let k = chunks.bytes.ok.0 in
    let same : rest_of c.args.self.now.part ++ c.args.piece.now ≡ chunks.line.items ++ more
    = ap (λ p. rest_of p ++ c.args.piece.now) c.in-Chunks.is ∙ append_assoc chunks.line.items chunks.bytes.items c.args.piece.now
    ∙ ap (λ x. chunks.line.items ++ x) (sym c.in_ok-extend_from_slice.ensures.items) in
    keeps-all (framing c.args.self.now) c.args.piece.now (chunks.line.items ++ more) (omega arith) same
    (inr (chunks.lengths, more, chunks.headed more, omega arith))

pub returns-clause-ok : goal.returns-clause-ok
returns-clause-ok c =
    let chunks = c.in-Chunks.chunks in
    let piece = c.args.piece.now in
    let missing = chunks.whole - c.len.result in
    let body = chunks.bytes.items ++ take missing piece in
    let k = chunks.bytes.ok.0 in
    let j = chunks.line.ok.0 in
    let t = length-take-le missing piece (omega arith) in
    let l = length-append chunks.bytes.items (take missing piece) in
    let f = length-append chunks.line.items body in
    let message = c.in_ok-message.message in
    let one : IsSpelling (chunks.line.items ++ body) message
    = rw c.in_ok-message.ensures.ok (spelled-by chunks.line.items chunks.lengths body (chunks.headed body) (omega arith)) in
    let split = cut_there (rest_of c.args.self.now.part) chunks.line.items chunks.bytes.items (take missing piece) (drop missing piece) piece
    (ap rest_of c.in-Chunks.is) (take-append-drop missing piece) in
    let reading = c.in_ok-reading.reading in
    let told = rw (take_rest piece missing) at c.in_ok-reading.ensures in
    on_ok_weaker c.join.result
    (λ p. reads-on (framing c.args.self.now) (framing c.join.new.self) piece (chunks.line.items ++ body) (drop missing piece) told.0 message
    ((message ∷ []) ++ c.new.result.items) (message ∷ reading.made.items) c.saturating_add-at.result reading.at (rest_of reading.part) (fault_of reading.part)
    split one (omega arith) (ap (λ x. (message ∷ []) ++ x) c.new.ensures.items)
    (reached-after (message ∷ []) told.1) told.2
    (p.0 ∙ ap (λ x. x ++ c.push_front_reserved.new.self.items) c.in_ok-reserve-2.ensures.items
    ∙ ap (λ x. c.args.self.now.waiting.items ++ x) (c.push_front_reserved.ensures.items ∙ ap (λ x. message ∷ x) c.in_ok-reserve.ensures.items))
    p.1 (ap rest_of p.2) (ap fault_of p.2))
    c.join.ensures.ok
