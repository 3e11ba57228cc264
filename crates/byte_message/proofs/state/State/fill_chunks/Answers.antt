-- The chunks' bytes are kept, or their message is whole.
use Rattle.std.proofs.Common.{◌≡◌, ◌++◌, ◌-◌, arith, length, take, ap, sym, ◌∙◌, inl, append_assoc, [], ◌∷◌}
use Rattle.std.proofs.lemmas.List.{length-append, length-take-le}
use Rattle.byte_message.specs.Parts.{rest_of}
use Rattle.byte_message.specs.Stream.{IsSpelling}
use Rattle.byte_message.proofs.Spelled.{spelled-by}
use Rattle.byte_message.proofs.state.State.fill_chunks.Goals as goal

pub returns-clause-ok : goal.returns-clause-ok
returns-clause-ok c =
    let chunks = c.in-Chunks.chunks in
    let piece = c.args.piece.now in
    let missing = chunks.whole - c.len.result in
    let body = chunks.bytes.items ++ take missing piece in
    let k = chunks.bytes.ok.0 in
    let j = chunks.line.ok.0 in
    let t = length-take-le missing piece (omega arith) in
    let l = length-append chunks.bytes.items (take missing piece) in
    let f = length-append chunks.line.items body in
    let message = c.in_ok-message.message in
    let one : IsSpelling (chunks.line.items ++ body) message
    = rw c.in_ok-message.ensures.ok (spelled-by chunks.line.items chunks.lengths body (chunks.headed body) (omega arith)) in
    let same : rest_of c.args.self.now.part ++ take missing piece ≡ chunks.line.items ++ body
    = ap (λ p. rest_of p ++ take missing piece) c.in-Chunks.is ∙ append_assoc chunks.line.items chunks.bytes.items (take missing piece) in
    let n = ap length same in
    let waiting = ap (λ w. w.items) c.go_on.ensures.waiting ∙ c.push_back_reserved.ensures.items
    ∙ ap (λ w. w ++ message ∷ []) c.in_ok-reserve.ensures.items in
    let at = c.go_on.ensures.at in
    (omega arith, inl (omega arith, record { message = message; spelled = rw same one; waiting = waiting; at = omega arith; rest = c.go_on.ensures.rest; fault = c.go_on.ensures.fault }))
