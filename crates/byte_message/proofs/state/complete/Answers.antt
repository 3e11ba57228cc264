-- A fit line and all bytes of its chunks are a message.
use Rattle.std.proofs.Common.{◌≡◌, ◌++◌, arith, length, sum, ap, sym, ◌∙◌}
use Rattle.std.proofs.lemmas.List.{length-append}
use Rattle.byte_message.specs.Chunks.{cut}
use Rattle.byte_message.specs.Stream.{IsMessage}
use Rattle.byte_message.proofs.Fitting.{spelled-message}
use Rattle.byte_message.proofs.Spelled.{spelled-by}
use Rattle.byte_message.proofs.state.complete.Goals as goal

pub new-requires-in-Ok-clause-message : goal.new-requires-in-Ok-clause-message
new-requires-in-Ok-clause-message c =
    let chunks = c.args.chunks.now in
    let body = c.extend_from_slice.new.self.items in
    let bytes : body ≡ chunks.bytes.items ++ c.args.front.now = c.in-Ok.ensures.items ∙ ap (λ v. v ++ c.args.front.now) (ap (λ v. v.items) c.replace-bytes.ensures.value) in
    let n : length body ≡ length (chunks.bytes.items ++ c.args.front.now) = ap length bytes in
    let l = length-append chunks.bytes.items c.args.front.now in
    let room = c.requires in
    let total = chunks.total in
    let whole : sum chunks.lengths ≡ length body = omega arith in
    rw c.copy.ensures (spelled-message (chunks.line.items ++ body) (cut chunks.lengths body)
    (spelled-by chunks.line.items chunks.lengths body (chunks.headed body) whole))
