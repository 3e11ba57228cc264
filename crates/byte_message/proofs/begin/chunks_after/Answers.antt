-- The bytes that the line's lengths ask for are there.
use Rattle.std.proofs.Common.{◌≡◌, ◌++◌, refl, arith, length, take, drop, sum, ap, ◌∙◌}
use Rattle.std.proofs.lemmas.List.{take_rest, length-drop, length-take-le}
use Rattle.byte_message.proofs.Fitting.{spelled-message}
use Rattle.byte_message.proofs.Spelled.{spelled-by, whole-chunks}
use Rattle.byte_message.proofs.begin.chunks_after.Goals as goal

pub new-message-requires-clause-message : goal.new-message-requires-clause-message
new-message-requires-clause-message c =
    let head = c.args.head.now in
    let piece = c.args.piece.now in
    let used = c.args.used in
    let whole = c.total-whole.result in
    let bytes = c.in_ok-bytes-2.bytes.items in
    let same : bytes ≡ take whole (drop used piece) = c.in_ok-bytes-2.ensures.items ∙ ap (λ x. take whole x) (take_rest piece used) in
    let d = length-drop used piece in
    let n : length bytes ≡ length (take whole (drop used piece)) = ap length same in
    let t = length-take-le whole (drop used piece) (omega arith) in
    let all : whole ≡ sum c.args.lengths = c.total-whole.ensures ∙ ap sum c.as_slice.ensures in
    let line = head ++ take used piece in
    spelled-message (line ++ bytes) _ (spelled-by line c.args.lengths bytes (c.requires.headed bytes) (omega arith))

pub returns-in_ok-bytes-2 : goal.returns-in_ok-bytes-2
returns-in_ok-bytes-2 c =
    let head = c.args.head.now in
    let piece = c.args.piece.now in
    let used = c.args.used in
    let whole = c.total-whole.result in
    let bytes : c.in_ok-bytes-2.bytes.items ≡ take whole (drop used piece)
    = c.in_ok-bytes-2.ensures.items ∙ ap (λ x. take whole x) (take_rest piece used) in
    let d = length-drop used piece in
    whole-chunks head (head ++ take used piece) piece c.args.lengths c.in_ok-bytes-2.bytes.items used whole
    _ c.requires.headed (omega arith) (omega arith) (c.total-whole.ensures ∙ ap sum c.as_slice.ensures) (omega arith) refl bytes c.new-message.ensures
