-- What came of the line leads the decoder on.
use Rattle.std.proofs.Common.{◌≡◌, ◌++◌, arith, take, drop, ap, sym, ◌∙◌, inl, inr, append_assoc, [], ◌∷◌}
use Rattle.std.proofs.lemmas.List.{length-append, length-take-le, take-append-drop, take_rest}
use Rattle.std.proofs.lemmas.Result.{on_ok_weaker}
use Rattle.byte_message.specs.Parts.{rest_of, fault_of}
use Rattle.byte_message.specs.State.{framing}
use Rattle.byte_message.proofs.Advancing.{keeps-all, turns-bad, reads-on}
use Rattle.byte_message.proofs.state.State.take_begun.Goals as goal

pub returns-in_ok-extend_from_slice-in-Line-clause-ok : goal.returns-in_ok-extend_from_slice-in-Line-clause-ok
returns-in_ok-extend_from_slice-in-Line-clause-ok c =
    let same : rest_of c.args.self.now.part ++ c.args.piece.now ≡ c.extend_from_slice.new.self.items
    = ap (λ p. rest_of p ++ c.args.piece.now) c.in-Line-part.is ∙ sym c.in_ok-extend_from_slice-in-Line.ensures.items in
    let unended = rw c.in-Line.is at c.requires.begun in
    keeps-all (framing c.args.self.now) c.args.piece.now c.extend_from_slice.new.self.items (omega arith) same (inl (rw (← same) unended))

pub returns-in-Bad-clause-ok : goal.returns-in-Bad-clause-ok
returns-in-Bad-clause-ok c =
    let bad = rw c.in-Bad.is at c.requires.begun in
    turns-bad (framing c.args.self.now) c.args.piece.now c.in-Bad.fault c.placed.result (omega arith) bad c.placed.ensures

pub returns-in-Within-clause-ok : goal.returns-in-Within-clause-ok
returns-in-Within-clause-ok c =
    let same = rw c.in-Within.is at c.requires.begun in
    let chunks = c.in-Within.chunks in
    keeps-all (framing c.args.self.now) c.args.piece.now (chunks.line.items ++ chunks.bytes.items) (omega arith) same
    (inr (chunks.lengths, chunks.bytes.items, chunks.headed chunks.bytes.items, omega arith))

pub returns-in_ok-reading-in-Whole-clause-ok : goal.returns-in_ok-reading-in-Whole-clause-ok
returns-in_ok-reading-in-Whole-clause-ok c =
    let one = rw c.in-Whole.is at c.requires.begun in
    let rest = rest_of c.args.self.now.part in
    let piece = c.args.piece.now in
    let used = c.in-Whole.used in
    let l = length-append rest (take used piece) in
    let t = length-take-le used piece one.0 in
    let split : rest ++ piece ≡ (rest ++ take used piece) ++ drop used piece
    = ap (λ x. rest ++ x) (sym (take-append-drop used piece)) ∙ sym (append_assoc rest (take used piece) (drop used piece)) in
    let reading = c.in_ok-reading-in-Whole.reading in
    let told = rw (take_rest piece used) at c.in_ok-reading-in-Whole.ensures in
    on_ok_weaker c.join.result
    (λ p. reads-on (framing c.args.self.now) (framing c.join.new.self) piece (rest ++ take used piece) (drop used piece) told.0 c.in-Whole.message
    c.push_back.new.self.items reading.made.items c.saturating_add-at.result reading.at (rest_of reading.part) (fault_of reading.part)
    split one.2 (omega arith) (c.in_ok-push_back-in-Whole.ensures.items ∙ ap (λ x. x ++ c.in-Whole.message ∷ []) c.new-made.ensures.items)
    told.1 told.2 p.0 p.1 (ap rest_of p.2) (ap fault_of p.2))
    c.join.ensures.ok
