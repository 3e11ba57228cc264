-- One byte more: the numbers before it stay, or one more has ended.
use Rattle.std.proofs.Common.{rules, ◌≡◌, ◌++◌, [], ◌∷◌, arith, Some, true}
use Rattle.std.proofs.Math.ListN.{get_or}
use Rattle.std.specs.Option.{unwrap_or}
use Rattle.byte_message.specs.Line.{is_digit}
use Rattle.byte_message.proofs.Counting.{digit_read, comma_read}
use Rattle.byte_message.proofs.line.numbers.Goals as goal
use Rattle.byte_message.proofs.line.numbers.Goals.{then-is_ascii_digit, else-is_ascii_digit+then-b-eq44+then-is_some}

pub loop-b-preserved : goal.loop-b-preserved
loop-b-preserved c =
    let read = c.loop-b.invariant.read in
    let text = c.args.text.now in
    let i = c.loop-b.b-index in
    elim c.if-is_ascii_digit.branch [
      | then-is_ascii_digit w ↦
          let digit : is_digit (get_or text i 0) ≡ true = search rules in
          let more = digit_read text read.0 i c.loop-b.before (omega arith) digit read.2 in
          record { small = search rules; few = search rules; read = (read.0, search rules, search rules) }
      | else-is_ascii_digit+then-b-eq44+then-is_some w ↦
          let n = unwrap_or c.loop-b.before 0 in
          let comma : get_or text i 0 ≡ 44 = search rules in
          let some : c.loop-b.before ≡ Some n = search rules in
          let more = comma_read text read.0 i n c.loop-b.before (omega arith) comma some read.2 in
          record { small = search rules; few = search rules; read = (read.0 ++ n ∷ [], search rules, rw w.before-is more) }
    ]
