-- The newline is sought where the line may still end.
use Rattle.std.proofs.Common.{◌≡◌, arith, None}
use Rattle.std.proofs.lemmas.List.{length-take-le, take_all}
use Rattle.byte_message.specs.Heading.{after_line}
use Rattle.byte_message.proofs.Headings.{unended-length}
use Rattle.byte_message.proofs.Newlines.{found-line, found-after, still_unended, over_long}
use Rattle.byte_message.proofs.begin.begin.Goals as goal

pub overflow_sub-room : goal.overflow_sub-room
overflow_sub-room c = let n = unended-length c.args.head.now c.requires in omega arith

pub at_newline-requires-clause-line : goal.at_newline-requires-clause-line
at_newline-requires-clause-line c =
    let m = length-take-le c.min-seen.result c.args.piece.now (omega arith) in
    let e = c.in-Some.ensures in
    found-line c.min-seen.result c.args.piece.now c.in-Some.used (omega arith) (omega arith) e.1 e.2

pub at_newline-requires-clause-after : goal.at_newline-requires-clause-after
at_newline-requires-clause-after c =
    let m = length-take-le c.min-seen.result c.args.piece.now (omega arith) in
    let e = c.in-Some.ensures in
    found-after c.min-seen.result c.args.piece.now c.in-Some.used (omega arith) (omega arith) e.2

pub returns-in-None : goal.returns-in-None
returns-in-None c =
    let n = unended-length c.args.head.now c.requires in
    let all = take_all c.min-seen.result c.args.piece.now (omega arith) in
    let none : after_line c.args.piece.now ≡ None = rw all at c.in-None.ensures in
    still_unended c.args.head.now c.args.piece.now c.requires none (omega arith)

pub returns-in-None-2 : goal.returns-in-None-2
returns-in-None-2 c =
    let n = unended-length c.args.head.now c.requires in
    over_long c.args.head.now c.args.piece.now c.min-seen.result c.requires (omega arith) c.in-None.ensures (omega arith)
