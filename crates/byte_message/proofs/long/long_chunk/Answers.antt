-- The bytes that are left begin with the end of a number, or with none.
use Rattle.std.proofs.Common.{rules, ◌≡◌, ◌<◌, ◌≤◌, ◌^◌, false, length, sym, ◌∙◌, arith}
use Rattle.std.proofs.Math.ListN.{get_or}
use Rattle.byte_message.specs.Line.{is_digit}
use Rattle.byte_message.proofs.LongChunks.{at_end, at_long, at_none, long_of}
use Rattle.byte_message.proofs.long.long_chunk.Goals as goal

pub returns-then-size : goal.returns-then-size
returns-then-size c = λ chunks is.
    let rest = c.header.rest.now in
    let other : is_digit (get_or rest 0 0) ≡ false = search rules in
    let many : 16777216 < c.header.size = omega arith in
    let short : length c.args.spelled.now < 2 ^ 64 = omega arith in
    sym (at_long c.header.size rest (omega arith) other many) ∙ c.header.invariant ∙ long_of c.args.spelled.now chunks short is

pub returns-then-byte-eq10 : goal.returns-then-byte-eq10
returns-then-byte-eq10 c = λ chunks is.
    let rest = c.header.rest.now in
    let end : get_or rest 0 0 ≡ 10 = search rules in
    let few : c.header.size ≤ 16777216 = omega arith in
    let short : length c.args.spelled.now < 2 ^ 64 = omega arith in
    sym (at_end c.header.size rest (omega arith) end few) ∙ c.header.invariant ∙ long_of c.args.spelled.now chunks short is

pub returns : goal.returns
returns c = λ chunks is.
    let short : length c.args.spelled.now < 2 ^ 64 = omega arith in
    sym (at_none c.header.size c.header.rest.now (omega arith)) ∙ c.header.invariant ∙ long_of c.args.spelled.now chunks short is
