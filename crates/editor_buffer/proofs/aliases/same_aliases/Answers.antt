use Rattle.std.proofs.Common.{◌≡◌, length, arith}
use Rattle.editor_buffer.proofs.SameLists.{same_lists}
use Rattle.editor_buffer.proofs.aliases.same_aliases.Goals as goal

pub returns : goal.returns
returns c =
    let len : length c.args.aliases.now ≡ length c.args.others.now = omega (arith, c.if-len.false, c.len.ensures, c.len-2.ensures) in
    same_lists c.args.aliases.now c.args.others.now len
    (λ k lt. c.pairs.invariant k (omega (arith, c.pairs-test.false, c.len-place-end.ensures)))
