use Rattle.std.proofs.Common.{◌≡◌, length, rules}
use Rattle.pide_mirror.proofs.Viewing.{none_tried}
use Rattle.pide_mirror.proofs.looking.try_edits.Goals as goal

pub returns-then-is_empty : goal.returns-then-is_empty
returns-then-is_empty c =
    let none : length c.args.edits.now ≡ 0 = search rules in
    none_tried c.args.edits.now c.args.text.now none
