-- What is read of a text that has nothing needless.
use Rattle.std.proofs.Common.{rules, false, ◌≡◌}
use Rattle.command_words.specs.Asked.{has_needless}
use Rattle.command_words.proofs.Numbers.{read_number}
use Rattle.command_words.proofs.number.number.Goals as goal

pub returns : goal.returns
returns c =
    let plain : has_needless c.args.text.now ≡ false = search rules in
    read_number c.args.text.now c.parse.result c.ok.result plain c.parse.ensures.value.0 c.ok.ensures.value
