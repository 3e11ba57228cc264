use Rattle.std.proofs.Common.{◌∙◌, sym, subst}
use Rattle.text_words.specs.Longest.{IsLongest}
use Rattle.text_words.specs.Identifier.{IsIdentifier}
use Rattle.text_words.proofs.KnownIdentifiers.{letter-at, letter-none-at}
use Rattle.text_words.proofs.identifier.identifier_front.Goals as goal

pub returns-in-len1-up : goal.returns-in-len1-up
returns-in-len1-up c =
    subst (IsLongest IsIdentifier c.args.text.now) (sym c.part_run.ensures) (letter-at c.args.text.now c.first-item.result c.in-len1-up.len_at_least c.first-item.is (sym c.is_ascii_alphabetic.ensures.value ∙ c.if-is_ascii_alphabetic.true))

pub returns-in_default-2 : goal.returns-in_default-2
returns-in_default-2 c =
    letter-none-at c.args.text.now c.first-item.result c.in-len1-up.len_at_least c.first-item.is (sym c.is_ascii_alphabetic.ensures.value ∙ c.if-is_ascii_alphabetic.false)
