use Rattle.std.proofs.Common.{rules, ◌≡◌, ℕ, List, ap, sym, ◌∙◌}
use Rattle.reply_messages.specs.declared.told.Told.TheVariants as tells
use Rattle.session_replies.specs.Spelling.{reply_spelling}
use Rattle.session_replies.proofs.RisingNumbers.{from_rising, same_numbers}
use Rattle.session_replies.proofs.ToldLists.{told_as}
use Rattle.session_replies.proofs.removed.removed_versions.Goals as goal

pub returns : goal.returns
returns c = λ risen is.
    let own : List ℕ = c.in_ok-risen.risen.items in
    let same : own ≡ risen = same_numbers 0 own risen (from_rising own c.in_ok-risen.ensures.rises) (from_rising risen is.rises)
    (λ n. c.in_ok-risen.ensures.same n ∙ sym (is.same n)) in
    told_as c.removed.result (λ bytes. bytes.items) (reply_spelling (tells.Removed own))
    (reply_spelling (tells.Removed risen))
    (ap (λ versions. reply_spelling (tells.Removed versions)) same) (search rules)
