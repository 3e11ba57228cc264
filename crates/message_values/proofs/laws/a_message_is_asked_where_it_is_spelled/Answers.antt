-- By what is made of the arguments, and by what tells them.
use Rattle.message_values.proofs.Asking.{asked_sound, asked_complete}
use Rattle.message_values.proofs.laws.a_message_is_asked_where_it_is_spelled.Goals as goal

pub returns : goal.returns
returns c =
    let one = c.each_text_has_one_answer.ensures.body in
    λ mode chunks message. (asked_sound one mode chunks message, asked_complete one mode chunks message)
