use Rattle.std.proofs.Common.{rules, ◌≡◌, ℕ, List, map, is_some, ap, sym, ◌∙◌}
use Rattle.std.specs.HashMap.{keys}
use Rattle.std.specs.Map.Iter.{deref}
use Rattle.std.proofs.lemmas.Map.Iter.{iter_end}
use Rattle.text_words.specs.Members.{has}
use Rattle.core_tables.specs.Tasks.{Queue, standing}
use Rattle.core_tables.proofs.queue.TaskQueue.executions.Goals as goal

pub returns : goal.returns
returns c = λ e id.
    let whole : map deref c.loop-number.yielded ≡ keys c.self.inside.tasks = search (rules, iter_end) in
    c.loop-number.invariant.2 e id ∙ ap (λ (xs : List ℕ). has xs e) (whole ∙ sym c.keys-number-items.ensures.rest)
    ∙ sym (c.keys-number-items.ensures.has e) ∙ ap (λ (q : Queue). is_some (standing q e)) c.self.view_is
