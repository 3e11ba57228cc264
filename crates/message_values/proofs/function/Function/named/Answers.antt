use Rattle.std.proofs.Common.{rules, ◌≡◌, [], ◌∷◌, ◌++◌, bytes_eq, sym, ◌∙◌}
use Rattle.std.proofs.lemmas.List.Folds.{find-append}
use Rattle.message_values.specs.declared.function.Function.TheVariants.{Claim, Finish}
use Rattle.message_values.specs.Functions.{word, named_in, of_session}
use Rattle.message_values.proofs.function.Function.named.Goals as goal

pub returns-in-Replay : goal.returns-in-Replay
returns-in-Replay c =
    let both = find-append (λ f. bytes_eq (word f) c.args.name.now) of_session (Claim ∷ Finish ∷ []) in
    search (rules, both)
