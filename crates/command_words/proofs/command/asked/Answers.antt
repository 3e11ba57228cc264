use Rattle.std.proofs.Common.{rules, ◌≡◌, ◌∙◌, List, map, ap, sym, inl, inr}
use Rattle.clap.specs.Words.{App, Text, app_of, is_simple, subcommand_of, subcommand_rows_of}
use Rattle.clap.specs.Faults.{fault_of, is_simple_and_free}
use Rattle.command_words.specs.Program.{program}
use Rattle.command_words.proofs.Judged.{is_free, is_plain, when_taken, when_refused}
use Rattle.command_words.proofs.command.asked.Goals as goal

pub returns-in-Ok : goal.returns-in-Ok
returns-in-Ok c =
    let app_is : app_of c.in_ok-command.command ≡ program = search rules in
    let words : List Text = map (λ w. w.now) c.args.words.now in
    c.requested.ensures ∙ when_taken words (subcommand_rows_of c.in-Ok.matches)
    (ap (λ (a : App). fault_of a words) (sym app_is) ∙ c.in-Ok.ensures.kinds (ap is_simple_and_free app_is ∙ is_free))
    ((c.in-Ok.ensures.matches (ap is_simple app_is ∙ is_plain)).1 ∙ ap (λ (a : App). subcommand_of a words) app_is)

pub returns : goal.returns
returns c =
    let app_is : app_of c.in_ok-command.command ≡ program = search rules in
    let words : List Text = map (λ w. w.now) c.args.words.now in
    elim (c.in-Err.ensures.kinds (ap is_simple_and_free app_is ∙ is_free)) [
      | inl memory ↦ absurd (c.in_default.not-OutOfMemory (c.kind.ensures ∙ memory))
      | inr among ↦ sym (when_refused words (fault_of (app_of c.in_ok-command.command) words) (ap (λ (a : App). fault_of a words) (sym app_is)) _ among)
    ]
