-- The commands are added one after the other.
use Rattle.std.proofs.Common.{rules, ap, ap₂, codes, true, false, ◌≡◌, ◌∙◌}
use Rattle.std.proofs.lemmas.Result.{IfOk-weaker}
use Rattle.clap.specs.Words.{App, app_of, with_rule, with_subcommand}
use Rattle.clap.specs.Simple.{on_top}
use Rattle.clap.specs.declared.builder.command.Command.TheViews.{out-Command}
use Rattle.command_words.proofs.Settings.{requires_one, without_name}
use Rattle.command_words.specs.Program.{bare, nodes, with_workers}
use Rattle.command_words.proofs.command.command.Goals as goal

pub returns : goal.returns
returns c =
    let made_is : app_of c.in_ok-made.made ≡ with_rule (with_workers (codes "gen")) nodes =
    c.in_ok-made.ensures.shape c.nodes_number.ensures.local ∙ ap₂ with_rule c.in_ok-with_workers.ensures.app c.nodes_number.ensures.rule in
    let made_local : (out-Command c.in_ok-made.made).has_globals ≡ false = search rules in
    let bare_is : app_of c.subcommand_required-bare.result ≡ bare =
    requires_one c.no_binary_name.result c.subcommand_required-bare.result c.subcommand_required-bare.ensures
    ∙ ap (on_top (λ top. record top { subcommand_required = true }))
    (without_name c.new.result c.no_binary_name.result c.no_binary_name.ensures
    ∙ ap (on_top (λ top. record top { no_binary_name = true })) c.new.ensures.app) in
    let one = c.in_ok-subcommand.ensures.shape c.in_ok-serve.ensures.local ∙ ap₂ with_subcommand bare_is (ap (λ (a : App). a.top) c.in_ok-serve.ensures.app) in
    let two = c.in_ok-subcommand-2.ensures.shape (search rules) ∙ ap₂ with_subcommand one (ap (λ (a : App). a.top) c.new-2.ensures.app) in
    let three = c.in_ok-subcommand-3.ensures.shape (search rules) ∙ ap₂ with_subcommand two (ap (λ (a : App). a.top) c.new-3.ensures.app) in
    let four = c.in_ok-subcommand-4.ensures.shape (search rules) ∙ ap₂ with_subcommand three (ap (λ (a : App). a.top) c.new-4.ensures.app) in
    let five = c.in_ok-subcommand-5.ensures.shape c.in_ok-build.ensures.local ∙ ap₂ with_subcommand four (ap (λ (a : App). a.top) c.in_ok-build.ensures.app) in
    IfOk-weaker c.subcommand-6.result _ _ (λ r adds. adds.shape made_local ∙ ap₂ with_subcommand five (ap (λ (a : App). a.top) made_is)) c.subcommand-6.ensures
