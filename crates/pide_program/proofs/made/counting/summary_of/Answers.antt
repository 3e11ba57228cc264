-- What is counted is the summary.
use Rattle.std.proofs.Common.{◌≡◌, ◌∙◌, ap, sym, List}
use Rattle.std.specs.Option.{option_copied}
use Rattle.core_tables.specs.declared.versions.Live.{Live}
use Rattle.core_tables.specs.Live.{version_of}
use Rattle.exec_rules.specs.declared.version.Version.{Version}
use Rattle.session_rules.specs.Session.{document}
use Rattle.made_document.specs.Messages.{last_version}
use Rattle.made_document.specs.Summary.{greatest_execution}
use Rattle.pide_program.specs.Told.{IsLive, listed_session}
use Rattle.pide_program.proofs.Summing.{SettledLaws, none_is, some_is}
use Rattle.pide_program.proofs.made.counting.summary_of.Goals as goal

pub returns-in_default : goal.returns-in_default
returns-in_default g c = λ count workers is.
    let l = g.L.Language.lang in
    let laws : SettledLaws l = record { live = c.settled_law.ensures.live; shown = c.settled_law.ensures.shown } in
    let at : option_copied c.version_in.result ≡ version_of
    (document l (listed_session l c.args.session.now)).live last_version =
    c.version_in.ensures ∙ ap (λ (xs : List (Live Version)). version_of xs c.numbered-id.result) c.live-live.ensures
    ∙ ap (version_of (document l (listed_session l c.args.session.now)).live)
    c.numbered-id.ensures in
    none_is l laws count workers c.args.session.now is (sym at ∙ ap option_copied c.in_default.is)

pub returns : goal.returns
returns g c = λ count workers is.
    let l = g.L.Language.lang in
    let laws : SettledLaws l = record { live = c.settled_law.ensures.live; shown = c.settled_law.ensures.shown } in
    let number_is = c.numbered-id.ensures in
    let at : option_copied c.version_in.result ≡ version_of (document l (listed_session l c.args.session.now)).live c.numbered-id.result =
    c.version_in.ensures ∙ ap (λ (xs : List (Live Version)). version_of xs c.numbered-id.result) c.live-live.ensures in
    let live : IsLive l c.args.session.now c.numbered-id.result c.in-Some.version.now = sym at ∙ ap option_copied c.in-Some.is in
    some_is l laws count workers c.args.session.now is c.in-Some.version.now
    (sym (ap (version_of (document l (listed_session l c.args.session.now)).live) number_is) ∙
    live)
    c.in_ok-tally.tally c.len.result c.in_ok-commands.commands c.greatest_execution.result
    (c.in_ok-tally.ensures c.in-Some.version.now live) c.len.ensures c.in_ok-commands.ensures
    (c.greatest_execution.ensures ∙ ap greatest_execution c.live-live.ensures)
