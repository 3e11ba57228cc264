-- The lines are those of the summary.
use Rattle.std.proofs.Common.{◌≡◌, string_bytes}
use Rattle.made_document.specs.Summary.{summary_text, summary_lines}
use Rattle.pide_program.proofs.Asking.{ok_on}
use Rattle.pide_program.proofs.Summing.{no_lines, some_lines}
use Rattle.pide_program.proofs.made.generating.lines.Goals as goal

pub returns-in-Some : goal.returns-in-Some
returns-in-Some g c = ok_on c.lines.result
    (λ text. string_bytes text ≡ summary_text c.in-Some.summary)
    (λ text. string_bytes text ≡ summary_lines g.L.Language.lang c.args.count)
    (λ text written. some_lines g.L.Language.lang c.args.count c.in_ok-summary.field-0 c.in-Some.summary (string_bytes text) c.in-Some.is
    (c.in_ok-summary.ensures c.args.count c.args.workers c.in_ok-session.ensures) written) c.lines.ensures

pub returns-in-None : goal.returns-in-None
returns-in-None g c = no_lines g.L.Language.lang c.args.count c.in_ok-summary.field-0 (string_bytes c.new.result) c.in-None.is
    (c.in_ok-summary.ensures c.args.count c.args.workers c.in_ok-session.ensures) c.new.ensures.bytes
