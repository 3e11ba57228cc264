-- What is told is what is shown.
use Rattle.std.proofs.Common.{◌++◌, ◌∙◌, ap, subst}
use Rattle.prover_core.specs.Results.{AreResults}
use Rattle.made_document.specs.Tallies.{IsTally, results_reports}
use Rattle.pide_program.specs.Told.{listed_session}
use Rattle.std.proofs.lemmas.Result.{on_ok_weaker}
use Rattle.pide_program.proofs.Shown.{found_reports}
use Rattle.pide_program.proofs.made.counting.add_node.Goals as goal

pub returns-in-Some : goal.returns-in-Some
returns-in-Some g c =
    let l = g.L.Language.lang in
    on_ok_weaker c.add_parts.result (λ counts all version live is.
    subst (λ xs. IsTally c.add_parts.new.self (all ++ xs)) (ap results_reports c.as_slice.ensures.value
    ∙ found_reports l c.args.session.now version c.args.name.now c.args.id c.in-Some.results
    (subst (AreResults l (listed_session l c.args.session.now).events c.args.id c.args.name.now) c.in-Some.is c.in_ok-results.ensures) live)
    (counts all is)) c.add_parts.ensures
