use Rattle.std.proofs.Common.{◌≡◌, ℕ, rules, ap, sym, subst, ◌∙◌}
use Rattle.std.specs.Prelude.{Some}
use Rattle.core_tables.specs.Rows.{execution_of}
use Rattle.doc_nodes.specs.Imports.{place_of}
use Rattle.core_tables.specs.Live.{version_of}
use Rattle.core_jobs.specs.declared.results.NodeResults.{NodeResults}
use Rattle.prover_core.specs.States.{CoreState}
use Rattle.prover_core.specs.Results.{AreResultsIn}
use Rattle.prover_core.proofs.NodeShown.{results_so}
use Rattle.prover_core.proofs.prover.Core.results.Goals as goal

pub returns : goal.returns
returns g c =
    let l = g.L.Language.lang in
    let v = c.get-version.result.now in
    let place = c.in-Some-place_in.place in
    let table = λ (e : ℕ). execution_of c.self.inside.execs.rows e in
    let live = ap (λ lv. version_of lv c.args.id) (sym c.self.invariant.live) ∙ sym c.in-Some.ensures ∙ ap Some (sym c.get-version.ensures) in
    let at : place_of v.nodes c.args.name.now ≡ Some place = search rules in
    let found : NodeResults = c.in_ok-results.results in
    subst (λ (s : CoreState). AreResultsIn l s.past c.args.id c.args.name.now found) c.self.view_is
    (results_so l _ _ c.self.invariant c.args.id c.args.name.now v c.places_law.ensures.there live found place at
    c.in_ok-results.ensures.parts c.in_ok-results.ensures.rises c.in_ok-results.ensures.pending)
