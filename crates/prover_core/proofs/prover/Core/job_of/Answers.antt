use Rattle.std.proofs.Common.{◌≡◌, Some, sym, ap, subst, ◌∙◌, rules}
use Rattle.std.specs.Option.{option_copied, option_map}
use Rattle.exec_rules.specs.declared.home.Home.{Home}
use Rattle.exec_rules.specs.declared.version.Version.{Version}
use Rattle.core_rules.specs.Doc.{doc}
use Rattle.core_rules.specs.Ready.{first_ready}
use Rattle.core_rules.specs.Settings.{setting}
use Rattle.prover_core.specs.Looked.{looked}
use Rattle.prover_core.specs.States.{CoreState}
use Rattle.prover_core.proofs.KnownResults.{when_made}
use Rattle.prover_core.proofs.TipLive.{laws_of}
use Rattle.prover_core.proofs.FirstJob.{first_job, job_there, job_right, job_made, never_by}
use Rattle.prover_core.proofs.prover.Core.job_of.Goals as goal

pub unreachable-requires : goal.unreachable-requires
unreachable-requires g c =
    let first = subst (λ (s : CoreState). first_ready g.L.Language.lang s.past ≡ Some c.args.part.now) (sym c.self.view_is) c.requires.first in
    let laws = laws_of _ _ _ c.self.invariant c.tip_law.ensures c.holders_law.ensures.told in
    let job = first_job _ _ _ c.self.invariant laws (c.first_law.ensures.first c.self.inside.past) (c.first_law.ensures.none c.self.inside.past)
    (λ e is. c.homes_law.ensures.tip c.self.inside.past e c.self.invariant.legal is)
    (λ p going. c.homes_law.ensures.begun c.self.inside.past p c.self.invariant.legal going) c.args.part.now first in
    never_by (λ k. k.home) _ _ job.known
    (ap (looked c.self.inside.known) (sym c.number.ensures.value) ∙ sym c.get.ensures.value ∙ ap option_copied c.in_default.is)

pub input_of-input-requires : goal.input_of-input-requires
input_of-input-requires g c =
    let first = subst (λ (s : CoreState). first_ready g.L.Language.lang s.past ≡ Some c.args.part.now) (sym c.self.view_is) c.requires.first in
    let laws = laws_of _ _ _ c.self.invariant c.tip_law.ensures c.holders_law.ensures.told in
    let home = ap (option_map (λ k. k.home)) (ap (looked c.self.inside.known) (sym c.number.ensures.value) ∙ sym c.get.ensures.value
    ∙ ap option_copied c.in-Some.is) ∙ ap (λ (x : Home). Some x) (sym c.get-home.ensures) in
    let nodes = ap (λ (v : Version). v.nodes) (c.get-2.ensures ∙ c.tip.ensures) in
    let there = job_there _ _ _ c.self.invariant laws (c.first_law.ensures.first c.self.inside.past) (c.first_law.ensures.none c.self.inside.past)
    (λ e is. c.homes_law.ensures.tip c.self.inside.past e c.self.invariant.legal is)
    (λ p going. c.homes_law.ensures.begun c.self.inside.past p c.self.invariant.legal going) c.args.part.now first c.get-2.result.now.nodes nodes c.get-home.result.now home in there

pub returns : goal.returns
returns g c =
    let first = subst (λ (s : CoreState). first_ready g.L.Language.lang s.past ≡ Some c.args.part.now) (sym c.self.view_is) c.requires.first in
    let laws = laws_of _ _ _ c.self.invariant c.tip_law.ensures c.holders_law.ensures.told in
    let home = ap (option_map (λ k. k.home)) (ap (looked c.self.inside.known) (sym c.number.ensures.value) ∙ sym c.get.ensures.value
    ∙ ap option_copied c.in-Some.is) ∙ ap (λ (x : Home). Some x) (sym c.get-home.ensures) in
    let nodes = ap (λ (v : Version). v.nodes) (c.get-2.ensures ∙ c.tip.ensures) in
    let right = job_right _ _ _ c.self.invariant laws (c.first_law.ensures.first c.self.inside.past) (c.first_law.ensures.none c.self.inside.past)
    (λ e is. c.homes_law.ensures.tip c.self.inside.past e c.self.invariant.legal is)
    (λ p going. c.homes_law.ensures.begun c.self.inside.past p c.self.invariant.legal going) c.args.part.now first c.get-2.result.now.nodes nodes c.get-home.result.now home
    c.in_ok-input.input (when_made _ c.in_ok-input.ensures.first c.input_of-input.ensures) in
    job_made g.L.Language.lang (doc g.L.Language.lang c.args.self.now.past).homes c.args.part.now c.same.result _ _ _ _ _
    c.same.ensures (search rules) (search rules)
    (ap (λ (s : CoreState). setting g.L.Language.lang (doc g.L.Language.lang s.past).homes c.args.part.now.exec) (sym c.self.view_is) ∙ right)
    c.new.result c.new.ensures
