use Rattle.std.proofs.Common.{◌≡◌, ◌≤◌, ◌<◌, ℕ, false, Some, None, filter, rules, ap, subst, ◌∙◌}
use Rattle.std.specs.Prelude.{is_some}
use Rattle.text_words.specs.Members.{has}
use Rattle.pide_base.specs.declared.part.Part.{Part}
use Rattle.core_tables.specs.Rows.{execution_of}
use Rattle.core_tables.specs.Tasks.{standing}
use Rattle.core_tables.specs.Ready.{IsReadyPart}
use Rattle.core_tables.specs.Live.{version_of}
use Rattle.exec_rules.specs.declared.version.Version.{Version}
use Rattle.core_rules.specs.Doc.{doc}
use Rattle.core_rules.specs.Stuck.{stuck_in}
use Rattle.core_jobs.specs.Parts.{is_unfinished}
use Rattle.version_losses.specs.Losses.{number_of}
use Rattle.prover_core.specs.States.{CoreState}
use Rattle.prover_core.specs.Looked.{looked}
use Rattle.prover_core.specs.Settling.{IsLeft, IsSettled}
use Rattle.prover_core.proofs.BehindSettled.{ready_is_left, held_is_left, is_settled_so, stuck_is}
use Rattle.prover_core.proofs.LossesBehind.{no_version}
use Rattle.prover_core.proofs.KnownResults.{on_err}
use Rattle.prover_core.proofs.prover.Core.settled.Given.{Over}
use Rattle.prover_core.proofs.prover.Core.settled.Goals as goal
use Rattle.prover_core.proofs.prover.Core.settled.Goals.{After-looked_at}

pub returns-in_default-clause-settled : goal.returns-in_default-clause-settled
returns-in_default-clause-settled g c =
    let l = g.L.Language.lang in
    let none : number_of c.self.inside.losses.losses c.args.id ≡ None = search rules in
    subst (λ (s : CoreState). version_of (doc l s.past).live c.args.id ≡ None) c.self.view_is
    (no_version (doc l c.self.inside.past) 0 c.self.inside.losses.losses (doc l c.self.inside.past).live c.self.invariant.losses c.args.id none)

pub returns-in-Some-ready_below-clause-settled : goal.returns-in-Some-ready_below-clause-settled
returns-in-Some-ready_below-clause-settled g c =
    let l = g.L.Language.lang in
    let number : number_of c.self.inside.losses.losses c.args.id ≡ Some c.in-Some.behind = search rules in
    let found = c.in-Some-ready_below.ensures.some in
    subst (λ (s : CoreState). (w : Version) × (version_of (doc l s.past).live c.args.id ≡ Some w) × IsLeft l s.past w c.in-Some-ready_below.part)
    c.self.view_is
    (ready_is_left l _ _ c.self.invariant c.tip_law.ensures c.holders_law.ensures.told c.homes_law.ensures.begun c.args.id
    c.in-Some.behind number c.in-Some-ready_below.part found.0 found.1)

pub returns-in-Some-held_below-clause-settled : goal.returns-in-Some-held_below-clause-settled
returns-in-Some-held_below-clause-settled g c =
    let l = g.L.Language.lang in
    let number : number_of c.self.inside.losses.losses c.args.id ≡ Some c.in-Some.behind = search rules in
    let found = c.in-Some-held_below.ensures.some in
    subst (λ (s : CoreState). (w : Version) × (version_of (doc l s.past).live c.args.id ≡ Some w) × IsLeft l s.past w c.in-Some-held_below.part)
    c.self.view_is
    (held_is_left l _ _ c.self.invariant c.tip_law.ensures c.holders_law.ensures.told c.homes_law.ensures.begun c.args.id
    c.in-Some.behind number c.in-Some-held_below.part found.2.0 found.0 found.1 found.2.1)

-- where nothing is ready and nothing held below, the version is settled
is_settled : (g : Over) (c : After-looked_at g) → IsSettled g.L.Language.lang c.self.inside.past c.args.id
is_settled g c =
    let l = g.L.Language.lang in
    let number : number_of c.self.inside.losses.losses c.args.id ≡ Some c.in-Some.behind = search rules in
    let no_ready : (p : Part) → IsReadyPart (standing c.self.inside.queue) p → c.in-Some.behind ≤ p.exec = search rules in
    let no_held : (who : ℕ) (p : Part) → looked c.self.inside.holders who ≡ Some p → p.exec < c.in-Some.behind
    → is_some (standing c.self.inside.queue p.exec) ≡ false = search rules in
    is_settled_so l _ _ c.self.invariant c.tip_law.ensures c.holders_law.ensures.told c.homes_law.ensures.begun c.args.id
    c.in-Some.behind number c.homes_law.ensures.live no_ready no_held

pub returns-in_err-all-clause-err : goal.returns-in_err-all-clause-err
returns-in_err-all-clause-err g c =
    let so = is_settled g (goal.at.returns-in_err-all-clause-err g c).After-looked_at in
    on_err c.from_residual.result (subst (λ (s : CoreState). IsSettled g.L.Language.lang s.past c.args.id) c.self.view_is so)

pub returns-in_err-open_among-clause-err : goal.returns-in_err-open_among-clause-err
returns-in_err-open_among-clause-err g c =
    let so = is_settled g (goal.at.returns-in_err-open_among-clause-err g c).After-looked_at in
    on_err c.from_residual-in_err-open_among.result (subst (λ (s : CoreState). IsSettled g.L.Language.lang s.past c.args.id) c.self.view_is so)

pub returns-clause-settled : goal.returns-clause-settled
returns-clause-settled g c =
    let l = g.L.Language.lang in
    let number : number_of c.self.inside.losses.losses c.args.id ≡ Some c.in-Some.behind = search rules in
    let no_ready : (p : Part) → IsReadyPart (standing c.self.inside.queue) p → c.in-Some.behind ≤ p.exec = search rules in
    let no_held : (who : ℕ) (p : Part) → looked c.self.inside.holders who ≡ Some p → p.exec < c.in-Some.behind
    → is_some (standing c.self.inside.queue p.exec) ≡ false = search rules in
    let kept = c.in_ok-open_among.field-0.items in
    subst (λ (s : CoreState). (x : IsSettled l s.past c.args.id) × (kept ≡ stuck_in l s.past (doc l s.past) x.version)) c.self.view_is
    (stuck_is l _ _ c.self.invariant c.tip_law.ensures c.holders_law.ensures.told c.homes_law.ensures.begun c.args.id
    c.in-Some.behind number c.homes_law.ensures.live no_ready no_held c.homes_law.ensures.tip c.deref.result.now c.in_ok-all.all.items kept
    c.deref.ensures.value c.in_ok-all.ensures c.in_ok-open_among.ensures.rises
    (λ e. c.in_ok-open_among.ensures.same e
    ∙ ap (λ xs. has (filter (λ m. is_unfinished (execution_of c.self.inside.execs.rows m)) xs) e) c.deref-2.ensures.value))
