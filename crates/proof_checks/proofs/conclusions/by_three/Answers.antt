use Rattle.std.proofs.Common.{◌≡◌, Option, None, sym, subst}
use Rattle.nj_formula.specs.Meaning.{meaning}
use Rattle.nj_formula.specs.Statement.{Statement}
use Rattle.theory_ctx.specs.declared.local.Local.{Local}
use Rattle.nj_kernel.specs.Theorem.{assumed, shown}
use Rattle.proof_checks.specs.Fits.{FitsThree}
use Rattle.proof_checks.proofs.PremiseLemmas.{three_fit, three_gives}
use Rattle.proof_checks.proofs.SettleLemmas.{settles_runs}
use Rattle.proof_checks.proofs.conclusions.by_three.Goals as goal

-- the premises' theorems show the parts' goals, and so fit the rule
shown_fit : {p q h a b d : Statement} (o k n : Option Local) (g : Statement) → p ≡ a → q ≡ b → h ≡ d → FitsThree o k n a b d g → FitsThree o k n p q h g
shown_fit {p} {q} {h} {a} {b} {d} o k n g one two three fits =
    subst (λ x. FitsThree o k n x q h g) (sym one) (subst (λ x. FitsThree o k n a x h g) (sym two) (subst (λ x. FitsThree o k n a b x g) (sym three) fits))

pub settle-requires : goal.settle-requires
settle-requires c =
    let p = c.args.p.now in
    let q = c.args.q.now in
    let r = c.args.r.now in
    let g = meaning c.args.goal.now in
    let fits = shown_fit p.own q.own r.own g c.requires.first c.requires.second c.requires.third c.requires.fits in
    three_fit p.own q.own r.own (assumed c.args.t.now) (assumed c.args.u.now) (assumed c.args.v.now) (shown c.args.t.now) (shown c.args.u.now) (shown c.args.v.now) g c.disj_e.result fits c.disj_e.ensures

pub returns-clause-gives : goal.returns-clause-gives
returns-clause-gives c =
    let p = c.args.p.now in
    let q = c.args.q.now in
    let r = c.args.r.now in
    let g = meaning c.args.goal.now in
    let fits = shown_fit p.own q.own r.own g c.requires.first c.requires.second c.requires.third c.requires.fits in
    λ s t u l m n. three_gives p.own q.own r.own (assumed c.args.t.now) (assumed c.args.u.now) (assumed c.args.v.now) (shown c.args.t.now) (shown c.args.u.now) (shown c.args.v.now) g c.disj_e.result c.settle.result s t u fits c.disj_e.ensures c.settle.ensures l m n

pub returns-clause-runs : goal.returns-clause-runs
returns-clause-runs c = settles_runs None c.disj_e.result c.settle.result c.settle.ensures
