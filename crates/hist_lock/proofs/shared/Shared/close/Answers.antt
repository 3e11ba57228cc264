use Rattle.std.proofs.Common.{rules, ◌∙◌, ap}
use mathlib.Core.Option.{some}
use Rattle.hist_lock.proofs.Bounds.{closed, closed_at}
use Rattle.hist_lock.proofs.shared.Shared.close.Goals as goal

pub unwrap-requires : goal.unwrap-requires
unwrap-requires g c = let p = c.args.pass in
    let h = closed g.S.State.entries g.S.State.whose g.S.State.legal _ p.place.me.0 _ _ _ p.ready.0 c.requires.first c.requires.all c.close_with-closed.ensures.values.2 c.take-state.ensures.value in
    let is = h.1 in search rules

pub returns-clause-fits : goal.returns-clause-fits
returns-clause-fits g c = let p = c.args.pass in
    (closed_at g.S.State.entries g.S.State.whose g.S.State.legal _ p.place.me.0 _ _ _ p.ready.0 c.requires.first c.requires.all c.close_with-closed.ensures.values.2
    (c.take-state.ensures.value ∙ ap some c.unwrap.ensures)).fits

pub returns-clause-theirs : goal.returns-clause-theirs
returns-clause-theirs g c = let p = c.args.pass in
    (closed_at g.S.State.entries g.S.State.whose g.S.State.legal _ p.place.me.0 _ _ _ p.ready.0 c.requires.first c.requires.all c.close_with-closed.ensures.values.2
    (c.take-state.ensures.value ∙ ap some c.unwrap.ensures)).theirs

pub returns-clause-no_other : goal.returns-clause-no_other
returns-clause-no_other g c = let p = c.args.pass in
    (closed_at g.S.State.entries g.S.State.whose g.S.State.legal _ p.place.me.0 _ _ _ p.ready.0 c.requires.first c.requires.all c.close_with-closed.ensures.values.2
    (c.take-state.ensures.value ∙ ap some c.unwrap.ensures)).no_other
