use Rattle.std.proofs.Common.{sym, ◌∙◌, ap}
use Rattle.std.specs.Prelude.{position}
use Rattle.std.specs.Ordering.{is_eq}
use Rattle.shared_map.proofs.PlaceOf.{not_placed, is_placed, is_other}
use Rattle.shared_map.proofs.map.SharedMap.place_in.Goals as goal

pub returns-in-None : goal.returns-in-None
returns-in-None g c =
    sym (not_placed (g.met.C.Cut.rises c.args.cut.now) c.self.inside.pairs c.self.invariant _ c.count_before-place.ensures _ c.get.ensures c.in-None.is)
    ∙ ap (position (λ pair. is_eq (g.C.Cut.place c.args.cut.now pair.0))) c.self.view_is

pub returns-in-Equal : goal.returns-in-Equal
returns-in-Equal g c =
    sym (is_placed (g.met.C.Cut.rises c.args.cut.now) c.self.inside.pairs c.self.invariant _ c.count_before-place.ensures _ _ _ c.get.ensures c.in-Some.is (ap is_eq (sym c.place.ensures ∙ c.in-Equal.is)))
    ∙ ap (position (λ pair. is_eq (g.C.Cut.place c.args.cut.now pair.0))) c.self.view_is

pub returns-in-Less : goal.returns-in-Less
returns-in-Less g c =
    sym (is_placed (g.met.C.Cut.rises c.args.cut.now) c.self.inside.pairs c.self.invariant _ c.count_before-place.ensures _ _ _ c.get.ensures c.in-Some.is (is_other _ _ c.in-Less.is c.place.ensures))
    ∙ ap (position (λ pair. is_eq (g.C.Cut.place c.args.cut.now pair.0))) c.self.view_is
