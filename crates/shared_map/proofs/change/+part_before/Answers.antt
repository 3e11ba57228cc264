use Rattle.std.proofs.Common.{rules, ◌≡◌, ◌++◌, ◌∷◌, sym, ◌∙◌, ap}
use Rattle.std.specs.Arc.{arc_value}
use Rattle.std.specs.declared.cmp.Ordering.TheVariants.{Less}
use Rattle.shared_map.proofs.KnownSorted.{left_of, right_of}
use Rattle.shared_map.proofs.Lists.{ok_along}
use Rattle.shared_map.proofs.Places.{before_less, before_later, later_of}
use Rattle.shared_map.proofs.change.+part_before.Goals as goal

pub part_before-requires : goal.part_before-requires
part_before-requires g t c κs within = let right = right_of g.K.Ord.cmp _ _ _ _ c.in-Some.ensures c.requires in search (rules, right.0, right.1)

pub part_before-requires-in-Equal : goal.part_before-requires-in-Equal
part_before-requires-in-Equal g t c κs within = let left = left_of g.K.Ord.cmp _ _ _ _ c.in-Some.ensures c.requires in search (rules, left.0, left.1)

pub returns-in_ok-right-in-Less : goal.returns-in_ok-right-in-Less
returns-in_ok-right-in-Less g t c =
    let less : g.C.Cut.place c.args.cut.now (arc_value c.in-Some.parts.item.now).0 ≡ Less = search rules in
    let rest = before_less (g.met.C.Cut.rises c.args.cut.now) _ _ _ _ c.in-Some.ensures c.requires less in
    let made = ap (λ right. c.in-Some.parts.left.now ++ arc_value c.in-Some.parts.item.now ∷ right) c.in_ok-right-in-Less.ensures in
    ok_along c.joined.result _ _ (made ∙ sym rest) c.joined.ensures

pub returns-in-Equal : goal.returns-in-Equal
returns-in-Equal g t c =
    let later = later_of _ _ c.in-Equal.is (c.place.ensures ∙ ap (λ pair. g.C.Cut.place c.args.cut.now pair.0) c.deref-pair.ensures) in
    let rest = before_later (g.met.C.Cut.rises c.args.cut.now) _ _ _ _ c.in-Some.ensures c.requires later in
    ok_along c.part_before-in-Equal.result _ _ (sym rest) c.part_before-in-Equal.ensures
