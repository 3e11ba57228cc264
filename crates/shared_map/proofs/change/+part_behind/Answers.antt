use Rattle.std.proofs.Common.{rules, ◌≡◌, ◌++◌, ◌∷◌, sym, ◌∙◌, ap}
use Rattle.std.specs.Arc.{arc_value}
use Rattle.std.specs.declared.cmp.Ordering.TheVariants.{Greater}
use Rattle.shared_map.proofs.KnownSorted.{left_of, right_of}
use Rattle.shared_map.proofs.Lists.{ok_along}
use Rattle.shared_map.proofs.Places.{behind_greater, behind_earlier, earlier_of}
use Rattle.shared_map.proofs.change.+part_behind.Goals as goal

pub part_behind-requires : goal.part_behind-requires
part_behind-requires g t c κs within = let left = left_of g.K.Ord.cmp _ _ _ _ c.in-Some.ensures c.requires in search (rules, left.0, left.1)

pub part_behind-requires-in-Equal : goal.part_behind-requires-in-Equal
part_behind-requires-in-Equal g t c κs within = let right = right_of g.K.Ord.cmp _ _ _ _ c.in-Some.ensures c.requires in search (rules, right.0, right.1)

pub returns-in_ok-left-in-Greater : goal.returns-in_ok-left-in-Greater
returns-in_ok-left-in-Greater g t c =
    let greater : g.C.Cut.place c.args.cut.now (arc_value c.in-Some.parts.item.now).0 ≡ Greater = search rules in
    let rest = behind_greater (g.met.C.Cut.rises c.args.cut.now) _ _ _ _ c.in-Some.ensures c.requires greater in
    let made = ap (λ left. left ++ arc_value c.in-Some.parts.item.now ∷ c.in-Some.parts.right.now) c.in_ok-left-in-Greater.ensures in
    ok_along c.joined.result _ _ (made ∙ sym rest) c.joined.ensures

pub returns-in-Equal : goal.returns-in-Equal
returns-in-Equal g t c =
    let earlier = earlier_of _ _ c.in-Equal.is (c.place.ensures ∙ ap (λ pair. g.C.Cut.place c.args.cut.now pair.0) c.deref-pair.ensures) in
    let rest = behind_earlier (g.met.C.Cut.rises c.args.cut.now) _ _ _ _ c.in-Some.ensures c.requires earlier in
    ok_along c.part_behind-in-Equal.result _ _ (sym rest) c.part_behind-in-Equal.ensures
