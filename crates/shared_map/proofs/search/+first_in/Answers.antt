use Rattle.std.proofs.Common.{rules, ◌≡◌}
use Rattle.std.specs.Arc.{arc_value}
use Rattle.std.specs.declared.cmp.Ordering.TheVariants.{Less, Equal, Greater}
use Rattle.shared_map.proofs.KnownSorted.{left_of, right_of}
use Rattle.shared_map.proofs.Places.{first_less, first_greater, first_equal}
use Rattle.shared_map.proofs.search.+first_in.Goals as goal

pub first_in-requires : goal.first_in-requires
first_in-requires g t c κs within = let right = right_of g.K.Ord.cmp _ _ _ _ c.in_ok-parts.ensures c.requires in search (rules, right.0, right.1)

pub first_in-requires-in-Greater : goal.first_in-requires-in-Greater
first_in-requires-in-Greater g t c κs within = let left = left_of g.K.Ord.cmp _ _ _ _ c.in_ok-parts.ensures c.requires in search (rules, left.0, left.1)

pub first_in-requires-in-Equal : goal.first_in-requires-in-Equal
first_in-requires-in-Equal g t c κs within = let left = left_of g.K.Ord.cmp _ _ _ _ c.in_ok-parts.ensures c.requires in search (rules, left.0, left.1)

pub returns-in-Less : goal.returns-in-Less
returns-in-Less g t c =
    let less : g.C.Cut.place c.args.cut.now (arc_value c.in_ok-parts.parts.item.now).0 ≡ Less = search rules in
    let rest = first_less (g.met.C.Cut.rises c.args.cut.now) _ _ _ _ c.in_ok-parts.ensures c.requires less in
    cc

pub returns-in-Greater : goal.returns-in-Greater
returns-in-Greater g t c =
    let greater : g.C.Cut.place c.args.cut.now (arc_value c.in_ok-parts.parts.item.now).0 ≡ Greater = search rules in
    let rest = first_greater (g.met.C.Cut.rises c.args.cut.now) _ _ _ _ c.in_ok-parts.ensures c.requires greater in
    cc

pub returns-in-None : goal.returns-in-None
returns-in-None g t c =
    let equal : g.C.Cut.place c.args.cut.now (arc_value c.in_ok-parts.parts.item.now).0 ≡ Equal = search rules in
    let rest = first_equal (g.met.C.Cut.rises c.args.cut.now) _ _ _ _ c.in_ok-parts.ensures c.requires equal in
    search rules

pub returns-in-Some : goal.returns-in-Some
returns-in-Some g t c =
    let equal : g.C.Cut.place c.args.cut.now (arc_value c.in_ok-parts.parts.item.now).0 ≡ Equal = search rules in
    let rest = first_equal (g.met.C.Cut.rises c.args.cut.now) _ _ _ _ c.in_ok-parts.ensures c.requires equal in
    search rules
