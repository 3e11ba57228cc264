use Rattle.std.proofs.Common.{rules, ◌≡◌, ◌++◌, ◌∷◌, sym, ◌∙◌, ap}
use Rattle.std.specs.Arc.{arc_value}
use Rattle.std.specs.declared.cmp.Ordering.TheVariants.{Less, Equal, Greater}
use Rattle.shared_map.proofs.KnownSorted.{left_of, right_of}
use Rattle.shared_map.proofs.Lists.{ok_along}
use Rattle.shared_map.proofs.Places.{put_less, put_greater, put_equal}
use Rattle.shared_map.proofs.change.+with_pair.Goals as goal

pub with_pair-requires : goal.with_pair-requires
with_pair-requires g t c κs within = let right = right_of g.K.Ord.cmp _ _ _ _ c.in-Some.ensures c.requires in search (rules, right.0, right.1)

pub with_pair-requires-in-Greater : goal.with_pair-requires-in-Greater
with_pair-requires-in-Greater g t c κs within = let left = left_of g.K.Ord.cmp _ _ _ _ c.in-Some.ensures c.requires in search (rules, left.0, left.1)

pub returns-in_ok-right-in-Less : goal.returns-in_ok-right-in-Less
returns-in_ok-right-in-Less g t c =
    let less : g.K.Ord.cmp (arc_value c.in-Some.parts.item.now).0 (arc_value c.args.pair.now).0 ≡ Less = search rules in
    let rest = put_less g.met.K.Ord.total _ _ _ _ c.in-Some.ensures c.requires (arc_value c.args.pair.now) less in
    let made = ap (λ right. c.in-Some.parts.left.now ++ arc_value c.in-Some.parts.item.now ∷ right) c.in_ok-right-in-Less.ensures in
    ok_along c.right_grown.result _ _ (made ∙ sym rest) c.right_grown.ensures

pub returns-in_ok-left-in-Greater : goal.returns-in_ok-left-in-Greater
returns-in_ok-left-in-Greater g t c =
    let greater : g.K.Ord.cmp (arc_value c.in-Some.parts.item.now).0 (arc_value c.args.pair.now).0 ≡ Greater = search rules in
    let rest = put_greater g.met.K.Ord.total _ _ _ _ c.in-Some.ensures c.requires (arc_value c.args.pair.now) greater in
    let made = ap (λ left. left ++ arc_value c.in-Some.parts.item.now ∷ c.in-Some.parts.right.now) c.in_ok-left-in-Greater.ensures in
    ok_along c.left_grown.result _ _ (made ∙ sym rest) c.left_grown.ensures

pub returns-in-Equal : goal.returns-in-Equal
returns-in-Equal g t c =
    let equal : g.K.Ord.cmp (arc_value c.in-Some.parts.item.now).0 (arc_value c.args.pair.now).0 ≡ Equal = search rules in
    let rest = put_equal g.met.K.Ord.total _ _ _ _ c.in-Some.ensures c.requires (arc_value c.args.pair.now) equal in
    ok_along c.fork-in-Equal.result _ _ (sym rest) c.fork-in-Equal.ensures
