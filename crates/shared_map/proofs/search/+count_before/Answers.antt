use Rattle.std.proofs.Common.{rules, ◌≡◌, sym, ◌∙◌, ap, length, arith}
use Rattle.std.specs.Arc.{arc_value}
use Rattle.std.specs.declared.cmp.Ordering.TheVariants.{Less}
use Rattle.std.specs.Ordering.{is_lt}
use Rattle.shared_map.proofs.KnownSorted.{left_of, right_of}
use Rattle.shared_map.proofs.Lists.{filter_shorter, length_of}
use Rattle.shared_map.proofs.Places.{before_less, before_later, later_of}
use Rattle.shared_map.proofs.search.+count_before.Goals as goal

pub count_before-requires : goal.count_before-requires
count_before-requires g t c κs within = let right = right_of g.K.Ord.cmp _ _ _ _ c.in-Some.ensures c.requires in search (rules, right.0, right.1)

pub count_before-requires-in-Equal : goal.count_before-requires-in-Equal
count_before-requires-in-Equal g t c κs within = let left = left_of g.K.Ord.cmp _ _ _ _ c.in-Some.ensures c.requires in search (rules, left.0, left.1)

pub overflow_add-result : goal.overflow_add-result
overflow_add-result g t c =
    let shorter = filter_shorter (λ p. is_lt (g.C.Cut.place c.args.cut.now p.0)) c.in-Some.parts.right.now in
    omega (arith, shorter, length_of _ _ _ _ c.in-Some.ensures)

pub returns-in-Less : goal.returns-in-Less
returns-in-Less g t c =
    let less : g.C.Cut.place c.args.cut.now (arc_value c.in-Some.parts.item.now).0 ≡ Less = search rules in
    let rest = before_less (g.met.C.Cut.rises c.args.cut.now) _ _ _ _ c.in-Some.ensures c.requires less in
    omega (arith, length_of _ _ _ _ c.in-Some.ensures, length_of _ _ _ _ rest)

pub returns-in-Equal : goal.returns-in-Equal
returns-in-Equal g t c =
    let later = later_of _ _ c.in-Equal.is (c.place.ensures ∙ ap (λ pair. g.C.Cut.place c.args.cut.now pair.0) c.deref-pair.ensures) in
    let rest = before_later (g.met.C.Cut.rises c.args.cut.now) _ _ _ _ c.in-Some.ensures c.requires later in
    c.count_before-in-Equal.ensures ∙ sym (ap length rest)
