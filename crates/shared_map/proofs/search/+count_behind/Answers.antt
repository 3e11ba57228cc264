use Rattle.std.proofs.Common.{rules, ◌≡◌, sym, ◌∙◌, ap, length, arith}
use Rattle.std.specs.Arc.{arc_value}
use Rattle.std.specs.declared.cmp.Ordering.TheVariants.{Greater}
use Rattle.std.specs.Ordering.{is_gt}
use Rattle.shared_map.proofs.KnownSorted.{left_of, right_of}
use Rattle.shared_map.proofs.Lists.{filter_shorter, length_of}
use Rattle.shared_map.proofs.Places.{behind_greater, behind_earlier, earlier_of}
use Rattle.shared_map.proofs.search.+count_behind.Goals as goal

pub count_behind-requires : goal.count_behind-requires
count_behind-requires g t c κs within = let left = left_of g.K.Ord.cmp _ _ _ _ c.in-Some.ensures c.requires in search (rules, left.0, left.1)

pub count_behind-requires-in-Equal : goal.count_behind-requires-in-Equal
count_behind-requires-in-Equal g t c κs within = let right = right_of g.K.Ord.cmp _ _ _ _ c.in-Some.ensures c.requires in search (rules, right.0, right.1)

pub overflow_add-result : goal.overflow_add-result
overflow_add-result g t c =
    let shorter = filter_shorter (λ p. is_gt (g.C.Cut.place c.args.cut.now p.0)) c.in-Some.parts.left.now in
    omega (arith, shorter, length_of _ _ _ _ c.in-Some.ensures)

pub returns-in-Greater : goal.returns-in-Greater
returns-in-Greater g t c =
    let greater : g.C.Cut.place c.args.cut.now (arc_value c.in-Some.parts.item.now).0 ≡ Greater = search rules in
    let rest = behind_greater (g.met.C.Cut.rises c.args.cut.now) _ _ _ _ c.in-Some.ensures c.requires greater in
    omega (arith, length_of _ _ _ _ c.in-Some.ensures, length_of _ _ _ _ rest)

pub returns-in-Equal : goal.returns-in-Equal
returns-in-Equal g t c =
    let earlier = earlier_of _ _ c.in-Equal.is (c.place.ensures ∙ ap (λ pair. g.C.Cut.place c.args.cut.now pair.0) c.deref-pair.ensures) in
    let rest = behind_earlier (g.met.C.Cut.rises c.args.cut.now) _ _ _ _ c.in-Some.ensures c.requires earlier in
    c.count_behind-in-Equal.ensures ∙ sym (ap length rest)
