use Rattle.std.proofs.Common.{rules, ◌≡◌, ◌<◌, ◌++◌, ◌∷◌, true, false, length, sym, subst, ◌∙◌, ap, arith, length-append}
use Rattle.std.specs.Arc.{arc_value}
use Rattle.std.specs.Ordering.{is_gt}
use Rattle.report_markup.specs.Order.{report_cmp}
use Rattle.report_markup.specs.Sorting.{insert_report}
use Rattle.report_markup.specs.Standing.{Stand}
use Rattle.report_markup.proofs.InsertLemmas.{Sides, sides, behind, before, ok_along}
use Rattle.report_markup.proofs.placing.+placed.Goals as goal

pub placed-requires : goal.placed-requires
placed-requires t c =
    let whole : c.args.tree.now ≡ c.in-Some.parts.left.now ++ arc_value c.in-Some.parts.report.now ∷ c.in-Some.parts.right.now = search rules in
    let parts : Sides c.in-Some.parts.left.now (arc_value c.in-Some.parts.report.now) c.in-Some.parts.right.now = sides _ _ _ (subst Stand whole c.requires) in
    let stands : Stand c.in-Some.parts.right.now = parts.back in
    let shorter : length c.in-Some.parts.right.now < length c.args.tree.now =
    omega (arith, ap length whole, length-append c.in-Some.parts.left.now (arc_value c.in-Some.parts.report.now ∷ c.in-Some.parts.right.now)) in
    search rules

pub placed-requires-else-is_gt : goal.placed-requires-else-is_gt
placed-requires-else-is_gt t c =
    let whole : c.args.tree.now ≡ c.in-Some.parts.left.now ++ arc_value c.in-Some.parts.report.now ∷ c.in-Some.parts.right.now = search rules in
    let parts : Sides c.in-Some.parts.left.now (arc_value c.in-Some.parts.report.now) c.in-Some.parts.right.now = sides _ _ _ (subst Stand whole c.requires) in
    let stands : Stand c.in-Some.parts.left.now = parts.front in
    let shorter : length c.in-Some.parts.left.now < length c.args.tree.now =
    omega (arith, ap length whole, length-append c.in-Some.parts.left.now (arc_value c.in-Some.parts.report.now ∷ c.in-Some.parts.right.now)) in
    search rules

pub returns-in_ok-right : goal.returns-in_ok-right
returns-in_ok-right t c =
    let whole : c.args.tree.now ≡ c.in-Some.parts.left.now ++ arc_value c.in-Some.parts.report.now ∷ c.in-Some.parts.right.now = search rules in
    let parts : Sides c.in-Some.parts.left.now (arc_value c.in-Some.parts.report.now) c.in-Some.parts.right.now = sides _ _ _ (subst Stand whole c.requires) in
    let greater : is_gt (report_cmp (arc_value c.args.report.now) (arc_value c.in-Some.parts.report.now)) ≡ true = search rules in
    let made = behind (arc_value c.args.report.now) (arc_value c.in-Some.parts.report.now) c.in-Some.parts.left.now c.in-Some.parts.right.now parts.below greater in
    ok_along c.joined.result _ _
    (ap (λ r. c.in-Some.parts.left.now ++ arc_value c.in-Some.parts.report.now ∷ r) c.in_ok-right.ensures
    ∙ (made ∙ ap (insert_report (arc_value c.args.report.now)) (sym whole))) c.joined.ensures

pub returns-in_ok-left : goal.returns-in_ok-left
returns-in_ok-left t c =
    let whole : c.args.tree.now ≡ c.in-Some.parts.left.now ++ arc_value c.in-Some.parts.report.now ∷ c.in-Some.parts.right.now = search rules in
    let parts : Sides c.in-Some.parts.left.now (arc_value c.in-Some.parts.report.now) c.in-Some.parts.right.now = sides _ _ _ (subst Stand whole c.requires) in
    let less : is_gt (report_cmp (arc_value c.args.report.now) (arc_value c.in-Some.parts.report.now)) ≡ false = search rules in
    let made = before (arc_value c.args.report.now) (arc_value c.in-Some.parts.report.now) c.in-Some.parts.left.now c.in-Some.parts.right.now less in
    ok_along c.joined-else-is_gt.result _ _
    (ap (λ l. l ++ arc_value c.in-Some.parts.report.now ∷ c.in-Some.parts.right.now) c.in_ok-left.ensures
    ∙ (made ∙ ap (insert_report (arc_value c.args.report.now)) (sym whole))) c.joined-else-is_gt.ensures
