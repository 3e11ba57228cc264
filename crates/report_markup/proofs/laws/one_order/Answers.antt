-- The order is total and exact, and sorting by insertion gives the one order of a list.
use Rattle.std.proofs.Common.{◌≡◌, subst}
use Rattle.std.specs.declared.cmp.Ordering.TheVariants.{Equal}
use Rattle.std.proofs.lemmas.Cmp.{tied_itself}
use Rattle.report_markup.specs.Order.{report_cmp}
use Rattle.report_markup.proofs.Exact.{report_exact}
use Rattle.report_markup.proofs.Sorts.{report_total, order_is, order_one}
use Rattle.report_markup.proofs.laws.one_order.Goals as goal

pub returns-clause-total : goal.returns-clause-total
returns-clause-total c = report_total

pub returns-clause-same : goal.returns-clause-same
returns-clause-same c = λ a b. (report_exact a b, λ e. subst (λ r. report_cmp a r ≡ Equal) e (tied_itself report_total a))

pub returns-clause-one : goal.returns-clause-one
returns-clause-one c = λ xs. (order_is xs, order_one xs)
