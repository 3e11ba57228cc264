use Rattle.std.proofs.Common.{◌+◌, ◌*◌}
use Rattle.proof_terms.proofs.reader.Reader.+term.Given as goal

abbrev pub decreases-term : goal.decreases-term
decreases-term l = 5 * l.left

abbrev pub decreases-part : goal.decreases-part
decreases-part l = 5 * l.left + 1

abbrev pub decreases-conj_i : goal.decreases-conj_i
decreases-conj_i l = 5 * l.left + 2

abbrev pub decreases-conj_e1 : goal.decreases-conj_e1
decreases-conj_e1 l = 5 * l.left + 2

abbrev pub decreases-conj_e2 : goal.decreases-conj_e2
decreases-conj_e2 l = 5 * l.left + 2

abbrev pub decreases-disj_e : goal.decreases-disj_e
decreases-disj_e l = 5 * l.left + 2

abbrev pub decreases-imp_i : goal.decreases-imp_i
decreases-imp_i l = 5 * l.left + 2

abbrev pub decreases-imp_e : goal.decreases-imp_e
decreases-imp_e l = 5 * l.left + 2

abbrev pub decreases-not_i : goal.decreases-not_i
decreases-not_i l = 5 * l.left + 2

abbrev pub decreases-not_e : goal.decreases-not_e
decreases-not_e l = 5 * l.left + 2

abbrev pub decreases-all_i : goal.decreases-all_i
decreases-all_i l = 5 * l.left + 2

abbrev pub decreases-all_e : goal.decreases-all_e
decreases-all_e l = 5 * l.left + 2

abbrev pub decreases-ex_i : goal.decreases-ex_i
decreases-ex_i l = 5 * l.left + 2

abbrev pub decreases-ex_e : goal.decreases-ex_e
decreases-ex_e l = 5 * l.left + 2

abbrev pub decreases-inside : goal.decreases-inside
decreases-inside l = 5 * l.left + 3

abbrev pub decreases-ruled : goal.decreases-ruled
decreases-ruled l = 5 * l.left + 4
