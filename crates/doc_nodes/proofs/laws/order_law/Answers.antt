use Rattle.doc_nodes.proofs.OrderLaws.{ordered_good, good_ordered, each_once, imports_before, in_order_within, within_in_order}
use Rattle.doc_nodes.proofs.laws.order_law.Goals as goal

pub returns-clause-every : goal.returns-clause-every
returns-clause-every c = λ nodes p. (in_order_within nodes p, within_in_order nodes p)

pub returns-clause-once : goal.returns-clause-once
returns-clause-once c = λ nodes front rest p. each_once nodes front p rest

pub returns-clause-behind : goal.returns-clause-behind
returns-clause-behind c = λ nodes front rest p. imports_before nodes front p rest

pub returns-clause-ordered : goal.returns-clause-ordered
returns-clause-ordered c = λ nodes p pair e. (ordered_good nodes p pair e, good_ordered nodes p pair e)
