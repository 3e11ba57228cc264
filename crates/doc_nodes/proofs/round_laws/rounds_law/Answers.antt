use Rattle.doc_nodes.proofs.KnownRounds.{is_order}
use Rattle.doc_nodes.proofs.KnownOrdered.{all_ordered}
use Rattle.doc_nodes.proofs.round_laws.rounds_law.Goals as goal

pub returns-clause-nodes : goal.returns-clause-nodes
returns-clause-nodes c = λ rows. (is_order rows).within

pub returns-clause-once : goal.returns-clause-once
returns-clause-once c = λ rows front rest p. (is_order rows).once front p rest

pub returns-clause-behind : goal.returns-clause-behind
returns-clause-behind c = λ rows front rest p. (is_order rows).behind front p rest

pub returns-clause-all : goal.returns-clause-all
returns-clause-all c = all_ordered
