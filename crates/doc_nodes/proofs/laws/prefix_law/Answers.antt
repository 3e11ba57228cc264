use Rattle.std.proofs.Common.{sym, subst}
use Rattle.doc_nodes.specs.Prefix.{IsWantedPrefix, wanted_prefix}
use Rattle.doc_nodes.proofs.PrefixLaws.{prefix_is, prefix_only}
use Rattle.doc_nodes.proofs.laws.prefix_law.Goals as goal

pub returns : goal.returns
returns c = λ entries n.
    (λ is. prefix_only entries n (wanted_prefix entries) is (prefix_is entries), λ e. subst (IsWantedPrefix entries) (sym e) (prefix_is entries))
