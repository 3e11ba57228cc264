use Rattle.std.proofs.Common.{rules}
use Rattle.nj_kernel.specs.RuleNames.{rule_name}
use Rattle.proof_terms.proofs.SpelledLemmas.{same_tests}
use Rattle.proof_terms.proofs.rule_names.is_named.Goals as goal

pub returns : goal.returns
returns c = search (rules, same_tests c.args.name.now (rule_name c.args.rule))
