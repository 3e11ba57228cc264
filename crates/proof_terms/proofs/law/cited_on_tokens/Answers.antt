use Rattle.proof_terms.proofs.KnownCiting.{cited_on_tokens}
use Rattle.proof_terms.proofs.law.cited_on_tokens.Goals as goal

pub returns : goal.returns
returns c = cited_on_tokens
