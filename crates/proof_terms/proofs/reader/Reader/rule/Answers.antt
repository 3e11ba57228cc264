use Rattle.std.proofs.Common.{Some, None, Err, sym, subst}
use Rattle.proof_terms.specs.Marks.{marks}
use Rattle.proof_terms.specs.Reading.{Gives, read_rule_name}
use Rattle.proof_terms.proofs.SpelledLemmas.{name_read}
use Rattle.proof_terms.proofs.reader.Reader.rule.Goals as goal

pub returns-in-Some : goal.returns-in-Some
returns-in-Some c = name_read c.args.self.now.source.now c.args.self.now.rest.now _ (Some c.in-Some.rule) c.in-len1-up.len_at_least c.in-Some.ensures

pub returns-in-None : goal.returns-in-None
returns-in-None c =
    let left = marks c.args.self.now.source.now c.args.self.now.rest.now in
    subst (λ e. Gives (Err e) left (read_rule_name left)) (sym c.malformed-in-None.ensures)
    (name_read c.args.self.now.source.now c.args.self.now.rest.now _ None c.in-len1-up.len_at_least c.in-None.ensures)
