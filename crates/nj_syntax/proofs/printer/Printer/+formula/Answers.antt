-- Each arm of the printer adds the print of its form.
use Rattle.std.proofs.Common.{rules, ◌≡◌, false, codes, string_bytes, refl}
use Rattle.std.proofs.lemmas.Result.{on_ok_weaker}
use Rattle.nj_syntax.specs.declared.operator.Operator.{Operator}
use Rattle.nj_syntax.specs.declared.operator.Quantifier.{Quantifier}
use Rattle.nj_syntax.specs.Prints.{is_enclosed}
use Rattle.nj_syntax.proofs.PieceLemmas.{pushed, grown_from, wrote_false, wrote_negation, wrote_operator, wrote_quantifier, wrote_bare, wrote_enclosed}
use Rattle.nj_syntax.proofs.printer.Printer.+formula.Goals as goal

pub bare-returns-in-False-clause-text : goal.bare-returns-in-False-clause-text
bare-returns-in-False-clause-text t c =
    on_ok_weaker c.push_str.result (wrote_false c.in-False.is) (pushed c.push_str.result (string_bytes c.args.self.now.text) (codes "False") c.push_str.ensures.bytes)

pub bare-returns-in-Not-clause-text : goal.bare-returns-in-Not-clause-text
bare-returns-in-Not-clause-text t c =
    on_ok_weaker c.behind.result (wrote_negation c.in-Not.is c.get-in-Not.ensures refl) c.behind.ensures.text

pub bare-returns-in_ok-formula-in-And-clause-text :
    goal.bare-returns-in_ok-formula-in-And-clause-text
bare-returns-in_ok-formula-in-And-clause-text t c =
    on_ok_weaker c.behind-in-And.result
    (wrote_operator Operator.And c.in-And.is c.get-in-And.ensures c.get-in-And-2.ensures
    c.in_ok-formula-in-And.ensures.names c.in_ok-formula-in-And.ensures.text refl)
    c.behind-in-And.ensures.text

pub bare-returns-in_ok-formula-in-Or-clause-text :
    goal.bare-returns-in_ok-formula-in-Or-clause-text
bare-returns-in_ok-formula-in-Or-clause-text t c =
    on_ok_weaker c.behind-in-Or.result
    (wrote_operator Operator.Or c.in-Or.is c.get-in-Or.ensures c.get-in-Or-2.ensures
    c.in_ok-formula-in-Or.ensures.names c.in_ok-formula-in-Or.ensures.text refl)
    c.behind-in-Or.ensures.text

pub bare-returns-in_ok-formula-in-Implies-clause-text :
    goal.bare-returns-in_ok-formula-in-Implies-clause-text
bare-returns-in_ok-formula-in-Implies-clause-text t c =
    on_ok_weaker c.behind-in-Implies.result
    (wrote_operator Operator.Implies c.in-Implies.is c.get-in-Implies.ensures c.get-in-Implies-2.ensures
    c.in_ok-formula-in-Implies.ensures.names c.in_ok-formula-in-Implies.ensures.text refl)
    c.behind-in-Implies.ensures.text

pub bare-returns-in-All-clause-text : goal.bare-returns-in-All-clause-text
bare-returns-in-All-clause-text t c =
    on_ok_weaker c.quantified.result (wrote_quantifier Quantifier.All c.in-All.is c.get-in-All.ensures refl)
    c.quantified.ensures.text

pub bare-returns-in-Exists-clause-text : goal.bare-returns-in-Exists-clause-text
bare-returns-in-Exists-clause-text t c =
    on_ok_weaker c.quantified-in-Exists.result (wrote_quantifier Quantifier.Exists c.in-Exists.is c.get-in-Exists.ensures refl)
    c.quantified-in-Exists.ensures.text

pub behind-returns-clause-text : goal.behind-returns-clause-text
behind-returns-clause-text t c =
    on_ok_weaker c.formula.result (grown_from c.in_ok-push_str.ensures.bytes) c.formula.ensures.text

pub quantified-returns-clause-text : goal.quantified-returns-clause-text
quantified-returns-clause-text t c =
    on_ok_weaker c.body.result (grown_from c.in_ok-push_str.ensures.bytes) c.body.ensures.text

pub formula-returns-then-not-is_enclosed-clause-text :
    goal.formula-returns-then-not-is_enclosed-clause-text
formula-returns-then-not-is_enclosed-clause-text t c =
    let fits : is_enclosed c.args.place c.args.formula.now ≡ false = search rules in
    on_ok_weaker c.bare.result (wrote_bare fits) c.bare.ensures.text

pub formula-returns-clause-text : goal.formula-returns-clause-text
formula-returns-clause-text t c =
    on_ok_weaker c.push_str-2.result (wrote_enclosed (search rules) c.in_ok-push_str.ensures.bytes c.in_ok-bare.ensures.text)
    (pushed c.push_str-2.result (string_bytes c.bare-2.new.self.text) (codes ")") c.push_str-2.ensures.bytes)
