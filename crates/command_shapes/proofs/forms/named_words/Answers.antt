use Rattle.std.proofs.Common.{option_map, ap, ◌∙◌}
use Rattle.isar_rules.specs.declared.shape.Shape.TheVariants as shape
use Rattle.isar_rules.specs.declared.shape.Spot.{Spot}
use Rattle.command_shapes.specs.Seen.{seen}
use Rattle.command_shapes.proofs.FormLemmas.{names}
use Rattle.command_shapes.proofs.forms.named_words.Goals as goal

pub returns-clause-axiom : goal.returns-clause-axiom
returns-clause-axiom c =
    ap (option_map (λ (p : Spot × Spot). shape.Axiom p.0 p.1)) c.named_in.ensures
    ∙ (names (seen c.args.first) (seen c.args.second) (seen c.args.third)).of_axiom

pub returns-clause-lemma : goal.returns-clause-lemma
returns-clause-lemma c =
    ap (option_map (λ (p : Spot × Spot). shape.Lemma p.0 p.1)) c.named_in.ensures
    ∙ (names (seen c.args.first) (seen c.args.second) (seen c.args.third)).of_lemma
