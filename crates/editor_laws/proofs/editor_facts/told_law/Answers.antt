use Rattle.isar_rules.proofs.KnownTidy.{isar_tidy}
use Rattle.editor_laws.proofs.AliasesInForce.{told_forks}
use Rattle.editor_laws.proofs.editor_facts.told_law.Goals as goal

pub returns : goal.returns
returns c = record {
  forks = told_forks c.forks_law.ensures;
  placed = c.placed_law.ensures.symbols;
  tidy = isar_tidy;
}
