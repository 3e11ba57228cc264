-- The command language is tidy.
use Rattle.language.specs.Laws.{AreTidy}
use Rattle.isar_rules.specs.Isar.{isar}
use Rattle.isar_rules.proofs.Keeping.{all-tidy}

pub isar_tidy : AreTidy isar
isar_tidy = record {
  lie = λ source blob state. (all-tidy source blob state).lie;
  treelike = λ source blob state. (all-tidy source blob state).treelike;
}
