-- What contracts see of an open node (this project's own).
use Rattle.std.specs.Prelude.{Option}
use Rattle.doc_nodes.specs.Needs.{AliasList}
use Rattle.buffer_rules.specs.declared.sheet.Sheet.{Sheet}

-- its sheet, and the aliases under which the commands of the version's node were cut from it,
-- unless they have to be cut
pub record OpenSheet : Type 0 where
  pub sheet : Sheet
  pub cut_under : Option AliasList
