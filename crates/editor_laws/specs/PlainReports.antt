-- Reports whose words a reply can tell (this project's own).
use Rattle.std.specs.List.{AllByRecursion}
use Rattle.report_markup.specs.declared.report.Report.{Report}
use Rattle.reply_messages.specs.Fits.{IsPlainText, FitsProperty}
use Rattle.core_rules.specs.Settings.{Setting, made_of, forked, state_behind}
use Rattle.isar_rules.specs.declared.state.State.{State}
use Rattle.isar_rules.specs.Isar.{isar}

-- its properties and its text are UTF-8 without the bytes with which YXML marks up
pub record IsPlainReport (r : Report) : Type 0 where
  pub properties : AllByRecursion FitsProperty r.properties
  pub text : IsPlainText r.text

-- all that is reported of a command is such: by its evaluation, by a fork and by a print behind it
pub record ArePlain (s : Setting State) : Type 0 where
  pub evaluation : AllByRecursion IsPlainReport (made_of isar s).reports
  pub fork : AllByRecursion IsPlainReport (forked isar s)
  pub print : AllByRecursion IsPlainReport (isar.print s.source (state_behind isar s))
