-- What a language makes may go to another thread, and be looked at by several, where its states
-- may.
use denote.RattleType.{RattleType}
use denote.Param.Send.{IsSend, IsSync}
use Rattle.report_markup.specs.contracts.plain_text.PlainText as plain
use Rattle.report_markup.specs.contracts.property.Property as property
use Rattle.report_markup.specs.contracts.report.Report as report
use Rattle.language.specs.contracts.made.Imported as imported
use Rattle.language.specs.contracts.made.Imports as imports
use Rattle.thread_serve.proofs.CrossingLists.{lists}

plain_send : IsSend plain.the_row
plain_send = search lists depth 40

plain_sync : IsSync plain.the_row
plain_sync = search lists depth 40

property_send : IsSend property.the_row
property_send = search (plain_send, lists) depth 40

property_sync : IsSync property.the_row
property_sync = search (plain_sync, lists) depth 40

pub report_send : IsSend report.the_row
report_send = search (plain_send, property_send, lists) depth 40

pub report_sync : IsSync report.the_row
report_sync = search (plain_sync, property_sync, lists) depth 40

module _ (S : RattleType) (s : IsSend S) (y : IsSync S) where
  imported_send : IsSend (imported.the_row S)
  imported_send = search lists depth 40

  imported_sync : IsSync (imported.the_row S)
  imported_sync = search lists depth 40

  pub imports_send : IsSend (imports.the_row S)
  imports_send = search (imported_send, lists) depth 40

  pub imports_sync : IsSync (imports.the_row S)
  imports_sync = search (imported_sync, lists) depth 40

pub ruleset reports = (report_send, report_sync)

pub ruleset imports_cross = (imports_send, imports_sync)
