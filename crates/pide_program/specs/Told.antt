-- What a session tells of a version (this project's own).
use Rattle.std.specs.Prelude.{◌≡◌, ℕ, List, Some, flat_map}
use Rattle.report_markup.specs.declared.report.Report.{Report}
use Rattle.core_tables.specs.Live.{version_of}
use Rattle.exec_rules.specs.declared.version.Version.{Version}
use Rattle.language.specs.Lang.{Lang}
use Rattle.core_rules.specs.Shown.{parts_shown}
use Rattle.session_rules.specs.Session.{Session, document}
use Rattle.thread_serve.specs.keeping_rules_below.Items.{session_in}
use Rattle.thread_serve.specs.document_session_below.Contents.{SessionState}
use Rattle.session_rules.specs.Reported.{part_reports}

-- what the session has after its list
abbrev pub listed_session : {S : Type 0} → Lang S → SessionState → Session
listed_session l s = session_in l s.service s.items

-- the live version of this id
abbrev pub IsLive : {S : Type 0} → Lang S → SessionState → ℕ → Version → Type 0
IsLive l s id version = version_of (document l (listed_session l s)).live id ≡ Some version

-- the reports that are shown of a node
abbrev pub shown_reports : {S : Type 0} → Lang S → SessionState → Version → List ℕ → List Report
shown_reports l s version name = flat_map part_reports
    (parts_shown l (listed_session l s).events (document l (listed_session l s)) version name)
