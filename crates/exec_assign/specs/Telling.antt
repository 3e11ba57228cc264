-- What an update makes (this project's own).
use Rattle.std.specs.Prelude.{List}
use Rattle.exec_rules.specs.declared.version.Version.{Version}
use Rattle.exec_rules.specs.declared.row.Assigned.{Assigned}
use Rattle.exec_rules.specs.Assigning.{Update}

-- the version that an update makes, when this is assigned
abbrev pub update_version : Update → List Assigned → Version
update_version u assigned = record { nodes = u.nodes; blobs = u.blobs; assigned = assigned }
