-- What a version shows of a node: the parts of its assigned executions, each with its reports where
-- it is finished (after `Document.Snapshot` of Isabelle/Scala).
use Rattle.std.specs.Prelude.{ℕ, ◌&&◌, if◌then◌else◌, List, [], ◌∷◌, ◌++◌, map, filter, length, Option, Some, None}
use Rattle.std.specs.Option.{option_map_or}
use Rattle.std.specs.List.{flat_map, range_with_len}
use Rattle.text_words.specs.Members.{has}
use Rattle.pide_base.specs.declared.part.Part.{Part}
use Rattle.pide_base.specs.declared.part.PartKind.TheVariants as kind
use Rattle.pide_base.specs.declared.range.Range.{Range}
use Rattle.language.specs.report_markup_below.declared.report.Report.{Report}
use Rattle.doc_nodes.specs.declared.node.Entry.{Entry}
use Rattle.doc_nodes.specs.Imports.{place_of}
use Rattle.exec_rules.specs.declared.home.Home.{Home}
use Rattle.exec_rules.specs.declared.row.Row.{Row}
use Rattle.exec_rules.specs.declared.version.Version.{Version}
use Rattle.exec_rules.specs.Assigning.{entries_in, rows_in}
use Rattle.exec_rules.specs.Listed.{executions}
use Rattle.language.specs.Lang.{Lang}
use Rattle.core_rules.specs.declared.event.Event.{Event}
use Rattle.core_rules.specs.Settings.{Setting, made_of, forked, printed, state_behind}
use Rattle.core_rules.specs.Parts.{parts_of, reports_of}
use Rattle.core_rules.specs.Standing.{is_finished, is_open}
use Rattle.core_rules.specs.Doc.{Doc}
use Rattle.core_rules.specs.Scratch.{scratch_at}

-- an assigned part: its execution, its command's place in the text, and its reports where it is
-- finished
pub record PartShown : Type 0 where
  pub exec : ℕ
  pub span : Range
  pub reports : Option (List Report)

-- a part with what comes of it, where it is finished
abbrev pub shown_with : List Event → Entry → Option (List Report) → Part → PartShown
shown_with h e reports p = record {
  exec = p.exec;
  span = e.range;
  reports = if is_finished h p then reports else None;
}

-- the parts of a command's executions, by what they go by
abbrev pub command_parts : {S : Type 0} → Lang S → List Event → List Home → Entry → Row
    → List PartShown
command_parts l h homes e row = flat_map
    (λ exec. map (λ p. shown_with h e (reports_of l homes p) p) (parts_of l homes exec))
    (executions row)

-- the same of the first of a node's commands, which have these rows
abbrev pub commands_parts : {S : Type 0} → Lang S → List Event → List Home → List Entry → List Row
    → List PartShown
commands_parts l h homes (e ∷ es) (row ∷ rows) =
    command_parts l h homes e row ++ commands_parts l h homes es rows
commands_parts l h homes es rows = []

-- what the document shows of the node of a name in a version
abbrev pub parts_shown : {S : Type 0} → Lang S → List Event → Doc → Version → List ℕ
    → List PartShown
parts_shown l h d version name =
    commands_parts l h d.homes (entries_in version name) (rows_in version name)

-- the parts of a command from nothing, for the executions that it is assigned
abbrev pub scratch_parts : {S : Type 0} → Lang S → List Event → Entry → Row → Setting S
    → List PartShown
scratch_parts l h e row s =
    let eval : Part = record { exec = row.evaluation; kind = kind.Eval } in
    let fork : Part = record { exec = row.evaluation; kind = kind.Fork } in
    shown_with h e (Some (made_of l s).reports) eval
    ∷ ((if (made_of l s).forks then shown_with h e (Some (forked l s)) fork ∷ [] else [])
    ++ option_map_or (λ q. shown_with h e
    (Some (printed l (record s { state = state_behind l s })))
    (record { exec = q; kind = kind.Print }) ∷ []) row.print [])

-- the same of the first of a node's commands, from nothing
abbrev pub scratches_parts : {S : Type 0} → Lang S → List Event → List Entry → List Row
    → List (Setting S) → List PartShown
scratches_parts l h (e ∷ es) (row ∷ rows) (s ∷ ss) =
    scratch_parts l h e row s ++ scratches_parts l h es rows ss
scratches_parts l h es rows ss = []

-- what of the version from nothing is shown of the node of a name
abbrev pub scratch_shown : {S : Type 0} → Lang S → List Event → Version → List ℕ → List PartShown
scratch_shown l h version name =
    scratches_parts l h (entries_in version name) (rows_in version name)
    (option_map_or (scratch_at l version.nodes version.blobs) (place_of version.nodes name) [])

-- the executions that a version assigns in the node and that have an unfinished part, rising
abbrev pub pending : {S : Type 0} → Lang S → List Event → Doc → Version → List ℕ → List ℕ
pending l h d version name =
    filter (λ e. has (flat_map executions (rows_in version name)) e && is_open l h d.homes e)
    (range_with_len 1 (length d.homes))
