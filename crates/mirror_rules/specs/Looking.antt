-- What an editor sees of a node (after `Document.Snapshot` of Isabelle/Scala).
use Rattle.std.specs.Prelude.{ℕ, Bool, List, [], map, filter, flat_map, slice_get, Result, Ok}
use Rattle.std.specs.Option.{option_map_or, is_none}
use Rattle.std.specs.List.{range_with_len}
use Rattle.text_words.specs.Members.{has}
use Rattle.text_edits.specs.declared.edit.Edit.{Edit}
use Rattle.report_markup.specs.declared.report.Report.{Report}
use Rattle.report_markup.specs.Sorting.{ordered_reports}
use Rattle.snapshots.specs.Converted.{left_by}
use Rattle.core_tables.specs.Live.{version_of}
use Rattle.doc_nodes.specs.Imports.{NodeList, place_of}
use Rattle.message_values.specs.declared.refusal.Refusal.{Refusal}
use Rattle.message_values.specs.declared.refusal.Refusal.TheVariants.{UnknownVersion, UnknownNode}
use Rattle.message_values.specs.Asked.{or_refused}
use Rattle.buffer_rules.specs.Trying.{◌>>=◌}
use Rattle.buffer_rules.specs.Texts.{edit_all}
use Rattle.core_rules.specs.Doc.{greatest}
use Rattle.core_rules.specs.Shown.{PartShown}
use Rattle.session_rules.specs.Shown.{placed_reports}
use Rattle.session_rules.specs.Replies.{is_outdated}
use Rattle.mirror_rules.specs.Images.{Mirror}
use Rattle.mirror_rules.specs.Parts.{node_parts}

-- the executions of unfinished parts
abbrev pub unfinished_executions : List PartShown → List ℕ
unfinished_executions parts = map (λ part. part.exec) (filter (λ part. is_none part.reports) parts)

-- the same, rising and each once
abbrev pub pending_executions : List PartShown → List ℕ
pending_executions parts =
    let execs = unfinished_executions parts in
    filter (has execs) (range_with_len 1 (greatest 0 execs))

-- the reports of finished parts, at the text's places as edits leave them, in report order; the
-- executions that have unfinished parts; and whether there are edits
pub record View : Type 0 where
  pub reports : List Report
  pub pending : List ℕ
  pub outdated : Bool

-- what is seen of these parts of a node under pending edits
abbrev pub view_of : List PartShown → List Edit → View
view_of parts edits = record {
  reports = ordered_reports (left_by edits (flat_map placed_reports parts));
  pending = pending_executions parts;
  outdated = is_outdated edits;
}

-- the text of the node at a place
abbrev pub text_at : NodeList → ℕ → List ℕ
text_at nodes p = option_map_or (λ pair. pair.1.text) (slice_get nodes p) []

-- what is seen of the node of a name in a version, or why nothing is
abbrev pub view_in : Mirror → ℕ → List ℕ → List Edit → Result View Refusal
view_in m version name edits = or_refused UnknownVersion (version_of m.live version) >>= λ image.
    or_refused UnknownNode (place_of image.nodes name) >>= λ p.
    edit_all edits (text_at image.nodes p) >>= λ text. Ok (view_of (node_parts image p) edits)
