-- Finished parts as a snapshot takes them.
use Rattle.std.proofs.Common.{◌≡◌, List, [], ◌∷◌, ◌++◌, map, refl, ap}
use Rattle.std.specs.Prelude.{flat_map}
use Rattle.text_edits.specs.declared.edit.Edit.{Edit}
use Rattle.report_markup.specs.declared.report.Report.{Report}
use Rattle.snapshots.specs.Gathered.{gathered, AllMovable}
use Rattle.core_jobs.specs.declared.results.PartResult.{PartResult}
use Rattle.core_jobs.specs.Parts.{told_part}
use Rattle.session_rules.specs.Shown.{placed_reports}
use Rattle.session_replies.specs.Marked.{AreMovable, assigned_part}

pub all_movable : (edits : List Edit) (parts : List PartResult) → AreMovable edits (map told_part parts) → AllMovable edits (map assigned_part parts)
all_movable edits [] are = tt
all_movable edits (p ∷ parts) are = (are.0, all_movable edits parts are.1)

pub gathered_same : (parts : List PartResult)
    → gathered (map assigned_part parts) ≡ flat_map placed_reports (map told_part parts)
gathered_same [] = refl
gathered_same (p ∷ parts) = ap (λ (rs : List Report). placed_reports (told_part p) ++ rs)
    (gathered_same parts)
