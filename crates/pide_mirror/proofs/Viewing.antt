-- A snapshot of parts is what is seen of them.
use Rattle.std.proofs.Common.{◌≡◌, ℕ, true, false, Bool, List, [], ◌∷◌, map, Option, Some, None, Result, Ok, Err, refl, ap, ◌∙◌, length, arith}
use Rattle.std.specs.Prelude.{flat_map, ◌≢◌, ◌↔◌, IsTrue, IfOk}
use Rattle.std.specs.declared.alloc.AllocError.{AllocError}
use Rattle.std.specs.Borrow.{Bor}
use Rattle.text_edits.specs.declared.edit.Edit.{Edit}
use Rattle.report_markup.specs.declared.report.Report.{Report}
use Rattle.report_markup.specs.Sorting.{ordered_reports}
use Rattle.snapshots.specs.Converted.{left_by}
use Rattle.snapshots.specs.Gathered.{gathered, snapshot_reports}
use Rattle.snapshots.specs.Pending.{IsPending}
use Rattle.snapshots.specs.Seen.{seen}
use Rattle.snapshots.specs.declared.content.Snapshot.{Snapshot}
use Rattle.snapshots.specs.declared.part.AssignedPart.{AssignedPart}
use Rattle.std.specs.List.{AllByRecursion}
use Rattle.buffer_rules.specs.Texts.{edit_all}
use Rattle.session_rules.specs.Shown.{placed_reports}
use Rattle.session_rules.specs.Replies.{is_outdated}
use Rattle.mirror_rules.specs.Looking.{view_of}
use Rattle.pide_mirror.specs.KeptNodes.{HasId}
use Rattle.pide_mirror.specs.Looking.{as_view}
use Rattle.pide_mirror.specs.NodeParts.{as_shown}
use Rattle.pide_mirror.proofs.Pending.{pending_same}

-- parts show the same reports
gathered_same : (parts : List AssignedPart) → gathered parts ≡ flat_map placed_reports (map as_shown parts)
gathered_same [] = refl
gathered_same (p ∷ parts) = go p.reports refl (gathered_same parts)
  where
    go : (o : Option (Bor (List Report))) → p.reports ≡ o → gathered parts ≡ flat_map placed_reports (map as_shown parts)
        → gathered (p ∷ parts) ≡ flat_map placed_reports (map as_shown (p ∷ parts))
    go None is rest = cc
    go (Some reports) is rest = cc

outdated_same : (edits : List Edit) (b : Bool) → (IsTrue b ↔ (edits ≢ [])) → b ≡ is_outdated edits
outdated_same [] true is = absurd (is.0 refl refl)
outdated_same [] false is = refl
outdated_same (e ∷ es) true is = refl
outdated_same (e ∷ es) false is = is.1 (λ same. absurd (cc))

-- so a snapshot is what is seen
snapshot_seen : (parts : List AssignedPart) (edits : List Edit) (shot : Snapshot) → AllByRecursion HasId (map as_shown parts)
    → map seen shot.reports.items ≡ snapshot_reports edits parts → IsPending parts shot.pending.items → (IsTrue shot.outdated ↔ (edits ≢ []))
    → as_view shot ≡ view_of (map as_shown parts) edits
snapshot_seen parts edits shot ids reports pending outdated =
    let shows : map seen shot.reports.items ≡ ordered_reports (left_by edits (flat_map placed_reports (map as_shown parts)))
    = reports ∙ ap (λ rs. ordered_reports (left_by edits rs)) (gathered_same parts) in
    let waits = pending_same parts shot.pending.items ids pending in
    let late = outdated_same edits shot.outdated outdated in
    cc

pub snapshot_shown : (parts : List AssignedPart) (edits : List Edit) (result : Result Snapshot AllocError) → AllByRecursion HasId (map as_shown parts)
    → IfOk result (λ shot. map seen shot.reports.items ≡ snapshot_reports edits parts) → IfOk result (λ shot. IsPending parts shot.pending.items)
    → IfOk result (λ shot. IsTrue shot.outdated ↔ (edits ≢ [])) → IfOk result (λ shot. as_view shot ≡ view_of (map as_shown parts) edits)
snapshot_shown parts edits (Ok shot) ids reports pending outdated = snapshot_seen parts edits shot ids reports pending outdated
snapshot_shown parts edits (Err error) ids reports pending outdated = tt

-- no edits can be made
pub none_tried : (edits : List Edit) (text : List ℕ) → length edits ≡ 0 → (made : List ℕ) × (edit_all edits text ≡ Ok made)
none_tried [] text none = (text, refl)
none_tried (e ∷ es) text none = absurd (omega (arith, none))
