use Rattle.std.proofs.Common.{◌≡◌, ◌++◌, ◌↔◌, true, List, map, length, IsTrue}
use Rattle.std.specs.List.{list_any}
use Rattle.core_tables.specs.declared.versions.Live.{Live}
use Rattle.mirror_rules.specs.Images.{Image}
use Rattle.mirror_rules.specs.Replies.{live_with}
use Rattle.mirror_rules.specs.Reports.{belongs_in}
use Rattle.pide_mirror.specs.Tables.{as_report}
use Rattle.pide_mirror.specs.Kept.{AreKept}
use Rattle.pide_mirror.proofs.known.told_to_all.Given as goal

abbrev pub invariant-versions : goal.invariant-versions
invariant-versions l = (images : List (Live Image)) → AreKept l.live images
    → (front rest : List (Live Image)) × (images ≡ front ++ rest) × AreKept l.rest rest
    × AreKept l.all.items (map (live_with (as_report l.told)) front)
    × (IsTrue l.taken ↔ (list_any (λ one. belongs_in (as_report l.told) one.version) front ≡ true))

abbrev pub decreases-versions : goal.decreases-versions
decreases-versions l = length l.rest
