use Rattle.std.proofs.Common.{◌≡◌, ℕ, false, List, ◌++◌, length}
use Rattle.std.specs.Prelude.{find}
use Rattle.std.specs.List.{list_any}
use Rattle.reply_messages.specs.declared.told.NodeRows.{NodeRows}
use Rattle.mirror_rules.specs.Rows.{is_unknown}
use Rattle.pide_mirror.specs.Listing.{listed_at, is_of}
use Rattle.pide_mirror.proofs.listed_nodes.listing.Given as goal

abbrev pub invariant-listed : goal.invariant-listed
invariant-listed l = (behind : List NodeRows) × (l.listed ≡ l.rest ++ behind)
    × (list_any (is_unknown l.nodes) behind ≡ false)
    × ((place : ℕ) → listed_at l.listing.entries place ≡ find (is_of l.nodes place) behind)

abbrev pub decreases-listed : goal.decreases-listed
decreases-listed l = length l.rest
