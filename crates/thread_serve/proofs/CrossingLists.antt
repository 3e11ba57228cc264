-- Lists, maps and shared values may go to another thread, and be looked at by several, where what
-- they hold may.
use denote.RattleType.{RattleType}
use denote.Param.Send.{IsSend, IsSync, sendable}
use Rattle.std.specs.declared.cmp.Ord as ord
use Rattle.std.specs.declared.cmp.PartialEq as eq
use Rattle.std.specs.declared.cmp.PartialOrd as partial
use Rattle.std.proofs.Crossing as kit
use Rattle.std.proofs.MapsCrossing as maps
use Rattle.shared_map.proofs.tree.Tree.TheLaws.TheKnot as trees
use Rattle.sqlite_items.specs.contracts.items.Items as items
use Rattle.shared_map.specs.contracts.map.SharedMap as map
use Rattle.doc_nodes.specs.contracts.shared.Shared as shared

module _ (T : RattleType) where
  pub items_send : IsSend T → IsSend (items.the_row T)
  items_send s = search (kit.crosses, sendable) depth 40

  pub items_sync : IsSync T → IsSync (items.the_row T)
  items_sync y = search (kit.crosses, sendable) depth 40

  pub shared_send : IsSend T → IsSync T → IsSend (shared.the_row T)
  shared_send s y = search (kit.crosses, sendable) depth 40

  pub shared_sync : IsSend T → IsSync T → IsSync (shared.the_row T)
  shared_sync s y = search (kit.crosses, sendable) depth 40

module _ (K V : RattleType) (o : ord.Ghosts K.Denot) (e : eq.Ghosts K.Denot)
    (p : partial.Ghosts K.Denot) where
  pub map_send : IsSend K → IsSync K → IsSend V → IsSync V → IsSend (map.the_row K V o e p)
  map_send ks ky vs vy = search (kit.crosses, trees.crosses, sendable) depth 40

  pub map_sync : IsSend K → IsSync K → IsSend V → IsSync V → IsSync (map.the_row K V o e p)
  map_sync ks ky vs vy = search (kit.crosses, trees.crosses, sendable) depth 40

pub ruleset lists = (
  items_send,
  items_sync,
  shared_send,
  shared_sync,
  map_send,
  map_sync,
  maps.crosses,
  kit.crosses,
  sendable,
)
