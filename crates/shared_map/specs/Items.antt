-- What a tree means: the list of its items.
use Rattle.std.specs.Prelude.{◌≡◌, List, [], ◌∷◌, ◌++◌, length, Option, Some, None}
use Rattle.std.specs.Arc.{arc_value}
use Rattle.std.specs.declared.sync.Arc.{Arc}
use Rattle.shared_map.specs.declared.tree.Fork.{Fork}

-- the items of a fork from left to right
abbrev pub items_of : {T : Type 0} → Fork T → List T
items_of fork = fork.left ++ arc_value fork.item ∷ fork.right

-- the items of a tree
abbrev pub items : {T Z : Type 0} → Option (Arc (Fork T) Z) → List T
items None = []
items (Some fork) = items_of (arc_value fork)

-- a fork tells how many items it has
abbrev pub IsCounted : {T Z : Type 0} → Option (Arc (Fork T) Z) → Type 0
IsCounted None = Unit {0}
IsCounted (Some fork) = (arc_value fork).len ≡ length (items_of (arc_value fork))
