-- Which commands a node's perspective wants (after PIDE's perspectives).
use Rattle.std.specs.Prelude.{◌≡◌, ℕ, zero, suc, ◌+◌, ◌<◌, ◌≤◌, Bool, true, if◌then◌else◌, List, [], ◌∷◌, length, slice_get, option_map, Some}
use Rattle.doc_nodes.specs.declared.node.Entry.{Entry}
use Rattle.doc_nodes.specs.declared.node.Node.{Node}

-- one command more in front of so many wanted ones
abbrev pub up_to : Bool → ℕ → ℕ
up_to visible zero = if visible then 1 else 0
up_to visible (suc n) = suc (suc n)

-- the number of the commands up to the last visible one (this project's own)
abbrev pub wanted_prefix : List Entry → ℕ
wanted_prefix [] = 0
wanted_prefix (e ∷ es) = up_to e.visible (wanted_prefix es)

-- the command at a place is visible
abbrev pub IsVisible : List Entry → ℕ → Type 0
IsVisible entries k = option_map (λ e. e.visible) (slice_get entries k) ≡ Some true

-- the commands before n are those up to the last visible one
pub record IsWantedPrefix (entries : List Entry) (n : ℕ) : Type 0 where
  pub within : n ≤ length entries
  pub all : (k : ℕ) → IsVisible entries k → k < n
  pub last : (k : ℕ) → n ≡ k + 1 → IsVisible entries k

-- how many commands a node wants by itself: all where it is required
abbrev pub own_wanted : Node → ℕ
own_wanted node = if node.required then length node.entries else wanted_prefix node.entries
