-- The order of nodes by rounds. A node is a place in a list, and has the places of its imports; an
-- import that is no node has none.
use Rattle.std.specs.Prelude.{ℕ, zero, suc, Bool, false, not, ◌&&◌, List, [], ◌++◌, length, filter, slice_index_or, Option, Some, None}
use Rattle.std.specs.List.{list_all, range_with_len}
use Rattle.text_words.specs.Members.{has}

-- an import is known: it is a node, and that is ordered
abbrev pub is_known : List ℕ → Option ℕ → Bool
is_known ordered None = false
is_known ordered (Some p) = has ordered p

-- the node is ordered in the next round: it is not ordered yet, and all its imports are
abbrev pub is_next : List (List (Option ℕ)) → List ℕ → ℕ → Bool
is_next imports ordered p =
    not (has ordered p) && list_all (is_known ordered) (slice_index_or imports p [])

-- the next round, in the order of places (this project's own)
abbrev pub round : List (List (Option ℕ)) → List ℕ → List ℕ
round imports ordered = filter (is_next imports ordered) (range_with_len 0 (length imports))

-- the nodes that are ordered after so many more rounds
abbrev pub after_rounds : List (List (Option ℕ)) → ℕ → List ℕ → List ℕ
after_rounds imports zero ordered = ordered
after_rounds imports (suc n) ordered = after_rounds imports n (ordered ++ round imports ordered)

-- the ordered nodes: there are no more rounds than nodes
abbrev pub in_rounds : List (List (Option ℕ)) → List ℕ
in_rounds imports = after_rounds imports (length imports) []
