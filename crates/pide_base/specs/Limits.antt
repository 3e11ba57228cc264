-- The limits of a document (this project's own).
use Rattle.std.specs.Prelude.{ℕ}

-- the most nodes that a version has, and the most blobs
abbrev pub most_nodes : ℕ
most_nodes = 65536

-- the most scalars that a text has
abbrev pub most_scalars : ℕ
most_scalars = 16777216

-- the most versions that are live
abbrev pub most_live : ℕ
most_live = 64
