-- The facts of several contexts together.
use Rattle.std.specs.Prelude.{List, [], fold}
use Rattle.std.specs.List.{flat_map}
use Rattle.shared_map.specs.Changes.{put, united}
use Rattle.theory_ctx.specs.Facts.{Fact}
use Rattle.theory_ctx.specs.Order.{by_name}

-- the facts with one more in its place
abbrev pub extended_facts : Fact → List Fact → List Fact
extended_facts = put by_name

-- the facts of all parts; of a theory and name that several parts have, the earliest part's
abbrev pub merged_facts : List (List Fact) → List Fact
merged_facts = fold (united by_name) []

-- the facts of all parts, one part behind the other
abbrev pub all_of : List (List Fact) → List Fact
all_of = flat_map (λ part. part)
