-- Where the commands of a sheet stand that is cut.
use Rattle.std.proofs.Common.{◌≡◌, ℕ, List, [], ◌∷◌, length, map, refl, ap, arith}
use Rattle.std.specs.List.{AllByRecursion, zip}
use Rattle.pide_base.specs.declared.range.Range.{Range}
use Rattle.doc_nodes.specs.declared.node.Entry.{Entry}
use Rattle.buffer_rules.specs.declared.sheet.Sheet.{Sheet}
use Rattle.doc_nodes.specs.Needs.{AliasList}
use Rattle.buffer_rules.specs.Nodes.{entry}
use Rattle.core_rules.specs.Updates.{AreRising}
use Rattle.core_rules.proofs.KnownEnds.{ends_within}
use Rattle.node_check.specs.Walking.{LiesIn}

-- the commands of these ids and ranges stand at these ranges
pub ranges_so : (sheet : Sheet) (aliases : AliasList) (ids : List ℕ) (ranges : List Range) → length ids ≡ length ranges
    → map (λ e. e.range) (map (entry sheet aliases) (zip ids ranges)) ≡ ranges
ranges_so sheet aliases [] [] long = refl
ranges_so sheet aliases (i ∷ ids) [] long = absurd (omega arith)
ranges_so sheet aliases [] (r ∷ rs) long = absurd (omega arith)
ranges_so sheet aliases (i ∷ ids) (r ∷ rs) long = ap (λ more. r ∷ more) (ranges_so sheet aliases ids rs (omega arith))

-- commands that end within a text lie in it, each of them
pub lie_within : (from len : ℕ) (es : List Entry) → AreRising from len es
    → AllByRecursion (LiesIn len) (map (λ e. e.range) es)
lie_within from len [] rising = tt
lie_within from len (e ∷ es) rising =
    ((rising.1, ends_within e.range.stop len es rising.2), lie_within e.range.stop len es rising.2)
