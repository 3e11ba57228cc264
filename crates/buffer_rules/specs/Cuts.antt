-- The commands of a text (after Isabelle's command spans and PIDE's perspectives).
use Rattle.std.specs.Prelude.{ℕ, Bool, true, false, nat_lt, min, max, List, map, filter}
use Rattle.std.specs.List.{list_any}
use Rattle.text_words.specs.Pieces.{text_between}
use Rattle.pide_base.specs.declared.range.Range.{Range}
use Rattle.command_spans.specs.declared.span.SpanKind.{SpanKind}
use Rattle.command_spans.specs.declared.span.SpanKind.TheVariants.{Ignored}
use Rattle.command_spans.specs.Cutting.{spans_in}
use Rattle.doc_nodes.specs.declared.node.Node.{Node}

-- a span is a command unless it is ignored
abbrev pub is_command : SpanKind → Bool
is_command Ignored = false
is_command _ = true

-- where the commands of a text stand under these names of aliases
abbrev pub command_ranges : List ℕ → List (List ℕ) → List Range
command_ranges text names =
    map (λ s. s.range) (filter (λ s. is_command s.kind) (spans_in text names))

-- the text of a range
abbrev pub source : List ℕ → Range → List ℕ
source text range = text_between text range.start range.stop

-- two ranges share a scalar
abbrev pub share : Range → Range → Bool
share one other = nat_lt (max one.start other.start) (min one.stop other.stop)

-- a range shares a scalar with one of these
abbrev pub is_seen : List Range → Range → Bool
is_seen ranges range = list_any (share range) ranges

-- the commands of a node: their ids and sources
abbrev pub commands_of : Node → List (ℕ × List ℕ)
commands_of node = map (λ e. (e.command, source node.text e.range)) node.entries
