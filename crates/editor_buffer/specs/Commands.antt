-- The commands of spans, and those that a node had (this project's own).
use Rattle.std.specs.Prelude.{◌≡◌, ℕ, List, map, filter}
use Rattle.shared_map.specs.Pairs.{Each}
use Rattle.doc_nodes.specs.declared.node.Entry.{Entry}
use Rattle.doc_nodes.specs.Needs.{AliasList, needs}
use Rattle.pide_base.specs.declared.range.Range.{Range}
use Rattle.command_spans.specs.declared.span.Span.{Span}
use Rattle.buffer_rules.specs.Cuts.{is_command, source}
use Rattle.buffer_rules.specs.Numbers.{Command}

-- where the commands among these spans stand
abbrev pub ranges_of : List Span → List Range
ranges_of spans = map (λ s. s.range) (filter (λ s. is_command s.kind) spans)

-- the sources of commands in a text
abbrev pub sources_in : List ℕ → List Entry → List (List ℕ)
sources_in text entries = map (λ e. source text e.range) entries

-- their ids and sources
abbrev pub commands_in : List ℕ → List Entry → List Command
commands_in text entries = map (λ e. (e.command, source text e.range)) entries

-- a command asks for the blob that a source asks for under these aliases
abbrev pub AsksFor : AliasList → List ℕ → Entry → Type 0
AsksFor aliases text e = e.needs ≡ needs text aliases

-- each of them asks for the blob that its source asks for under these aliases
abbrev pub AskUnder : AliasList → List ℕ → List Entry → Type 0
AskUnder aliases text entries = Each (λ e. AsksFor aliases (source text e.range) e) entries
