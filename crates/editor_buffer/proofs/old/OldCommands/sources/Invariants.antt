use Rattle.std.proofs.Common.{◌≡◌, ◌++◌, length}
use Rattle.editor_buffer.specs.Commands.{sources_in}
use Rattle.editor_buffer.proofs.old.OldCommands.sources.Given as goal

abbrev pub invariant-entries : goal.invariant-entries
invariant-entries l =
    l.all.items ++ sources_in l.self.text.now l.rest ≡ sources_in l.self.text.now l.self.entries.now

abbrev pub decreases-entries : goal.decreases-entries
decreases-entries l = length l.rest
