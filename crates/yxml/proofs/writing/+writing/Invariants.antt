-- What is written, and the trees that are left, make up the body.
use Rattle.std.proofs.Common.{◌≡◌, ◌++◌, string_bytes, drop}
use Rattle.yxml.specs.Marks.{marks}
use Rattle.yxml.specs.Spelling.{spellings}
use Rattle.yxml.proofs.writing.+writing.Given as goal

abbrev pub invariant-write_trees-loop-tree : goal.invariant-write_trees-loop-tree
invariant-write_trees-loop-tree l = string_bytes l.out ++ spellings (marks (drop l.tree-index l.trees))
    ≡ string_bytes l.initial.out ++ spellings (marks l.trees)
