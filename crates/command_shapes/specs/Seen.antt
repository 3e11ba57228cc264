-- The words that the code reads, as those of the rules (this project's own).
use Rattle.isar_rules.specs.Words.{Word, name, quoted, colon, dash, other}
use Rattle.command_shapes.specs.declared.word.Word.{Word as Read}
use Rattle.command_shapes.specs.declared.word.Word.TheVariants as read

-- a word that was read
abbrev pub seen : Read → Word
seen (read.Name n) = name n
seen (read.Quoted f) = quoted f
seen read.Colon = colon
seen read.Dash = dash
seen read.Other = other
