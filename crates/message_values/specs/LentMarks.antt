-- What marks mean that are lent from a text.
use Rattle.std.specs.Prelude.{List, [], ◌∷◌, Option, Some, None, Result, Ok, Err}
use Rattle.yxml.specs.Marks.{Mark, opening, closing, words}
use Rattle.yxml.specs.declared.fault.YxmlFault.{YxmlFault}
use Rattle.message_values.specs.declared.mark.LentMark.{LentMark}
use Rattle.message_values.specs.declared.mark.LentMark.TheVariants.{Opening, Closing, Words}

-- a mark that is lent
abbrev pub mark : LentMark → Mark
mark (Opening name attributes) = opening name.now attributes
mark Closing = closing
mark (Words text) = words text.now

-- what a tag says
abbrev pub meant_tag : Result LentMark YxmlFault → Result (List Mark) YxmlFault
meant_tag (Ok m) = Ok (mark m ∷ [])
meant_tag (Err fault) = Err fault

-- what a chunk says
abbrev pub meant : Result (Option LentMark) YxmlFault → Result (List Mark) YxmlFault
meant (Ok (Some m)) = Ok (mark m ∷ [])
meant (Ok None) = Ok []
meant (Err fault) = Err fault
