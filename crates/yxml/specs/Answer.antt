-- What a text spells, as a value.
use Rattle.std.specs.Prelude.{ℕ, List, Option, Some, None, Result, Ok, Err}
use Rattle.yxml.specs.declared.tree.Tree.{Tree}
use Rattle.yxml.specs.Bodies.{body_of}
use Rattle.yxml.specs.Marks.{Mark}
use Rattle.yxml.specs.declared.fault.YxmlFault.{YxmlFault}
use Rattle.yxml.specs.Reading.{marks_in, fault_in}
use Rattle.yxml.specs.Spelling.{merged_texts}

-- the fault, or the body that the marks make
abbrev pub answer_by : Option YxmlFault → List Mark → Result (List Tree) YxmlFault
answer_by (Some fault) ms = Err fault
answer_by None ms = Ok (body_of ms)

-- the body that a text spells, or its first fault from the left (this project's own)
abbrev pub body_in : List ℕ → Result (List Tree) YxmlFault
body_in text = answer_by (fault_in text) (merged_texts (marks_in text))
