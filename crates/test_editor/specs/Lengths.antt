-- A language of one length: a state is the length of the last source.
use Rattle.std.specs.Prelude.{ℕ, false, [], length}
use Rattle.language.specs.Lang.{Lang}
use Rattle.language.specs.Laws.{AreTidy}
use Rattle.language.specs.declared.made.Imports.{Imports}
use Rattle.language.specs.declared.made.Imports.TheVariants.{Ordered, Bad}

-- a node begins with the number of its imports
abbrev pub begun : Imports ℕ → ℕ
begun (Ordered imports) = length imports
begun (Bad name) = 0

-- a command leaves the length of its source, and reports nothing
abbrev pub lengths : Lang ℕ
lengths = record {
  start = λ node imports aliases. begun imports;
  step = λ source blob state. record { state = length source; reports = []; forks = false };
  fork = λ source state. [];
  print = λ source state. [];
}

-- it reports nothing
pub tidy : AreTidy lengths
tidy = record { lie = λ source blob state. tt; treelike = λ source blob state. tt }
