-- The nodes of made documents: their names and texts (this project's own).
use Rattle.std.specs.Prelude.{ℕ, ◌==◌, ◌-◌, ◌/◌, if◌then◌else◌, List, [], ◌++◌, codes, decimal, flat_map, length}
use Rattle.std.specs.List.{range_with_len}

-- a document has 1 to 1,000 nodes
abbrev pub most_nodes : ℕ
most_nodes = 1000

-- `T` and the node's number
abbrev pub name : ℕ → List ℕ
name number = codes "T" ++ decimal number

-- each node but the first imports the one of half its number
abbrev pub import_of : ℕ → List ℕ
import_of number = if number == 1 then [] else codes " imports " ++ name (number / 2)

-- the header
abbrev pub header : ℕ → List ℕ
header number = codes "theory " ++ (name number ++ (import_of number ++ codes " begin\n"))

-- a lemma with its proof, on a line
abbrev pub lemma_line : ℕ → List ℕ
lemma_line k = codes "lemma l" ++ (decimal k ++ codes ": \"P --> P\" by (impI h h)\n")

-- the most lemmas of a node
abbrev pub lemma_count : ℕ
lemma_count = 8

-- the lemmas
abbrev pub lemmas : List ℕ
lemmas = flat_map lemma_line (range_with_len 1 lemma_count)

-- what stands behind them
abbrev pub ending : List ℕ
ending = codes "end"

-- the text of a node
abbrev pub text : ℕ → List ℕ
text number = header number ++ (lemmas ++ ending)

-- what the second update inserts, and where: just before the ending
abbrev pub inserted : List ℕ
inserted = codes "axiom a: \"Q\" "

abbrev pub insert_place : ℕ → ℕ
insert_place number = length (text number) - length ending
