-- A small language, and small documents (this project's own). A command is one scalar.
use Rattle.std.specs.Prelude.{ℕ, ◌+◌, Bool, true, false, List, [], ◌∷◌, ◌++◌, length, map, flat_map, codes, None}
use Rattle.std.specs.Option.{option_to_list, option_map_or}
use Rattle.pide_base.specs.declared.part.Part.{Part}
use Rattle.pide_base.specs.declared.part.PartKind.TheVariants as kind
use Rattle.language.specs.report_markup_below.declared.kind.ReportKind.{ReportKind}
use Rattle.language.specs.report_markup_below.declared.kind.ReportKind.TheVariants as report
use Rattle.language.specs.report_markup_below.declared.report.Report.{Report}
use Rattle.doc_nodes.specs.declared.node.Entry.{Entry}
use Rattle.doc_nodes.specs.declared.node.Node.{Node}
use Rattle.doc_nodes.specs.Names.{equal}
use Rattle.doc_nodes.specs.Imports.{NodeList}
use Rattle.language.specs.declared.made.Imports.{Imports}
use Rattle.language.specs.declared.made.Imports.TheVariants.{Ordered, Bad}
use Rattle.language.specs.Lang.{Lang}
use Rattle.core_rules.specs.declared.event.Event.{Event}
use Rattle.core_rules.specs.declared.event.Event.TheVariants as event
use Rattle.core_rules.specs.Ready.{first_ready}
use Rattle.core_rules.specs.Alone.{work as finish_first}

-- a state is what was run so far, blobs among it
abbrev pub Words : Type 0
Words = List (List ℕ)

-- what imports were run, or the name of a bad one
abbrev pub imported : Imports Words → Words
imported (Ordered imports) = flat_map (λ i. i.state) imports
imported (Bad name) = name ∷ []

-- what is said of a whole source
abbrev pub about : ReportKind → List ℕ → List Report
about kind source = record {
  range = record { start = 0; stop = length source };
  kind = kind;
  properties = [];
  text = [];
} ∷ []

-- a node begins with its imports and the names of its aliases; the command `b` forks
abbrev pub small : Lang Words
small = record {
  start = λ node imports aliases. imported imports ++ map (λ pair. pair.0) aliases.pairs;
  step = λ source blob state. record {
    state = state ++ source ∷ option_to_list blob;
    reports = about report.Command source;
    forks = equal source (codes "b");
  };
  fork = λ source state. about report.Proved source;
  print = λ source state. about report.State source;
}

-- commands of these ids from a place on, hidden or visible
abbrev pub row : Bool → ℕ → List ℕ → List Entry
row visible at [] = []
row visible at (c ∷ cs) = record {
  command = c;
  range = record { start = at; stop = at + 1 };
  visible = visible;
  needs = None;
} ∷ row visible (at + 1) cs

-- a required node of this text and these commands, with these imports
abbrev pub node : List ℕ → List ℕ → List (List ℕ) → Node
node text commands imports = record {
  text = text;
  entries = row false 0 commands;
  required = true;
  imports = imports;
  keywords = [];
}

-- one node, `A`
abbrev pub only : Node → NodeList
only n = (codes "A", n) ∷ []

-- parts by their execution
abbrev pub eval : ℕ → Part
eval e = record { exec = e; kind = kind.Eval }

-- the fork of an execution
abbrev pub fork : ℕ → Part
fork e = record { exec = e; kind = kind.Fork }

-- the print of an execution
abbrev pub print : ℕ → Part
print e = record { exec = e; kind = kind.Print }

-- a worker takes the first ready part
abbrev pub take : ℕ → List Event → List Event
take who h = option_map_or (λ p. event.Claimed who p ∷ h) (first_ready small h) h

-- it takes the first ready part, and finishes it
abbrev pub work : ℕ → List Event → List Event
work who h = finish_first small who h
