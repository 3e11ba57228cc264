-- A language of numbers: a state is a number that tells of all that was run.
use Rattle.std.specs.Prelude.{ℕ, ◌+◌, ◌*◌, ◌%◌, ◌==◌, Bool, false, List, [], ◌∷◌, length, decimal, Option, Some, None}
use Rattle.report_markup.specs.declared.kind.ReportKind.TheVariants as report
use Rattle.test_editor.specs.About.{about}
use Rattle.language.specs.Lang.{Lang}
use Rattle.language.specs.declared.made.Imported.{Imported}
use Rattle.language.specs.declared.made.Imports.{Imports}
use Rattle.language.specs.declared.made.Imports.TheVariants.{Ordered, Bad}

-- a number with another one behind it
abbrev pub counted : ℕ → ℕ → ℕ
counted n c = (n % 997 * 31 + c % 997) % 997

-- a number with all of these behind it
abbrev pub summed : ℕ → List ℕ → ℕ
summed n [] = n
summed n (c ∷ cs) = summed (counted n c) cs

-- a number with the states of imports behind it
abbrev pub imported : ℕ → List (Imported ℕ) → ℕ
imported n [] = n
imported n (i ∷ is) = imported (counted n i.state) is

-- a node begins with what it has from its imports, and with the number of its aliases; or with the
-- name of its bad import
abbrev pub begun : Imports ℕ → ℕ → ℕ
begun (Ordered imports) aliases = counted (imported 1 imports) aliases
begun (Bad name) aliases = summed 2 name

-- what a command makes of a state, with the text of a blob where it asks for one
abbrev pub run : List ℕ → Option (List ℕ) → ℕ → ℕ
run source None n = summed n source
run source (Some blob) n = summed (counted (summed n source) 1) blob

-- a command forks where it begins with a `b`, as `by` does
abbrev pub is_forking : List ℕ → Bool
is_forking [] = false
is_forking (c ∷ cs) = c == 98

-- each report tells the state: an evaluation and a print the one behind the command, a fork the one
-- before it
abbrev pub counting : Lang ℕ
counting = record {
  start = λ node imports aliases. begun imports (length aliases.pairs);
  step = λ source blob state. record {
    state = run source blob state;
    reports = about report.Command source (decimal (run source blob state));
    forks = is_forking source;
  };
  fork = λ source state. about report.Proved source (decimal state);
  print = λ source state. about report.State source (decimal state);
}
