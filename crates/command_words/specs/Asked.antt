-- What the words ask for (this project's own; how words are cut, and which are taken, is `clap`'s).
use Rattle.std.specs.Prelude.{ℕ, ◌^◌, ◌==◌, nat_lt, Bool, false, ◌&&◌, ◌||◌, if◌then◌else◌, List, [], ◌∷◌, length, codes, bytes_eq, Option, Some, None, option_and_then}
use Rattle.std.specs.Option.{option_map, option_map_or}
use Rattle.std.specs.List.{list_all}
use Rattle.std.specs.Char.{digit_value}
use Rattle.std.specs.Str.Parse.{digits_value}
use Rattle.clap.specs.Words.{Row, Text, first_of, subcommand_of}
use Rattle.clap.specs.Kinds.{Kinds}
use Rattle.clap.specs.Faults.{fault_of}
use Rattle.command_words.specs.declared.request.Request.{Request}
use Rattle.command_words.specs.declared.request.Request.TheVariants.{Serve, Replay, Mirror, Check, Build, Gen}
use Rattle.command_words.specs.Program.{program}

-- a digit
abbrev pub is_digit : ℕ → Bool
is_digit c = nat_lt (digit_value c) 10

-- a plus stands first, or a zero before others
abbrev pub has_needless : List ℕ → Bool
has_needless [] = false
has_needless (c ∷ cs) = (c == 43) || ((c == 48) && nat_lt 0 (length cs))

-- the number of 32 bits that is printed so, in decimal
abbrev pub number_of : List ℕ → Option ℕ
number_of text = if has_needless text then None else
    (if nat_lt 0 (length text) && list_all is_digit text
    && nat_lt (digits_value 10 text) (2 ^ 32) then Some (digits_value 10 text) else None)

-- the number of workers: none where the option isn't given
abbrev pub workers_in : List Row → Option ℕ
workers_in rows = option_map_or number_of (first_of (codes "workers") rows) (Some 0)

-- the number of nodes
abbrev pub nodes_in : List Row → Option ℕ
nodes_in rows = option_and_then number_of (first_of (codes "nodes") rows)

-- a request for so many nodes by so many workers, if there are both numbers
abbrev pub gen_by : Option ℕ → Option ℕ → Option Request
gen_by nodes workers = option_and_then (λ n. option_map (λ w. Gen n w) workers) nodes

abbrev pub gen_in : List Row → Option Request
gen_in rows = gen_by (nodes_in rows) (workers_in rows)

-- what a command asks for, by its name and options
abbrev pub request_of : Text × List Row → Option Request
request_of command = if bytes_eq command.0 (codes "serve")
    then option_map (λ n. Serve n) (workers_in command.1)
    else (if bytes_eq command.0 (codes "replay") then Some Replay
    else (if bytes_eq command.0 (codes "mirror") then Some Mirror
    else (if bytes_eq command.0 (codes "check") then Some Check
    else (if bytes_eq command.0 (codes "build")
    then option_map (λ n. Build n) (workers_in command.1)
    else (if bytes_eq command.0 (codes "gen") then gen_in command.1 else None)))))

-- what is asked for, where the words have none of the kinds of errors
abbrev pub unless_faulty : Kinds → Option Request → Option Request
unless_faulty [] request = request
unless_faulty (kind ∷ kinds) request = None

-- what the words ask for, where `clap` takes them
abbrev pub words_request : List Text → Option Request
words_request words = unless_faulty (fault_of program words)
    (option_and_then request_of (subcommand_of program words))
