-- What the program does for the words of the command line (this project's own).
use Rattle.std.specs.Prelude.{ℕ, nat_le, Bool, true, false, ◌&&◌, ◌||◌, List, map, Option, Some}
use Rattle.std.specs.Borrow.{Bor}
use Rattle.command_words.specs.declared.request.Request.{Request}
use Rattle.command_words.specs.declared.request.Request.TheVariants as request
use Rattle.command_words.specs.Asked.{words_request}
use Rattle.session_rules.specs.declared.service.Service.{Service}
use Rattle.session_rules.specs.declared.service.Service.TheVariants as service
use Rattle.made_document.specs.Texts.{most_nodes}
use Rattle.message_values.specs.Workers.{most_workers}

-- messages are served beside as many workers as there may be, as a script tells, and with a mirror
abbrev pub serves : Option Request → Bool
serves (Some (request.Serve workers)) = nat_le workers most_workers
serves (Some request.Replay) = true
serves (Some request.Mirror) = true
serves _ = false

-- they are served with a mirror where that is asked
abbrev pub mirrors : Option Request → Bool
mirrors (Some request.Mirror) = true
mirrors _ = false

-- a text is checked where that is asked
abbrev pub checks : Option Request → Bool
checks (Some request.Check) = true
checks _ = false

-- theories are built by as many workers as there may be
abbrev pub builds : Option Request → Bool
builds (Some (request.Build workers)) = nat_le workers most_workers
builds _ = false

-- a document is made of as many nodes as it may have, beside as many workers as there may be
abbrev pub makes : Option Request → Bool
makes (Some (request.Gen nodes workers)) = nat_le nodes most_nodes && nat_le workers most_workers
makes _ = false

-- of so many nodes
abbrev pub nodes_for : Option Request → ℕ
nodes_for (Some (request.Gen nodes workers)) = nodes
nodes_for _ = 0

-- how messages are served
abbrev pub service_for : Option Request → Service
service_for (Some (request.Serve workers)) = service.Workers workers
service_for (Some request.Mirror) = service.Workers 0
service_for _ = service.Script

-- what words that are lent ask for
abbrev pub request_of : List (Bor (List ℕ)) → Option Request
request_of words = words_request (map (λ w. w.now) words)

-- the words are `serve`, with a number of workers or without, `replay` or `mirror`
abbrev pub is_served : List (Bor (List ℕ)) → Bool
is_served words = serves (request_of words)

-- the word is `mirror`
abbrev pub is_mirror : List (Bor (List ℕ)) → Bool
is_mirror words = mirrors (request_of words)

-- the word is `check`
abbrev pub is_check : List (Bor (List ℕ)) → Bool
is_check words = checks (request_of words)

-- the words are `build`, with a number of workers or without
abbrev pub is_build : List (Bor (List ℕ)) → Bool
is_build words = builds (request_of words)

-- the words are `gen` with a number of nodes, and with a number of workers or without
abbrev pub is_gen : List (Bor (List ℕ)) → Bool
is_gen words = makes (request_of words)

-- the number of nodes
abbrev pub nodes_of : List (Bor (List ℕ)) → ℕ
nodes_of words = nodes_for (request_of words)

-- the words are taken
abbrev pub has_request : List (Bor (List ℕ)) → Bool
has_request words = is_served words || (is_check words || (is_build words || is_gen words))

-- how the words ask to be served
abbrev pub service_of : List (Bor (List ℕ)) → Service
service_of words = service_for (request_of words)
