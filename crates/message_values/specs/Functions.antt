-- The editor's functions, by name and by the number of their arguments (this project's own).
use Rattle.std.specs.Prelude.{ℕ, Bool, ◌||◌, ◌==◌, bytes_eq, List, [], ◌∷◌, ◌++◌, Option, find, codes}
use Rattle.message_values.specs.declared.function.Function.{Function}
use Rattle.message_values.specs.declared.function.Function.TheVariants.{Update, Snapshot, Cancel, RemoveVersions, Settle, Protocol, Claim, Finish, Theory}
use Rattle.message_values.specs.declared.mode.Mode.{Mode}
use Rattle.message_values.specs.declared.mode.Mode.TheVariants.{Serve, Replay, Build}

-- the name with which a message begins
abbrev pub word : Function → List ℕ
word Update = codes "Session.update"
word Snapshot = codes "Session.snapshot"
word Cancel = codes "Session.cancel"
word RemoveVersions = codes "Session.remove_versions"
word Settle = codes "Session.settle"
word Protocol = codes "Session.protocol"
word Claim = codes "Step.claim"
word Finish = codes "Step.finish"
word Theory = codes "Build.theory"

-- the functions of a session
abbrev pub of_session : List Function
of_session = Update ∷ Snapshot ∷ Cancel ∷ RemoveVersions ∷ Settle ∷ Protocol ∷ []

-- the functions of each mode
abbrev pub functions_of : Mode → List Function
functions_of Serve = of_session
functions_of Replay = of_session ++ Claim ∷ Finish ∷ []
functions_of Build = Theory ∷ []

-- the one of these functions that has this name
abbrev pub named_in : List Function → List ℕ → Option Function
named_in functions name = find (λ f. bytes_eq (word f) name) functions

-- the function of the mode that has this name
abbrev pub function_named : Mode → List ℕ → Option Function
function_named mode name = named_in (functions_of mode) name

-- the function takes so many arguments
abbrev pub takes : Function → ℕ → Bool
takes Update count = count == 2 || count == 3
takes Snapshot count = count == 3
takes Cancel count = count == 1
takes RemoveVersions count = count == 1
takes Settle count = count == 1
takes Protocol count = count == 1
takes Claim count = count == 1
takes Finish count = count == 1
takes Theory count = count == 2
