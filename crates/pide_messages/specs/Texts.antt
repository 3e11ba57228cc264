-- Arguments as texts.
use Rattle.std.specs.Prelude.{ℕ, Bool, List, map}
use Rattle.std.specs.Borrow.{Bor}
use Rattle.std.specs.Str.{is_utf8}
use Rattle.message_values.specs.Asked.{all_yes}

-- the texts that are lent
abbrev pub texts : List (Bor (List ℕ)) → List (List ℕ)
texts lent = map (λ text. text.now) lent

-- all of the arguments are UTF-8
abbrev pub all_utf8 : List (List ℕ) → Bool
all_utf8 arguments = all_yes (map is_utf8 arguments)
