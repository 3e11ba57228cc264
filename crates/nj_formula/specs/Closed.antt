-- A term has no bound place.
use Rattle.std.specs.Prelude.{Bool, true, false}
use Rattle.std.specs.List.{list_all}
use Rattle.nj_formula.specs.declared.argument.Argument.{Argument, fold-Argument}
use Rattle.nj_formula.specs.declared.argument.Argument.TheOpen.{Argument-F}

-- one layer, with the answer for each argument in its place
abbrev pub closed_layer : Argument-F Bool → Bool
closed_layer (Argument-F.Free y) = true
closed_layer (Argument-F.Bound place) = false
closed_layer (Argument-F.Apply function arguments) = list_all (λ closed. closed) arguments

-- no place in the argument is bound
abbrev pub is_closed : Argument → Bool
is_closed = fold-Argument Bool closed_layer
