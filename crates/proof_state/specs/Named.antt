-- The facts of a block that can be cited (this project's own).
use Rattle.std.specs.Prelude.{Option, List, option_map}
use Rattle.std.specs.List.{filter_map}
use Rattle.theory_ctx.specs.declared.local.Local.{Local}
use Rattle.proof_state.specs.declared.local_fact.LocalFact.{LocalFact}

-- the fact, if it has a name
abbrev pub as_local : LocalFact → Option Local
as_local fact = option_map (λ n. record { name = n; formula = fact.formula }) fact.name

-- the facts that have names
abbrev pub named_facts : List LocalFact → List Local
named_facts = filter_map as_local
