-- The names that are kept beside what a block lists (this project's own).
use Rattle.std.specs.Prelude.{◌≡◌, ℕ, List}
use Rattle.std.specs.List.{list_any}
use Rattle.std.specs.Str.{bytes_eq}
use Rattle.nj_formula.specs.Meaning.{meaning}
use Rattle.nj_formula.specs.Free.{is_free}
use Rattle.theory_ctx.specs.NameSets.{Names, has_name}
use Rattle.proof_state.specs.declared.local_fact.LocalFact.{LocalFact}

-- the set has the names that are free in these facts, and no other
abbrev pub AreFree : Names → List LocalFact → Type 0
AreFree names facts =
    (x : List ℕ) → has_name names x ≡ list_any (λ fact. is_free x (meaning fact.formula)) facts

-- the set has these names, and no other
abbrev pub AreListed : Names → List (List ℕ) → Type 0
AreListed names listed = (x : List ℕ) → has_name names x ≡ list_any (λ y. bytes_eq y x) listed
