-- Each report of a command stands on one of its tokens, or is of its whole source.
use Rattle.std.proofs.Common.{◌≡◌, ◌⊎◌, ℕ, List, Option}
use Rattle.std.specs.List.{AllByRecursion}
use Rattle.doc_nodes.specs.Needs.{source_tokens}
use Rattle.language.specs.Laws.{reports_of}
use Rattle.proof_terms.specs.Cited.{IsPlaceOf}
use Rattle.isar_rules.specs.declared.state.State.{State}
use Rattle.isar_rules.specs.Isar.{isar}
use Rattle.isar_rules.specs.Reports.{whole}
use Rattle.isar_rules.specs.Steps.{aliases_at}
use Rattle.isar_rules.proofs.Keeping.{all-placed}

pub isar_placed : (source : List ℕ) (blob : Option (List ℕ)) (before : State)
    → AllByRecursion
    (λ r. (r.range ≡ whole source)
    ⊎ IsPlaceOf (source_tokens (aliases_at before.place before.aliases) source) r.range)
    (reports_of isar source blob before)
isar_placed = all-placed
