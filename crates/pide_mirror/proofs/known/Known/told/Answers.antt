-- What is kept is kept through what is told.
use Rattle.std.proofs.Common.{◌≡◌, ℕ, rules}
use Rattle.std.specs.Prelude.{IsTrue, ◌↔◌}
use Rattle.pide_mirror.specs.Places.{told_in}
use Rattle.pide_mirror.specs.Tables.{table_of, as_report, IsTaken}
use Rattle.pide_mirror.proofs.Keeping.{told_kept, taken_kept, kept_taken}
use Rattle.pide_mirror.proofs.known.Known.told.Goals as goal

pub returns-clause-known : goal.returns-clause-known
returns-clause-known c = λ image kept.
    let nodes : c.in_ok-nodes.nodes ≡ c.args.self.now.nodes = search rules in
    let rows : c.in_ok-nodes.rows ≡ c.args.self.now.rows = search rules in
    let aliases : c.in_ok-nodes.aliases ≡ c.args.self.now.aliases = search rules in
    let places : (e d : ℕ) → table_of c.in_ok-nodes.field-0-1.places e d ≡ told_in (as_report c.args.told.now) (table_of c.args.self.now.places) e d = search rules in
    told_kept (as_report c.args.told.now) c.args.self.now image kept _ nodes rows aliases places

pub returns-clause-taken : goal.returns-clause-taken
returns-clause-taken c = λ image kept.
    let taken : IsTrue c.in_ok-nodes.field-0-1.taken ↔ IsTaken (as_report c.args.told.now) (table_of c.args.self.now.places) = search rules in (
      λ is. taken_kept (as_report c.args.told.now) c.args.self.now image kept (taken.0 is),
      λ is. taken.1 (kept_taken (as_report c.args.told.now) c.args.self.now image kept is),
    )
