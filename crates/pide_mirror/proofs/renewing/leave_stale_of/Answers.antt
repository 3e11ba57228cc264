-- What the index keeps is what the node of the new version has.
use Rattle.std.proofs.Common.{◌≡◌, Some, None, false, ap, sym, ◌∙◌}
use Rattle.std.specs.Prelude.{if◌then◌else◌}
use Rattle.std.specs.Option.{option_copied}
use Rattle.pide_base.proofs.KnownOutcomes.{on_ok_so}
use Rattle.pide_mirror.specs.Tables.{table_of}
use Rattle.pide_mirror.specs.Indexed.{row_at, executions_in}
use Rattle.pide_mirror.proofs.Indexing.{first_of, executions_first}
use Rattle.pide_mirror.proofs.Stepping.{stale_same}
use Rattle.pide_mirror.proofs.renewing.leave_stale_of.Goals as goal

pub returns-in_ok-indexed-in-Some-2 : goal.returns-in_ok-indexed-in-Some-2
returns-in_ok-indexed-in-Some-2 c =
    let new = c.in-Some-2.new.now in
    let both : Some c.in-Some.new ≡ Some c.in-Some-2.new = sym c.in-Some.is ∙ c.in-Some-2.is in
    let one : c.in-Some.new ≡ c.in-Some-2.new = cc in
    let stays : new.stays ≡ false = ap (λ n. n.now.stays) (sym one) ∙ c.if-new.false in
    on_ok_so c.leave_rows.result _ _
    (λ so e d. so e d ∙ ap (λ b. if b then None else table_of c.args.places.now e d)
    (stale_same c.args.rows.now new (option_copied c.args.made) (λ command. executions_in (row_at c.in_ok-indexed-in-Some-2.field-0.entries command))
    (ap option_copied c.in-Some-2.is) stays (λ k. ap executions_in (c.in_ok-indexed-in-Some-2.ensures k)
    ∙ ap (λ rs. executions_in (first_of rs k)) (c.as_slice.ensures ∙ c.get.ensures) ∙ executions_first new.rows k) e d))
    c.leave_rows.ensures
