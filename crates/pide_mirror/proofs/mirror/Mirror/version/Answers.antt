-- What is kept is shown.
use Rattle.std.proofs.Common.{sym, subst, ◌∙◌}
use Rattle.core_tables.specs.Live.{version_of}
use Rattle.mirror_rules.specs.Moves.{mirrored}
use Rattle.pide_mirror.specs.Hearing.{Hearing}
use Rattle.pide_mirror.specs.Mirroring.{KnowsSo}
use Rattle.pide_mirror.specs.Showing.{IsKnown}
use Rattle.pide_mirror.proofs.Showing.{known_found, faulted_shows, going_shows}
use Rattle.pide_mirror.proofs.mirror.Mirror.version.Goals as goal

pub returns-in-Some : goal.returns-in-Some
returns-in-Some c =
    let now = c.args.self.now in
    faulted_shows (mirrored now.mode now.moves) c.args.id c.in-Some.fault (sym c.in-Some.is ∙ c.fault.ensures)

pub returns-in-None : goal.returns-in-None
returns-in-None c =
    let now = c.args.self.now in
    let inside = c.self.inside in
    let knows = subst (λ (h : Hearing). KnowsSo inside.ended inside.going (mirrored h.mode h.moves)) c.self.view_is c.self.invariant.knows in
    going_shows inside.ended inside.going (mirrored now.mode now.moves) c.args.id _ knows (sym c.in-None.is ∙ c.fault.ensures)
    (λ m going. subst (IsKnown (version_of m.live c.args.id)) (sym c.known.ensures) (known_found c.args.id inside.going.document.live.items m.live going.document.live))
