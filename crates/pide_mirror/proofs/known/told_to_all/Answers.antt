-- One version more has what is told.
use Rattle.std.proofs.Common.{◌≡◌, ◌∷◌, List, ◌-◌, Bool, length, take, drop, subst, sym}
use Rattle.std.specs.Prelude.{◌||◌}
use Rattle.text_words.proofs.KnownLists.{first_and_rest}
use Rattle.pide_mirror.specs.Tables.{as_report}
use Rattle.pide_mirror.specs.declared.known.LiveVersion.{LiveVersion}
use Rattle.pide_mirror.proofs.Keeping.{AreTold, live_more}
use Rattle.pide_mirror.proofs.known.told_to_all.Goals as goal
use Rattle.pide_mirror.proofs.known.told_to_all.Goals.{then-taken, else-taken}

pub versions-preserved : goal.versions-preserved
versions-preserved c = λ images kept.
    let told = as_report c.args.told.now in
    let rest = c.versions.rest.now in
    let one : LiveVersion = c.one-item.result in
    let split : rest ≡ one ∷ drop 1 rest = first_and_rest rest one c.in-len1-up.len_at_least c.one-item.is in
    let taken : (c.versions.taken || c.in_ok-made.made.taken) ≡ c.if-taken.taken
    = elim c.if-taken.branch [ then-taken w ↦ cc | else-taken w ↦ cc ] in
    let more = live_more told rest one c.versions.all.items c.versions.taken c.in_ok-made.made.taken c.in_ok-made.made.known images split
    c.in_ok-made.ensures.known c.in_ok-made.ensures.taken (c.versions.invariant images kept) in
    subst (λ (b : Bool). AreTold told (take (length rest - 1) (drop 1 rest)) c.push.new.self.items b images) taken
    (subst (λ (all : List LiveVersion). AreTold told (take (length rest - 1) (drop 1 rest)) all (c.versions.taken || c.in_ok-made.made.taken) images) (sym c.in_ok-push.ensures.items) more)
