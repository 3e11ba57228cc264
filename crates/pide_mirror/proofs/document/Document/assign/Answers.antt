-- An update that fits is taken.
use Rattle.std.proofs.Common.{◌≡◌, true, false, Bool, Result, Ok, Err, refl, sym, subst}
use Rattle.std.specs.Prelude.{IfOk, MatchOption}
use Rattle.std.specs.declared.alloc.AllocError.{AllocError}
use Rattle.buffer_rules.specs.Updates.{Asked}
use Rattle.mirror_rules.specs.Images.{Image, Mirror}
use Rattle.mirror_rules.specs.Unexpected.{is_refused, lists_unknown}
use Rattle.mirror_rules.specs.Updates.{buffer_after, image_after, with_tip}
use Rattle.pide_mirror.specs.Kept.{IsKept}
use Rattle.pide_mirror.specs.Knowing.{AssignsSo, FitsUpdate, IsDocument, asked_of}
use Rattle.pide_mirror.proofs.Assigning.{taken_assigns}
use Rattle.pide_mirror.proofs.document.Document.assign.Goals as goal

pub returns-in-Ok-Some-clause-ok : goal.returns-in-Ok-Some-clause-ok
returns-in-Ok-Some-clause-ok c = so c.take.result c.take.ensures.ok
  where
    so : (r : Result Bool AllocError) → IfOk r (λ taken. (taken ≡ true) × ((m : Mirror) (asked : Asked) (image : Image)
        → IsDocument c.args.self.now m → FitsUpdate m c.args.id asked c.in-Some.prepared → IsKept c.in-Ok-Some.both.0 image
        → IsKept c.in-Ok-Some.both.1 image → image.nodes ≡ c.in-Some.prepared.after.nodes
        → IsDocument c.take.new.self (with_tip m c.args.id c.in-Some.prepared.after image)))
        → IfOk r (λ expected. (m : Mirror) → IsDocument c.args.self.now m
        → AssignsSo m c.args.id (asked_of c.args.items.now c.args.blobs.now) c.args.listed.now expected c.take.new.self)
    so (Err error) ok = tt
    so (Ok taken) ok = λ m is.
        let asked = asked_of c.args.items.now c.args.blobs.now in
        let after = c.in-Some.prepared.after in
        let listed = c.args.listed.now in
        let fits = subst (λ o. MatchOption o (is_refused (buffer_after m c.args.id asked) ≡ true) (FitsUpdate m c.args.id asked)) c.in-Some.is (c.in_ok-prepared.ensures m is) in
        let made = subst (λ o. MatchOption o (lists_unknown listed (Ok after) ≡ true) (λ both. (lists_unknown listed (Ok after) ≡ false)
        × IsKept both.0 (image_after m.tip listed after) × IsKept both.1 (image_after m.tip listed after)))
        c.in-Ok-Some.field-0-is (c.in-Ok-Some.ensures m c.args.id asked is fits) in
        subst (λ b. AssignsSo m c.args.id asked listed b c.take.new.self) (sym ok.0)
        (taken_assigns m c.args.id asked listed c.take.new.self after fits.prepared made.0 (ok.1 m asked (image_after m.tip listed after) is fits made.1 made.2 refl))
