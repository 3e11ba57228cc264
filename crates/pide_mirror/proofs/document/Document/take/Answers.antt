-- The version is the tip, and live.
use Rattle.std.proofs.Common.{◌∷◌, ◌++◌, [], refl, sym, subst}
use Rattle.pide_mirror.specs.Kept.{AreKept, IsKept}
use Rattle.pide_mirror.proofs.Leaving.{kept_more}
use Rattle.pide_mirror.proofs.document.Document.take.Goals as goal

pub returns-in-Ok-clause-ok : goal.returns-in-Ok-clause-ok
returns-in-Ok-clause-ok c = (
  refl,
  λ m asked image is fits tip live nodes. record {
    buffer = c.commit.ensures;
    live = subst (λ kept. AreKept kept (m.live ++ record { id = c.args.id; version = image } ∷ [])) (sym c.in-Ok.ensures.items)
        (kept_more c.args.self.now.live.items m.live (record { id = c.args.id; known = c.args.both.1 }) (record { id = c.args.id; version = image }) is.live refl live);
    tip = subst (λ k. IsKept k image) (sym c.replace.ensures.after) tip;
    last = c.number-self.ensures.value;
    protocol = is.protocol;
    nodes = nodes;
    below = fits.below;
  },
)
