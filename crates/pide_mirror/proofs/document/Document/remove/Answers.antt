-- The others stay.
use Rattle.std.proofs.Common.{rules, not, sym, subst}
use Rattle.std.specs.Prelude.{◌==◌, filter}
use Rattle.std.specs.List.{list_any}
use Rattle.std.proofs.lemmas.Fn.{filter_same}
use Rattle.pide_mirror.specs.Kept.{AreKept}
use Rattle.pide_mirror.proofs.Leaving.{kept_left}
use Rattle.pide_mirror.proofs.document.Document.remove.Goals as goal

pub returns : goal.returns
returns c = λ m is.
    let ids = c.args.ids.now in
    let left = filter_same _ (λ one. not (list_any (λ id. id == one.id) ids)) _ (λ x b f' r. search rules) _ _ c.retain.ensures.filtered in
    record {
      buffer = is.buffer;
      live = subst (λ kept. AreKept kept (filter (λ one. not (list_any (λ id. id == one.id) ids)) m.live)) (sym left) (kept_left ids c.args.self.now.live.items m.live is.live);
      tip = is.tip;
      last = is.last;
      protocol = is.protocol;
      nodes = is.nodes;
      below = is.below;
    }
