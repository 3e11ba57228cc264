use Rattle.std.proofs.Common.{rules, sym, ap}
use Rattle.std.specs.Prelude.{◌==◌, not}
use Rattle.std.specs.List.{list_any}
use Rattle.std.specs.Option.{option_map_or}
use Rattle.std.proofs.lemmas.Fn.{filter_same}
use Rattle.core_tables.proofs.Newest.{newest_kept}
use Rattle.core_tables.proofs.versions.Versions.remove.Goals as goal

pub returns-clause-live : goal.returns-clause-live
returns-clause-live g c =
    rw (← c.self.view_is) (filter_same _ (λ live. not (list_any (λ id. id == live.id) c.args.ids.now)) _ (λ x b f' r. search rules) _ _ c.retain.ensures.filtered)

pub returns-clause-tip : goal.returns-clause-tip
returns-clause-tip g c =
    let kept = filter_same _ (λ live. not (list_any (λ id. id == live.id) c.args.ids.now)) _ (λ x b f' r. search rules) _ _ c.retain.ensures.filtered in
    let others = sym (rw (← c.self.view_is) at c.if-names_tip.ensures) in
    rw (← c.self.view_is, kept) (ap (λ o. option_map_or (λ live. live.version) o c.self.inside.start) (newest_kept c.self.inside.live.items c.args.ids.now others))
