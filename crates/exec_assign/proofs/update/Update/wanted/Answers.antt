use Rattle.std.proofs.Common.{◌≡◌, ◌+◌, length, get_or, ap, ◌∙◌, arith}
use Rattle.std.proofs.lemmas.List.FromFn.{length-map-range_with_len, get_or-map-range_with_len}
use Rattle.doc_nodes.specs.Wanted.{wanted_at, wanted_counts}
use Rattle.exec_rules.specs.Assigning.{Update}
use Rattle.exec_assign.proofs.update.Update.wanted.Goals as goal

pub index-requires : goal.index-requires
index-requires g c =
    let at = c.args.self.now.nodes in
    let nodes : c.self.inside.nodes.now ≡ at = ap (λ (u : Update). u.nodes) c.self.view_is in
    let long : length c.self.inside.wanted.items ≡ length (wanted_counts at) = ap length (c.self.invariant.wanted_are ∙ ap wanted_counts nodes) in
    omega (arith, long, length-map-range_with_len (wanted_at at) 0 (length at), c.requires)

pub returns : goal.returns
returns g c =
    let at = c.args.self.now.nodes in
    let nodes : c.self.inside.nodes.now ≡ at = ap (λ (u : Update). u.nodes) c.self.view_is in
    let same : 0 + c.args.place ≡ c.args.place = omega arith in
    c.index.ensures
    ∙ ap (λ ws. get_or ws c.args.place c.index.result.now) (c.self.invariant.wanted_are ∙ ap wanted_counts nodes)
    ∙ get_or-map-range_with_len (wanted_at at) 0 (length at) c.args.place c.args.place c.index.result.now c.requires same
