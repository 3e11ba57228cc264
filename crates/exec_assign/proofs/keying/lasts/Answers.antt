use Rattle.std.proofs.Common.{List, None, map, take, [], ◌∷◌, ◌++◌, sym, ap, ◌∙◌}
use Rattle.exec_rules.specs.declared.key.Last.{Last}
use Rattle.exec_rules.specs.Keys.{aimed}
use Rattle.exec_assign.proofs.KeyLemmas.{map_more}
use Rattle.exec_assign.proofs.keying.lasts.Goals as goal

pub imports-preserved : goal.imports-preserved
imports-preserved c = λ done are.
    c.in_ok-push.ensures.items
    ∙ ap (λ (ls : List Last). ls ++ c.aimed.result ∷ []) (c.imports.invariant done are)
    ∙ ap (λ (x : Last). map (aimed c.args.nodes.now done) (take c.imports.aim-index c.args.aims.now) ++ x ∷ []) (c.aimed.ensures done are)
    ∙ sym (map_more (aimed c.args.nodes.now done) c.args.aims.now c.imports.aim-index None c.imports-test.true)
