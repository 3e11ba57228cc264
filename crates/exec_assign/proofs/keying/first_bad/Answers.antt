use Rattle.std.proofs.Common.{◌≡◌, false, true, [], Some, None, sym, ap, ◌∙◌, get_or}
use Rattle.std.specs.Prelude.{not}
use Rattle.std.proofs.lemmas.List.{get_or-map}
use Rattle.doc_nodes.specs.Rounds.{is_known}
use Rattle.doc_nodes.specs.Imports.{place_of, ordered_places, is_bad}
use Rattle.exec_assign.proofs.KeyLemmas.{find_past, find_here}
use Rattle.exec_assign.proofs.keying.first_bad.Goals as goal

pub imports-preserved : goal.imports-preserved
imports-preserved c =
    let nodes = c.args.nodes.now in
    let here : is_bad nodes (get_or c.args.imports.now c.imports.place []) ≡ false =
    ap (λ aim. not (is_known (ordered_places nodes) aim)) (sym (get_or-map (place_of nodes) c.args.imports.now c.imports.place [] None c.imports-test.true))
    ∙ ap (λ aims. not (is_known (ordered_places nodes) (get_or aims c.imports.place None)))
    (sym c.requires.aims)
    ∙ sym c.is_bad_aim.ensures ∙ c.if-is_bad_aim.false in
    find_past (is_bad nodes) c.args.imports.now c.imports.place [] c.imports-test.true here ∙ c.imports.invariant

pub returns-then-is_bad_aim : goal.returns-then-is_bad_aim
returns-then-is_bad_aim c =
    let nodes = c.args.nodes.now in
    let found = c.index-imports-place.result in
    let here : is_bad nodes (get_or c.args.imports.now c.imports.place found) ≡ true =
    ap (λ aim. not (is_known (ordered_places nodes) aim)) (sym (get_or-map (place_of nodes) c.args.imports.now c.imports.place found None c.imports-test.true))
    ∙ ap (λ aims. not (is_known (ordered_places nodes) (get_or aims c.imports.place None)))
    (sym c.requires.aims)
    ∙ sym c.is_bad_aim.ensures ∙ c.if-is_bad_aim.true in
    ap (λ name. Some name) c.index-imports-place.is
    ∙ sym (find_here (is_bad nodes) c.args.imports.now c.imports.place found c.imports-test.true here)
    ∙ c.imports.invariant
