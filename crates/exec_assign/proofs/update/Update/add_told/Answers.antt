use Rattle.std.proofs.Common.{◌≡◌, ℕ, List, ◌++◌, true, map, sym, ap, ◌∙◌, append-nil, rules}
use Rattle.std.proofs.lemmas.List.{map_push}
use Rattle.std.specs.Prelude.{slice_get, Some}
use Rattle.exec_rules.specs.Listed.{Told}
use Rattle.exec_assign.specs.Told.{told_node}
use Rattle.exec_assign.proofs.ListLemmas.{none_told, told_added}
use Rattle.exec_assign.proofs.update.Update.add_told.Goals as goal

pub returns-then-has_stood : goal.returns-then-has_stood
returns-then-has_stood g c = λ pair at.
    let all = map told_node c.args.all.now.items in
    let marks = sym c.has_stood.ensures ∙ c.if-has_stood.true in
    sym (append-nil all)
    ∙ ap (λ (rest : List (List ℕ × List Told)). all ++ rest)
    (sym (none_told c.args.self.now c.args.made.now.assigned c.args.place pair (c.requires c.args.place pair marks at)))

pub returns : goal.returns
returns g c = λ pair at.
    let here : slice_get c.args.self.now.nodes c.args.place ≡ Some (c.in-Some.name.now, c.in-Some.node.now) = search rules in
    let same : (c.in-Some.name.now, c.in-Some.node.now) ≡ pair = cc in
    let other : c.is_told_otherwise.result ≡ true = search rules in
    told_added c.args.self.now c.args.made.now.assigned c.args.place pair c.in-Some.name.now c.in-Some.node.now c.rows_at-rows.result.now
    (told_node c.in_ok-told.told) (map told_node c.args.all.now.items) (map told_node c.push.new.self.items)
    same c.rows_at-rows.ensures c.in_ok-told.ensures (sym c.is_told_otherwise.ensures ∙ other)
    (ap (map told_node) c.in_ok-push.ensures.items ∙ map_push told_node c.args.all.now.items c.in_ok-told.told)
