use Rattle.std.proofs.Common.{rules, ◌≡◌, true, refl}
use Rattle.std.specs.Option.{is_some}
use Rattle.shared_map.specs.Pairs.{found}
use Rattle.doc_nodes.specs.Names.{in_order}
use Rattle.editor_buffer.proofs.DraftLemmas.{drafted_without_so}
use Rattle.editor_buffer.proofs.HeaderLemmas.{gone_changes}
use Rattle.editor_buffer.proofs.draft.Draft.without_node.Goals as goal

pub returns-clause-drafted : goal.returns-clause-drafted
returns-clause-drafted c = λ tip all.
    drafted_without_so tip c.args.self.opened c.remove.new.self c.args.self.nodes c.remove-2.new.self c.args.name.now
    c.in_ok-remove.ensures.ok c.in_ok-remove-2.ensures.ok all

pub returns-clause-headers : goal.returns-clause-headers
returns-clause-headers c = λ tip all.
    let there : is_some (found in_order c.args.name.now c.args.self.opened) ≡ true = search rules in
    (refl, gone_changes tip c.args.self.opened c.args.self.nodes c.remove-2.new.self c.args.name.now all there c.in_ok-remove-2.ensures.ok)
