use Rattle.std.proofs.Common.{◌≡◌, List, Some, ◌++◌, false, true, set, sym, ap, subst, ◌∙◌, arith, rules}
use Rattle.std.specs.Prelude.{slice_get}
use Rattle.std.proofs.lemmas.Option.{slice_get_within}
use Rattle.doc_nodes.specs.Imports.{NodeList}
use Rattle.exec_rules.specs.declared.row.Assigned.{Assigned}
use Rattle.exec_rules.specs.Keys.{key_of}
use Rattle.exec_rules.specs.Assigning.{Update}
use Rattle.exec_assign.specs.Found.{AreAssigned}
use Rattle.exec_assign.specs.Standing.{Stands}
use Rattle.exec_assign.proofs.ProgressLemmas.{work_by, work_given, work_standing, limit_given}
use Rattle.exec_assign.proofs.update.Update.assign_one.Goals as goal

pub returns-in-Some-standing-clause-ok : goal.returns-in-Some-standing-clause-ok
returns-in-Some-standing-clause-ok g c = λ work is.
    let u : Update = c.args.self.now in
    let node = c.in-Some.node.now in
    let old : Assigned = c.in-Some-standing.old.now in
    let nodes : c.self.inside.nodes.now ≡ u.nodes = ap (λ (v : Update). v.nodes) c.self.view_is in
    let at : slice_get u.nodes c.args.place ≡ Some (c.in-Some.name.now, node) = search rules in
    let are = subst (λ (all : List Assigned). AreAssigned all work.done) (sym c.deref.ensures.value) is.are in
    let key : c.in_ok-key.key ≡ key_of u.nodes work.done node = c.in_ok-key.ensures work.done are ∙ ap (λ (ns : NodeList). key_of ns work.done node) nodes in
    let stands : Stands u c.args.place (c.in-Some.name.now, node) c.in_ok-key.key old = c.in-Some-standing.ensures in
    work_by u c.keep.new.self.all.items (set c.args.progress.now.all.items c.args.place old) c.keep.new.self.homes.items c.args.progress.now.homes.items c.keep.new.self.next c.args.progress.now.next c.keep.new.self.standing.items (set c.args.progress.now.standing.items c.args.place true) _
    (c.keep.ensures.all ∙ ap (set c.args.progress.now.all.items c.args.place) c.in_ok-copy.ensures) c.keep.ensures.homes c.keep.ensures.next c.keep.ensures.standing
    (work_standing u c.args.progress.now.all.items c.args.progress.now.homes.items c.args.progress.now.next c.args.progress.now.standing.items work c.args.place (c.in-Some.name.now, node)
    is at (slice_get_within u.nodes c.args.place _ at) old c.in_ok-key.key key stands)

pub returns-in_err-given-clause-limit : goal.returns-in_err-given-clause-limit
returns-in_err-given-clause-limit g c = λ work is fault.
    let u : Update = c.args.self.now in
    let node = c.in-Some.node.now in
    let nodes : c.self.inside.nodes.now ≡ u.nodes = ap (λ (v : Update). v.nodes) c.self.view_is in
    let at : slice_get u.nodes c.args.place ≡ Some (c.in-Some.name.now, node) = search rules in
    let are = subst (λ (all : List Assigned). AreAssigned all work.done) (sym c.deref.ensures.value) is.are in
    let key : c.in_ok-key.key ≡ key_of u.nodes work.done node = c.in_ok-key.ensures work.done are ∙ ap (λ (ns : NodeList). key_of ns work.done node) nodes in
    limit_given u c.args.progress.now.all.items c.args.progress.now.homes.items c.args.progress.now.next c.args.progress.now.standing.items work c.args.place (c.in-Some.name.now, node)
    is at (slice_get_within u.nodes c.args.place _ at) c.in_ok-key.key key (c.in_err-given.ensures.limit (search rules))

pub give-requires-clause-all : goal.give-requires-clause-all
give-requires-clause-all g c =
    let at : slice_get c.args.self.now.nodes c.args.place ≡ Some (c.in-Some.name.now, c.in-Some.node.now) = search rules in
    omega (arith, c.requires.all, slice_get_within c.args.self.now.nodes c.args.place _ at)

pub give-requires-clause-standing : goal.give-requires-clause-standing
give-requires-clause-standing g c =
    let at : slice_get c.args.self.now.nodes c.args.place ≡ Some (c.in-Some.name.now, c.in-Some.node.now) = search rules in
    omega (arith, c.requires.standing, slice_get_within c.args.self.now.nodes c.args.place _ at)

pub returns-clause-ok : goal.returns-clause-ok
returns-clause-ok g c = λ work is.
    let u : Update = c.args.self.now in
    let node = c.in-Some.node.now in
    let given = c.in_ok-given.given in
    let nodes : c.self.inside.nodes.now ≡ u.nodes = ap (λ (v : Update). v.nodes) c.self.view_is in
    let at : slice_get u.nodes c.args.place ≡ Some (c.in-Some.name.now, node) = let known = c.in-Some.ensures in cc in
    let are = subst (λ (all : List Assigned). AreAssigned all work.done) (sym c.deref.ensures.value) is.are in
    let key : c.in_ok-key.key ≡ key_of u.nodes work.done node = c.in_ok-key.ensures work.done are ∙ ap (λ (ns : NodeList). key_of ns work.done node) nodes in
    work_by u c.give.new.self.all.items (set c.args.progress.now.all.items c.args.place given.assigned) c.give.new.self.homes.items (c.args.progress.now.homes.items ++ given.homes) c.give.new.self.next given.next _
    (set c.args.progress.now.standing.items c.args.place false) _
    c.in_ok-give.ensures.all c.in_ok-give.ensures.homes c.in_ok-give.ensures.next c.in_ok-give.ensures.standing
    (work_given u c.args.progress.now.all.items c.args.progress.now.homes.items c.args.progress.now.next c.args.progress.now.standing.items work c.args.place (c.in-Some.name.now, node)
    is at (slice_get_within u.nodes c.args.place _ at) given c.in_ok-key.key key c.in_ok-given.ensures.ok c.in_ok-given.ensures.within)
