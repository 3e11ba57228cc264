use Rattle.std.proofs.Common.{◌≡◌, ◌<◌, ℕ, List, length, get_or, sym, ap, subst, ◌∙◌, arith}
use Rattle.doc_nodes.specs.Imports.{order}
use Rattle.doc_nodes.specs.declared.inherited.NodeAliases.{NodeAliases}
use Rattle.doc_nodes.specs.Known.{AreKnown}
use Rattle.doc_nodes.proofs.WantedLemmas.{order_within}
use Rattle.doc_nodes.proofs.FoldLemmas.{turn_step, turn_over}
use Rattle.doc_nodes.proofs.inherited.aliases_of.Goals as goal

pub index_mut-requires : goal.index_mut-requires
index_mut-requires c =
    let same : c.order-place-items.result.now ≡ order c.args.nodes.now = c.order-place-items.ensures ∙ c.requires.order_is in
    let within : c.places.place-index < length (order c.args.nodes.now) = subst (λ (ps : List ℕ). c.places.place-index < length ps) same c.places-test.true in
    let place : get_or c.order-place-items.result.now c.places.place-index 0 ≡ get_or (order c.args.nodes.now) c.places.place-index 0 = ap (λ (ps : List ℕ). get_or ps c.places.place-index 0) same in
    omega (arith, place, c.places.invariant.len, order_within c.args.nodes.now c.places.place-index within)

pub places-preserved : goal.places-preserved
places-preserved c =
    let same : c.order-place-items.result.now ≡ order c.args.nodes.now = c.order-place-items.ensures ∙ c.requires.order_is in
    let len : length c.places.all.items ≡ length c.args.nodes.now = sym (ap length c.deref.ensures.value) ∙ c.deref.ensures.len ∙ c.places.invariant.len in
    let found = c.places.invariant.found in
    record {
      len = c.places.invariant.len;
      found = turn_step c.args.nodes.now c.order-place-items.result.now c.places.all.items found.0 c.places.place-index c.replace.new.dest same len c.places-test.true found.1
          (c.replace.ensures.after ∙ c.in_ok-found.ensures found.0 (subst (λ (all : List NodeAliases). AreKnown all found.0) (sym c.deref.ensures.value) found.1))
          found.2;
    }

pub returns-clause-each : goal.returns-clause-each
returns-clause-each c = λ p lt.
    let same : c.order-place-items.result.now ≡ order c.args.nodes.now = c.order-place-items.ensures ∙ c.requires.order_is in
    let found = c.places.invariant.found in
    let within : p < length c.places.all.items = omega (arith, c.places.invariant.len, c.places.all.ok) in
    turn_over c.args.nodes.now c.order-place-items.result.now c.places.all.items found.0 c.places.place-index same c.places-test.false found.1 found.2 p within
