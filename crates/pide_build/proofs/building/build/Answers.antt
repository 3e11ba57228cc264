-- The batches are those of all nodes, each of which is done once.
use Rattle.std.proofs.Common.{rules, ◌≡◌, ◌<◌, ℕ, List, [], length, get_or, All, IsPermutation, None, refl, sym, ap, subst, ◌∙◌, arith}
use Rattle.std.specs.Prelude.{slice_get}
use Rattle.std.specs.List.{concat, filter_map}
use Rattle.text_words.specs.Members.{has}
use Rattle.std.proofs.lemmas.List.{get_or_default}
use Rattle.std.proofs.lemmas.List.Sorted.{IsPermutation-refl}
use Rattle.text_words.proofs.KnownMembers.{has_at}
use Rattle.doc_nodes.specs.Imports.{order}
use Rattle.pide_build.specs.Batches.{AreBatches}
use Rattle.pide_build.specs.Cutting.{cut_all}
use Rattle.pide_build.proofs.KnownCut.{as_many}
use Rattle.pide_build.proofs.AllBatches.{all_kept, all_taken, are_built, one_batch, within_batch}
use Rattle.pide_build.proofs.Whole.{batches_same, order_same}
use Rattle.pide_build.proofs.building.build.Goals as goal

pub batches-init : goal.batches-init
batches-init g c = (
  [],
  c.in_ok-kept.ensures g.L.Language.lang g.T.Telling.told (cut_all c.args.nodes.now) (as_many c.args.nodes.now c.requires ∙ search rules),
  refl,
  subst (IsPermutation []) (sym c.in_ok-taken.ensures.items) (IsPermutation-refl []),
)

pub check-requires-clause-ready : goal.check-requires-clause-ready
check-requires-clause-ready g c κs within =
    let nodes = c.args.nodes.now in let batches = c.deref-batch-items.result.now in let i = c.batches.batch-index in
    let are = subst (AreBatches nodes) (sym c.deref-batch-items.ensures.value) c.in_ok-batches.ensures in
    let join : concat batches ≡ order nodes = c.batches_law.ensures.join nodes batches are in
    let here = c.as_slice.ensures ∙ c.batch-item.is ∙ get_or_default batches i c.batch-item.result [] c.batches-test.true in
    record {
      uncut = c.requires;
      graph_is = c.in_ok-graph.ensures;
      aliases_are = λ p lt. ap (λ xs. slice_get xs p) c.deref.ensures.value ∙ c.in_ok-aliases.ensures.each p lt;
      within = subst (All (λ p. p < length nodes)) (sym here)
          (within_batch (length nodes) (order nodes) batches i join (c.order_law.ensures.every nodes) c.batches-test.true);
    }

pub check-requires-clause-states : goal.check-requires-clause-states
check-requires-clause-states g c κs within = c.batches.invariant.1.states ∙ as_many c.args.nodes.now c.requires

pub check-requires-clause-told : goal.check-requires-clause-told
check-requires-clause-told g c κs within = c.batches.invariant.1.tellings ∙ as_many c.args.nodes.now c.requires

pub batches-preserved : goal.batches-preserved
batches-preserved g c =
    let nodes = c.args.nodes.now in let batches = c.deref-batch-items.result.now in
    let here = c.as_slice.ensures ∙ c.batch-item.is ∙ get_or_default batches c.batches.batch-index c.batch-item.result [] c.batches-test.true in
    one_batch g.L.Language.lang g.T.Telling.told (cut_all nodes) batches c.batches.batch-index c.as_slice.result.now c.batches.kept c.check.new.kept
    c.batches.taken.items c.check.new.taken.items c.batches-test.true here c.in_ok-check.ensures.kept c.in_ok-check.ensures.taken c.batches.invariant

pub gathered-requires-clause-within : goal.gathered-requires-clause-within
gathered-requires-clause-within g c = λ k d lt.
    let nodes = c.args.nodes.now in
    let same : c.order.result.now ≡ order nodes = c.order.ensures ∙ c.in_ok-graph.ensures.order_is in
    let few = (c.order_law.ensures.every nodes (get_or c.order.result.now k d)).0
    (ap (λ xs. has xs (get_or c.order.result.now k d)) (sym same) ∙ has_at c.order.result.now k d lt) in
    let long = c.batches.invariant.1.tellings in let many = as_many nodes c.requires in omega arith

pub returns-clause-nodes : goal.returns-clause-nodes
returns-clause-nodes g c =
    let l = g.L.Language.lang in let told = g.T.Telling.told in let nodes = c.args.nodes.now in let whole = cut_all nodes in
    let batches = c.deref-batch-items.result.now in let i = c.batches.batch-index in
    let are = subst (AreBatches nodes) (sym c.deref-batch-items.ensures.value) c.in_ok-batches.ensures in
    let same : c.order.result.now ≡ order whole = c.order.ensures ∙ c.in_ok-graph.ensures.order_is ∙ order_same nodes c.requires in
    let kept = all_kept l told whole batches i c.batches.kept c.batches.taken.items c.batches-test.false
    (c.scratch_law.ensures whole [] batches (batches_same nodes c.requires batches are)) c.batches.invariant in
    c.in_ok-nodes.ensures ∙ ap (filter_map (λ p. get_or c.batches.kept.told.items p None)) same
    ∙ are_built l told whole batches c.batches.kept kept (λ p here. (c.order_law.ensures.every whole p).0 here)

pub returns-clause-once : goal.returns-clause-once
returns-clause-once g c =
    let nodes = c.args.nodes.now in let whole = cut_all nodes in let batches = c.deref-batch-items.result.now in
    let are = subst (AreBatches nodes) (sym c.deref-batch-items.ensures.value) c.in_ok-batches.ensures in
    subst (λ ps. IsPermutation ps c.batches.taken.items) (sym (order_same nodes c.requires))
    (all_taken g.L.Language.lang g.T.Telling.told whole batches c.batches.batch-index c.batches.kept c.batches.taken.items c.batches-test.false
    (c.batches_law.ensures.join whole batches (batches_same nodes c.requires batches are)) c.batches.invariant)
