use Rattle.std.proofs.Common.{◌≡◌, ◌+◌, ◌-◌, ◌<◌, take, length, get_or, sym, ap, ◌∙◌, arith, length-take}
use Rattle.doc_nodes.specs.Prefix.{wanted_prefix}
use Rattle.doc_nodes.proofs.PrefixLemmas.{prefix_hidden, prefix_visible}
use Rattle.std.proofs.lemmas.List.{take_more}
use Rattle.doc_nodes.proofs.prefix.wanted_prefix.Goals as goal

pub hidden-preserved : goal.hidden-preserved
hidden-preserved c =
    let n = c.hidden.count - 1 in
    let es = c.args.entries.now in
    let here : n < length es = omega arith in
    let count : c.hidden.count ≡ n + 1 = omega arith in
    let e = c.index-entries-count.result in
    record {
      within = omega arith;
      same =
          sym (prefix_hidden (take n es) (get_or es n e) c.if-not-entries-count.true)
          ∙ ap wanted_prefix (sym (take_more es n e here) ∙ ap (λ k. take k es) (sym count))
          ∙ c.hidden.invariant.same;
    }

pub returns-else-not-entries-count : goal.returns-else-not-entries-count
returns-else-not-entries-count c =
    let n = c.hidden.count - 1 in
    let es = c.args.entries.now in
    let here : n < length es = omega arith in
    let count : c.hidden.count ≡ n + 1 = omega arith in
    let e = c.index-entries-count.result in
    let front : n + 1 ≡ length (take n es) + 1 = omega (arith, length-take n es) in
    count
    ∙ front
    ∙ sym (prefix_visible (take n es) (get_or es n e) c.if-not-entries-count.false)
    ∙ ap wanted_prefix (sym (take_more es n e here) ∙ ap (λ k. take k es) (sym count))
    ∙ c.hidden.invariant.same
