-- What fits is the next round; what is left at the end are the nodes that are not ordered.
use Rattle.std.proofs.Common.{◌≡◌, ◌||◌, true, false, [], ◌∷◌, ◌++◌, refl, sym, ap, subst, ◌∙◌, append_assoc, append-nil, rules, arith}
use Rattle.std.proofs.lemmas.List.{length-map}
use Rattle.text_words.specs.Members.{has}
use Rattle.doc_nodes.specs.Rounds.{round}
use Rattle.doc_nodes.specs.Looks.{AreMarks}
use Rattle.text_words.proofs.KnownMembers.{has_both}
use Rattle.doc_nodes.specs.Imports.{aims, aims_of}
use Rattle.pide_build.specs.Batches.{AreRounds, begins_by}
use Rattle.pide_build.proofs.Rounds.{within}
use Rattle.pide_build.proofs.Steps.{cut_at, ended}
use Rattle.pide_build.proofs.batches.batches_of.Goals as goal

pub with_marks-marks-requires : goal.with_marks-marks-requires
with_marks-marks-requires c =
    let nodes = c.args.nodes.now in let graph = c.args.graph.now in let inv = c.rounds.invariant in
    let first : begins_by graph.marks c.rounds.rest.now ≡ true = search rules in
    let are = subst (λ m. AreMarks m inv.0) (sym c.deref.ensures.value) inv.4 in
    let cut =
    cut_at nodes graph c.requires inv.0 inv.1 c.rounds.rest.now inv.2 inv.3 c.deref.result.now are c.fitting.result
    first c.fitting.ensures.within.0 c.fitting.ensures.within.1 c.fitting.ensures.fit c.fitting.ensures.stop in
    let is = c.split_at.ensures.front ∙ cut.1.now in
    λ p h.
    let one = within (aims nodes) inv.0 p (ap (λ xs. has xs p) (sym is) ∙ h) in
    let long = length-map nodes (λ pair. aims_of nodes pair.1) in let same = inv.5 in
    omega arith

pub rounds-preserved : goal.rounds-preserved
rounds-preserved c =
    let nodes = c.args.nodes.now in let graph = c.args.graph.now in let inv = c.rounds.invariant in
    let first : begins_by graph.marks c.rounds.rest.now ≡ true = search rules in
    let are = subst (λ m. AreMarks m inv.0) (sym c.deref.ensures.value) inv.4 in
    let cut =
    cut_at nodes graph c.requires inv.0 inv.1 c.rounds.rest.now inv.2 inv.3 c.deref.result.now are c.fitting.result
    first c.fitting.ensures.within.0 c.fitting.ensures.within.1 c.fitting.ensures.fit c.fitting.ensures.stop in
    let is = c.split_at.ensures.front ∙ cut.1.now in
    let front = inv.0 in let now = round (aims nodes) front in let all = c.rounds.all.items in
    let item = c.in_ok-from_slice.field-0 in
    let pushed : c.push.new.self.items ≡ all ++ item ∷ [] = search rules in
    let item_is : item ≡ now = c.in_ok-from_slice.ensures ∙ is in (
      front ++ now,
      cut.0,
      cut.1.stands,
      c.split_at.ensures.back ∙ cut.1.later_is,
      (λ p.
          c.with_marks-marks.ensures.marked p ∙ ap (λ b. b || has c.split_at.result.0.now p) (inv.4 p)
          ∙ ap (λ xs. has front p || has xs p) is ∙ sym (has_both front now p)),
      c.with_marks-marks.ensures.length ∙ inv.5,
      λ later are.
          let more = inv.6 (now ∷ later) (refl, cut.1.some, are) in
          let same = sym (append_assoc all (now ∷ []) later) ∙ ap (λ x. (all ++ x ∷ []) ++ later) (sym item_is)
          ∙ ap (λ xs. xs ++ later) (sym pushed) in
          subst (AreRounds (aims nodes) []) same more,
    )

pub returns : goal.returns
returns c =
    let nodes = c.args.nodes.now in let graph = c.args.graph.now in let inv = c.rounds.invariant in
    let first : begins_by graph.marks c.rounds.rest.now ≡ false = search rules in
    let end = ended nodes graph c.requires inv.0 inv.1 c.rounds.rest.now inv.2 inv.3 first in
    let all = c.rounds.all.items in let item = c.in_ok-from_slice-2.field-0 in
    let pushed : c.push-2.new.self.items ≡ all ++ item ∷ [] = search rules in
    record {
      rounds = all;
      are = subst (AreRounds (aims nodes) []) (append-nil all) (inv.6 [] end.0);
      all = pushed ∙ ap (λ x. all ++ x ∷ []) (c.in_ok-from_slice-2.ensures ∙ end.1);
    }
