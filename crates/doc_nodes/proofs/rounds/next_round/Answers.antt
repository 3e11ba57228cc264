use Rattle.std.proofs.Common.{◌<◌, ◌≡◌, get_or, length, true, [], sym, subst, ◌∙◌, inl, inr, arith, rules}
use Rattle.std.proofs.lemmas.Bool.{cases_lt}
use Rattle.std.proofs.lemmas.List.{get_or_default}
use Rattle.doc_nodes.specs.Looks.{IsDue}
use Rattle.text_words.specs.Members.{has}
use Rattle.doc_nodes.specs.Importers.{list_at}
use Rattle.text_words.proofs.KnownMembers.{has_at, has_contained}
use Rattle.doc_nodes.proofs.KnownSteps.{sound_all}
use Rattle.doc_nodes.proofs.RoundLemmas.{round_is, due_imports}
use Rattle.doc_nodes.proofs.rounds.next_round.Goals as goal

pub bounds-importers-place : goal.bounds-importers-place
bounds-importers-place c = omega (arith, c.requires.importers.as_many, c.requires.last _ (has_at c.args.last.now c.last.place-index 0 (omega arith)))

pub offset_bounds-importers-place : goal.offset_bounds-importers-place
offset_bounds-importers-place c =
    let within : get_or c.args.last.now c.last.place-index 0 < length c.args.importers.now = omega (arith, c.requires.importers.as_many, c.requires.last _ (has_at c.args.last.now c.last.place-index 0 (omega arith))) in
    search rules

pub offer_all-requires-clause-nodes : goal.offer_all-requires-clause-nodes
offer_all-requires-clause-nodes c = λ p h.
    let within : get_or c.args.last.now c.last.place-index 0 < length c.args.importers.now = omega (arith, c.requires.importers.as_many, c.requires.last _ (has_at c.args.last.now c.last.place-index 0 (omega arith))) in
    let list : c.as_slice.result.now ≡ list_at c.args.importers.now (get_or c.args.last.now c.last.place-index 0) =
    c.as_slice.ensures ∙ c.index-importers-place.is ∙ get_or_default _ _ _ [] within in
    c.requires.importers.within _ p (subst (λ xs. has xs p ≡ true) list h)

pub last-preserved : goal.last-preserved
last-preserved c =
    let within : get_or c.args.last.now c.last.place-index 0 < length c.args.importers.now = omega (arith, c.requires.importers.as_many, c.requires.last _ (has_at c.args.last.now c.last.place-index 0 (omega arith))) in
    let list : c.as_slice.result.now ≡ list_at c.args.importers.now (get_or c.args.last.now c.last.place-index 0) =
    c.as_slice.ensures ∙ c.index-importers-place.is ∙ get_or_default _ _ _ [] within in
    let offered = c.in_ok-offer_all.ensures.offered in
    record {
      scanned = c.in_ok-offer_all.ensures.scanned;
      added = λ k i lt h due. elim (cases_lt k c.last.place-index) [
        | inl less ↦ offered.kept i (c.last.invariant.added k i less h due)
        | inr at_least ↦
            let same : k ≡ c.last.place-index = omega arith in
            offered.added i (subst (λ xs. has xs i ≡ true) (sym list) (subst (λ n. has (list_at c.args.importers.now (get_or c.args.last.now n 0)) i ≡ true) same h)) due
      ];
      sound = sound_all (IsDue c.args.rows.now c.args.marks.now) _ _ c.last.invariant.sound offered.sound;
    }

pub returns-clause-round : goal.returns-clause-round
returns-clause-round c = λ ordered are is. round_is c.args.rows.now c.args.marks.now _ are c.in_order.result.items c.in_order.ensures.rises
    (λ p h. c.last.invariant.sound p (sym (c.in_order.ensures.same p) ∙ h))
    (λ p due.
    let i = due_imports c.args.rows.now c.args.marks.now ordered c.args.last.now are is p due in
    let k = has_contained c.args.last.now i.1 i.4 in
    let place : get_or c.args.last.now k.0 0 ≡ i.1 = get_or_default c.args.last.now k.0 0 i.1 k.1 ∙ k.2 in
    let imports = c.requires.importers.complete p i.0 i.1 due.in_range i.2 i.3 (c.requires.last i.1 i.4) in
    c.in_order.ensures.same p
    ∙ c.last.invariant.added k.0 p (omega (arith, k.1)) (subst (λ n. has (list_at c.args.importers.now n) p ≡ true) (sym place) imports) due)
