use Rattle.std.proofs.Common.{rules, ◌≡◌, ◌<◌, ℕ, true, false, Some, List, map, sym, ◌∙◌, subst, eqb, Option}
use Rattle.std.specs.Prelude.{is_some}
use Rattle.std.specs.Cmp.{nat_eq_equiv}
use Rattle.std.specs.List.{All}
use Rattle.std.specs.Option.{IfSome}
use Rattle.std.specs.Map.Iter.{deref_pair}
use Rattle.std.proofs.lemmas.List.Elements.{All-map}
use Rattle.std.proofs.lemmas.Map.Entries.{All-lookup}
use Rattle.std.proofs.lemmas.Map.Iter.{hash_map_turn, iter_end}
use Rattle.pide_base.specs.declared.part.Part.{Part}
use Rattle.core_tables.specs.Tasks.{standing}
use Rattle.prover_core.specs.Looked.{looked}
use Rattle.prover_core.proofs.settling.held_below.Goals as goal

pub returns-then-is_present-clause-some : goal.returns-then-is_present-clause-some
returns-then-is_present-clause-some c =
    let turn = hash_map_turn deref_pair c.loop-part.yielded c.into_iter-part-iterator.result c.loop-part.part-iterator
    c.next.new.self c.next.result (c.in-Some.field-0-0, c.in-Some.part) c.loop-part.yielded_by c.in-Some.is
    c.next.ensures.steps nat_eq_equiv c.args.holders.now (search rules) (search rules) in
    let lt : c.in-Some.part.now.exec < c.args.behind = search rules in
    let present : is_some (standing c.args.queue.now c.in-Some.part.now.exec) ≡ true = sym c.is_present.ensures ∙ c.if-is_present.true in
    subst (λ (p : Part). (p.exec < c.args.behind) × (is_some (standing c.args.queue.now p.exec) ≡ true)
    × ((who : ℕ) × (looked c.args.holders.now who ≡ Some p))) (sym c.same.ensures) (lt, present, (c.in-Some.field-0-0.now, turn.1))

pub returns-clause-none : goal.returns-clause-none
returns-clause-none c = λ who part at lt.
    let Q : Part → Type 0 = λ p. p.exec < c.args.behind → is_some (standing c.args.queue.now p.exec) ≡ false in
    let none : ℕ × Part → Type 0 = λ p. Q p.1 in
    let whole : map deref_pair c.loop-part.yielded ≡ c.args.holders.now.entries = search (rules, iter_end) in
    let all : All none (map deref_pair c.loop-part.yielded) = All-map none deref_pair c.loop-part.yielded c.loop-part.invariant.2 in
    let by_list : List (ℕ × Part) → Type 0 = λ es. All none es in
    let found = All-lookup Q (λ x. eqb who x) c.args.holders.now.entries (subst by_list whole all) in
    let P : Option Part → Type 0 = λ o. IfSome o Q in
    let so : Q part = subst P at found in
    so lt
