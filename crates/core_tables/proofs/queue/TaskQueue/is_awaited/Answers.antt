use Rattle.std.proofs.Common.{rules, ◌≡◌, ℕ, true, false, Some, List, map, sym, ◌∙◌, eqb, subst, Option}
use Rattle.std.specs.Cmp.{nat_eq_equiv}
use Rattle.std.specs.List.{All}
use Rattle.std.specs.Option.{IfSome}
use Rattle.std.specs.Map.Iter.{deref_pair}
use Rattle.std.proofs.lemmas.List.Elements.{All-map}
use Rattle.std.proofs.lemmas.Map.Entries.{All-lookup}
use Rattle.std.proofs.lemmas.Map.Iter.{hash_map_turn, iter_end}
use Rattle.core_tables.specs.declared.task.Standing.{Standing}
use Rattle.text_words.specs.Members.{has}
use Rattle.core_tables.specs.Tasks.{Queue, standing}
use Rattle.core_tables.proofs.queue.TaskQueue.is_awaited.Goals as goal

pub returns-then-has : goal.returns-then-has
returns-then-has c =
    let turn = hash_map_turn deref_pair c.loop-standing.yielded c.into_iter-standing-iterator.result c.loop-standing.standing-iterator
    c.next.new.self c.next.result (c.in-Some.field-0-0, c.in-Some.standing) c.loop-standing.yielded_by c.in-Some.is
    c.next.ensures.steps nat_eq_equiv c.self.inside.tasks (search rules) (search rules) in
    let P : Queue → Type 0 = λ q. standing q c.in-Some.field-0-0.now ≡ Some c.in-Some.standing.now in
    (λ _. (c.in-Some.field-0-0.now, c.in-Some.standing.now, subst P c.self.view_is turn.1, search rules), λ _. search rules)

pub returns : goal.returns
returns c = (
  λ t. (let clash : false ≡ true = t in cc),
  λ found.
      let none : ℕ × Standing → Type 0 = λ p. has p.1.inputs c.args.exec ≡ false in
      let whole : map deref_pair c.loop-standing.yielded ≡ c.self.inside.tasks.entries = search (rules, iter_end) in
      let all : All none (map deref_pair c.loop-standing.yielded) = All-map none deref_pair c.loop-standing.yielded c.loop-standing.invariant.2 in
      let by_list : List (ℕ × Standing) → Type 0 = λ es. All none es in
      let answer = All-lookup (λ s. has s.inputs c.args.exec ≡ false) (λ x. eqb found.0 x) c.self.inside.tasks.entries (subst by_list whole all) in
      let Q : Queue → Type 0 = λ q. standing q found.0 ≡ Some found.1 in
      let is = subst Q (sym c.self.view_is) found.2 in
      let P : Option Standing → Type 0 = λ o. IfSome o (λ s. has s.inputs c.args.exec ≡ false) in
      let free : has found.1.inputs c.args.exec ≡ false = subst P is answer in
      let clash : false ≡ true = sym free ∙ found.3 in cc,
)
