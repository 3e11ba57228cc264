-- A queue is kept after a change of one execution's part.
use Rattle.std.proofs.Common.{◌≡◌, ◌≢◌, ◌⊎◌, ℕ, ◌≤◌, length, get_or, true, false, Option, Some, IsSome, inl, inr, sym, ◌∙◌, ap, refl, subst}
use Rattle.std.specs.HashMap.{hash_map_len}
use Rattle.std.specs.List.{All, AllPairs}
use Rattle.std.proofs.lemmas.Bool.{cases_eq}
use Rattle.core_tables.specs.declared.queue.TaskQueue.TheInside.{Inside}
use Rattle.core_tables.specs.declared.task.Standing.{Standing}
use Rattle.core_tables.specs.Deque.{capacity_of}
use Rattle.text_words.specs.Members.{has}
use Rattle.core_tables.specs.Tasks.{standing}
use Rattle.core_tables.specs.Waiters.{Waits, HasAll}
use Rattle.core_tables.specs.Ready.{Standings, AreReady, with_standing, priority_of, comes_first}
use Rattle.core_tables.specs.Kept.{seen, IsKept}
use Rattle.core_tables.proofs.Changed.{here, elsewhere}
use Rattle.core_tables.proofs.KeptAlike.{ready_alike}
use Rattle.core_tables.proofs.Links.{few_parts}
use Rattle.core_tables.proofs.KnownOrder.{not_itself}

-- no more parts are ready than there are tasks
pub few_ready : (q : Inside) → IsKept q → length q.ready.parts ≤ hash_map_len q.tasks
few_ready q k = few_parts q.ready.parts q.tasks.entries apart found
  where
    all : Standings
    all = standing (seen q)

    apart : AllPairs (λ p r. p.exec ≢ r.exec) q.ready.parts
    apart i j d low high same =
        let first : comes_first all (get_or q.ready.parts j d).exec (get_or q.ready.parts i d).exec ≡ true
        = k.ready.order i j d low high in
        let itself : comes_first all (get_or q.ready.parts j d).exec (get_or q.ready.parts j d).exec ≡ true
        = rw same at first in
        let clash : true ≡ false = sym itself
        ∙ not_itself (priority_of all (get_or q.ready.parts j d).exec) (get_or q.ready.parts j d).exec in cc

    found : All (λ p. IsSome (all p.exec)) q.ready.parts
    found i d low = let r = k.ready.sound i d low in rw r.1 refl

-- after a change of the part of x
pub changed_kept : (q r : Inside) (x : ℕ) (s : Option Standing) → IsKept q
    → ((e : ℕ) → standing (seen r) e ≡ with_standing (standing (seen q)) x s e)
    → AreReady (with_standing (standing (seen q)) x s) r.ready.parts
    → hash_map_len r.tasks ≤ capacity_of r.ready → HasAll r.waiters
    → ((e f : ℕ) (a : Standing) → with_standing (standing (seen q)) x s e ≡ Some a
    → Waits q.waiters e f → Waits r.waiters e f)
    → ((t : Standing) → s ≡ Some t → (e : ℕ) (a : Standing)
    → with_standing (standing (seen q)) x s e ≡ Some a → has t.inputs e ≡ true → Waits r.waiters e x)
    → ((t : Standing) → s ≡ Some t → (f : ℕ) (b : Standing) → f ≢ x
    → standing (seen q) f ≡ Some b → has b.inputs x ≡ true → Waits r.waiters x f)
    → IsKept r
changed_kept q r x s k tasks ready room links kept mine theirs = record {
  ready = ready_alike more (standing (seen r)) r.ready.parts tasks ready;
  room = room;
  links = links;
  waiters = λ e f a b one other waits. go e f a b (sym (tasks e) ∙ one) (sym (tasks f) ∙ other) waits (cases_eq f x) (cases_eq e x);
}
  where
    more : Standings
    more = with_standing (standing (seen q)) x s

    go : (e f : ℕ) (a b : Standing) → more e ≡ Some a → more f ≡ Some b → has b.inputs e ≡ true
        → (f ≡ x) ⊎ (f ≡ x → ⊥) → (e ≡ x) ⊎ (e ≡ x → ⊥) → Waits r.waiters e f
    go e f a b one other waits (inl same) _ =
        let is : s ≡ Some b = sym (here (standing (seen q)) x s) ∙ ap more (sym same) ∙ other in
        let P : ℕ → Type 0 = λ g. Waits r.waiters e g in subst P (sym same) (mine b is e a one waits)
    go e f a b one other waits (inr differ) (inl same) =
        let is : s ≡ Some a = sym (here (standing (seen q)) x s) ∙ ap more (sym same) ∙ one in
        let at_x : has b.inputs x ≡ true = ap (has b.inputs) (sym same) ∙ waits in
        let old : standing (seen q) f ≡ Some b = sym (elsewhere (standing (seen q)) x f s differ) ∙ other in
        let P : ℕ → Type 0 = λ g. Waits r.waiters g f in subst P (sym same) (theirs a is f b differ old at_x)
    go e f a b one other waits (inr differ) (inr apart) =
        kept e f a one (k.waiters e f a b (sym (elsewhere (standing (seen q)) x e s apart) ∙ one)
        (sym (elsewhere (standing (seen q)) x f s differ) ∙ other) waits)
