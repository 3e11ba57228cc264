-- Telling those that wait for an execution that it is done, one after the other.
use Rattle.std.proofs.Common.{◌≡◌, ◌≢◌, ◌⊎◌, ℕ, ◌≤◌, Bool, true, false, not, ◌&&◌, length, option_map, Option, Some, None, inl, inr, sym, ◌∙◌, ap, refl, subst, eqb, arith}
use Rattle.std.specs.HashMap.{hash_map_len}
use Rattle.std.specs.Option.{option_map_or}
use Rattle.std.proofs.lemmas.Bool.{cases_eq}
use Rattle.core_tables.specs.declared.queue.TaskQueue.TheInside.{Inside}
use Rattle.core_tables.specs.declared.task.Standing.{Standing}
use Rattle.core_tables.specs.Deque.{capacity_of}
use Rattle.text_words.specs.Members.{has}
use Rattle.core_tables.specs.Tasks.{standing, is_ready}
use Rattle.core_tables.specs.Waiters.{Waits, HasAll}
use Rattle.core_tables.specs.Ready.{AreReady, with_standing}
use Rattle.core_tables.specs.Changes.{without, IsHeld}
use Rattle.core_tables.specs.Kept.{looked, seen, IsKept}
use Rattle.core_tables.proofs.Changed.{here, elsewhere}
use Rattle.core_tables.proofs.Unready.{IsUnready}
use Rattle.core_tables.proofs.Sets.{has_before}
use Rattle.core_tables.proofs.Telling.{IsTold, IsDoing, all_told}

-- and so the queue is kept
pub done_kept : (x : ℕ) (q first now last : Inside) → IsKept q → (s : Standing) → standing (seen q) x ≡ Some s
    → ((f : ℕ) → looked first.tasks f ≡ with_standing (standing (seen q)) x None f)
    → first.waiters ≡ q.waiters → IsDoing x first now → ((v : ℕ) → Waits now.waiters x v → ⊥)
    → looked now.tasks x ≡ None → HasAll last.waiters
    → ((e f : ℕ) → e ≢ x → Waits now.waiters e f → Waits last.waiters e f)
    → last.tasks ≡ now.tasks → last.ready ≡ now.ready → IsKept last
done_kept x q first now last k s known tasks same doing none gone links kept same_tasks same_ready = record {
  ready = rw (same_tasks, same_ready) doing.ready;
  room = rw (same_tasks, same_ready) doing.room;
  links = links;
  waiters = λ e f a b one other waits. go e f a b (rw same_tasks at one) (rw same_tasks at other) waits (cases_eq e x) (cases_eq f x);
}
  where
    old : (f : ℕ) (b : Standing) → f ≢ x → looked now.tasks f ≡ Some b
        → (t : Standing) × (standing (seen q) f ≡ Some t) × (without x t ≡ b)
    old f b differ is = by (standing (seen q) f) refl (sym (all_told x q first now k s known tasks same doing none f differ) ∙ is)
      where
        by : (o : Option Standing) → standing (seen q) f ≡ o → option_map (without x) o ≡ Some b
            → (t : Standing) × (standing (seen q) f ≡ Some t) × (without x t ≡ b)
        by None e m = cc
        by (Some t) e m = (t, e, ap (λ o. option_map_or (λ y. y) o (without x t)) m)

    absent : (e : ℕ) (a : Standing) → e ≡ x → looked now.tasks e ≡ Some a → ⊥
    absent e a at one = let clash : None ≡ Some a = sym gone ∙ ap (looked now.tasks) (sym at) ∙ one in cc

    go : (e f : ℕ) (a b : Standing) → looked now.tasks e ≡ Some a → looked now.tasks f ≡ Some b
        → has b.inputs e ≡ true → (e ≡ x) ⊎ (e ≡ x → ⊥) → (f ≡ x) ⊎ (f ≡ x → ⊥) → Waits last.waiters e f
    go e f a b one other waits (inl at) _ = absurd (absent e a at one)
    go e f a b one other waits (inr _) (inl at) = absurd (absent f b at other)
    go e f a b one other waits (inr differ) (inr apart) =
        let o = old e a differ one in
        let t = old f b apart other in
        let P : Standing → Type 0 = λ y. has y.inputs e ≡ true in
        let waited = has_before t.0.inputs x e (subst P (sym t.2) waits) in
        let there = k.waiters e f o.0 t.0 o.1 t.1 waited in
        let Q : _ → Type 0 = λ w. Waits w e f in
        kept e f differ (doing.others e f differ (subst Q (sym same) there))

-- nobody is told yet
pub none_told : (x : ℕ) (first : Inside) → AreReady (looked first.tasks) first.ready.parts
    → hash_map_len first.tasks ≤ capacity_of first.ready → HasAll first.waiters → IsDoing x first first
none_told x first ready room links = record {
  told = λ f. inr (refl, λ waits. waits);
  ready = ready;
  room = room;
  links = links;
  others = λ e f differ waits. waits;
  len = refl;
  spare_tasks = omega arith;
  capacity = refl;
  spare_links = omega arith;
}

-- the part of x stays away
pub stays_gone : (x : ℕ) (first now : Inside) → looked first.tasks x ≡ None → IsDoing x first now
    → looked now.tasks x ≡ None
stays_gone x first now gone doing = go (doing.told x)
  where
    go : IsTold x first now x → looked now.tasks x ≡ None
    go (inl told) = told.0 ∙ ap (option_map (without x)) gone
    go (inr still) = still.0 ∙ gone

-- a part that is held is not ready
pub held_unready : (o : Option Standing) → IsHeld o → IsUnready o
held_unready o (s, is, held) r m =
    let same : s ≡ r = ap (λ p. option_map_or (λ t. t) p s) (sym is ∙ m) in
    let P : Standing → Type 0 = λ t. is_ready t ≡ false in
    subst P same (by s.held held)
  where
    by : (h : Bool) → h ≡ true → (not h && eqb (length s.inputs) 0) ≡ false
    by true e = refl
    by false e = cc

-- nobody waits for x any more
pub all_free : (x : ℕ) (q first now : Inside) → IsKept q → (s : Standing) → standing (seen q) x ≡ Some s
    → ((f : ℕ) → looked first.tasks f ≡ with_standing (standing (seen q)) x None f)
    → first.waiters ≡ q.waiters → IsDoing x first now → ((v : ℕ) → Waits now.waiters x v → ⊥)
    → (f : ℕ) → option_map_or (λ t. has t.inputs x) (looked now.tasks f) false ≡ false
all_free x q first now k s known tasks same doing none f = by (looked now.tasks f) refl
  where
    waits_none : (t : Standing) → looked now.tasks f ≡ looked first.tasks f
        → (Waits first.waiters x f → Waits now.waiters x f) → looked now.tasks f ≡ Some t
        → (f ≡ x) ⊎ (f ≡ x → ⊥) → has t.inputs x ≡ true → ⊥
    waits_none t still kept is (inl at) waits =
        let clash : None ≡ Some t = sym (here (standing (seen q)) x None) ∙ sym (tasks x) ∙ ap (looked first.tasks) (sym at) ∙ sym still ∙ is in cc
    waits_none t still kept is (inr differ) waits =
        let old : standing (seen q) f ≡ Some t = sym (elsewhere (standing (seen q)) x f None differ) ∙ sym (tasks f) ∙ sym still ∙ is in
        let P : _ → Type 0 = λ w. Waits w x f in
        none f (kept (subst P (sym same) (k.waiters x f s t known old waits)))

    by : (o : Option Standing) → looked now.tasks f ≡ o → option_map_or (λ t. has t.inputs x) o false ≡ false
    by None is = refl
    by (Some t) is = go (doing.told f)
      where
        go : IsTold x first now f → has t.inputs x ≡ false
        go (inl told) = told.1 t is
        go (inr still) = test (has t.inputs x) refl
          where
            test : (b : Bool) → has t.inputs x ≡ b → has t.inputs x ≡ false
            test true waits = absurd (waits_none t still.0 still.1 is (cases_eq f x) waits)
            test false not = not
