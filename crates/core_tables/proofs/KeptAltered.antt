-- A queue is kept where the part of one execution stands otherwise, leaves or comes.
use Rattle.std.proofs.Common.{◌≡◌, ◌≢◌, ◌⊎◌, ℕ, ◌≤◌, true, false, option_map, Option, Some, None, inl, inr, sym, ◌∙◌, ap, refl, subst}
use Rattle.std.specs.HashMap.{hash_map_len}
use Rattle.std.specs.Option.{option_map_or}
use Rattle.std.proofs.lemmas.Bool.{cases_eq}
use Rattle.core_tables.specs.declared.queue.TaskQueue.TheInside.{Inside}
use Rattle.core_tables.specs.declared.task.Standing.{Standing}
use Rattle.core_tables.specs.declared.waiters.Waiters.{Waiters}
use Rattle.core_tables.specs.Deque.{capacity_of}
use Rattle.text_words.specs.Members.{has}
use Rattle.core_tables.specs.Tasks.{standing, is_ready}
use Rattle.core_tables.specs.Waiters.{Waits, HasAll}
use Rattle.core_tables.specs.Ready.{AreReady, with_standing}
use Rattle.core_tables.specs.Changes.{taken_task, nobody_waits}
use Rattle.core_tables.specs.Kept.{looked, seen, IsKept}
use Rattle.core_tables.proofs.Changed.{here, elsewhere}
use Rattle.core_tables.proofs.Unready.{IsUnready}
use Rattle.core_tables.proofs.KeptAfter.{changed_kept}

-- what an altered standing was before
before : (g : Standing → Standing) (o : Option Standing) (t : Standing) → option_map g o ≡ Some t
    → (u : Standing) × (o ≡ Some u) × (g u ≡ t)
before g None t is = cc
before g (Some u) t is = (u, refl, ap (λ o. option_map_or (λ x. x) o (g u)) is)

-- a part that is taken is not ready
pub taken_unready : (o : Option Standing) → IsUnready (option_map taken_task o)
taken_unready o r is = let u = before taken_task o r is in
    let P : Standing → Type 0 = λ x. is_ready x ≡ false in subst P u.2 refl

-- the part of x stands otherwise, and waits for nothing that it didn't wait for
pub altered_kept : (q r : Inside) (x : ℕ) (g : Standing → Standing)
    → ((t : Standing) (e : ℕ) → has (g t).inputs e ≡ true → has t.inputs e ≡ true) → IsKept q
    → ((e : ℕ) → standing (seen r) e
    ≡ with_standing (standing (seen q)) x (option_map g (standing (seen q) x)) e)
    → AreReady (with_standing (standing (seen q)) x (option_map g (standing (seen q) x))) r.ready.parts
    → hash_map_len r.tasks ≤ capacity_of r.ready → r.waiters ≡ q.waiters → IsKept r
altered_kept q r x g less k tasks ready room same =
    changed_kept q r x (option_map g (standing (seen q) x)) k tasks ready room
    (rw same k.links) (λ e f a is waits. rw same waits)
    (λ t is e a one waits. let u = before g (standing (seen q) x) t is in
    let P : Standing → Type 0 = λ y. has y.inputs e ≡ true in
    rw same (mine e u.0 u.1 (less u.0 e (subst P (sym u.2) waits)) a one (cases_eq e x)))
    (λ t is f b differ there waits. let u = before g (standing (seen q) x) t is in
    rw same (k.waiters x f u.0 b u.1 there waits))
  where
    mine : (e : ℕ) (u : Standing) → standing (seen q) x ≡ Some u → has u.inputs e ≡ true → (a : Standing)
        → with_standing (standing (seen q)) x (option_map g (standing (seen q) x)) e ≡ Some a
        → (e ≡ x) ⊎ (e ≡ x → ⊥) → Waits q.waiters e x
    mine e u is waits a one (inl same) = k.waiters e x u u (ap (standing (seen q)) same ∙ is) is waits
    mine e u is waits a one (inr differ) = k.waiters e x a u
        (sym (elsewhere (standing (seen q)) x e (option_map g (standing (seen q) x)) differ) ∙ one) is waits

-- the part of x leaves
pub gone_kept : (q r : Inside) (x : ℕ) → IsKept q
    → ((e : ℕ) → standing (seen r) e ≡ with_standing (standing (seen q)) x None e)
    → AreReady (with_standing (standing (seen q)) x None) r.ready.parts
    → hash_map_len r.tasks ≤ capacity_of r.ready → HasAll r.waiters
    → ((e f : ℕ) → e ≢ x → Waits q.waiters e f → Waits r.waiters e f) → IsKept r
gone_kept q r x k tasks ready room links kept = changed_kept q r x None k tasks ready room links
    (λ e f a is waits. kept e f (λ same.
    let none : None ≡ Some a = sym (here (standing (seen q)) x None) ∙ ap (with_standing (standing (seen q)) x None) (sym same) ∙ is in cc) waits)
    (λ t is. let clash : None ≡ Some t = is in cc)
    (λ t is. let clash : None ≡ Some t = is in cc)

-- the part of x comes
pub come_kept : (q r : Inside) (x : ℕ) (s : Standing) → IsKept q → nobody_waits (seen q) x
    → ((e : ℕ) → standing (seen r) e ≡ with_standing (standing (seen q)) x (Some s) e)
    → AreReady (with_standing (standing (seen q)) x (Some s)) r.ready.parts
    → hash_map_len r.tasks ≤ capacity_of r.ready → HasAll r.waiters
    → ((e f : ℕ) → Waits q.waiters e f → Waits r.waiters e f)
    → ((e : ℕ) → has s.inputs e ≡ true → Waits r.waiters e x) → IsKept r
come_kept q r x s k nobody tasks ready room links kept linked =
    changed_kept q r x (Some s) k tasks ready room links (λ e f a is waits. kept e f waits)
    (λ t is e a one waits.
    let same : s ≡ t = ap (λ o. option_map_or (λ y. y) o s) is in
    let P : Standing → Type 0 = λ y. has y.inputs e ≡ true in linked e (subst P (sym same) waits))
    (λ t is f b differ there waits.
    let none : has b.inputs x ≡ false = sym (ap (λ o. option_map_or (λ y. has y.inputs x) o false) there) ∙ nobody f in
    let clash : false ≡ true = sym none ∙ waits in cc)

-- the same, where the table is told apart from the other fields
pub joined : (q i : Inside) (tasks : _) (waiters : Waiters) (x : ℕ) (s : Standing) → IsKept q → nobody_waits (seen q) x
    → i.tasks ≡ q.tasks → i.waiters ≡ waiters
    → ((e : ℕ) → looked tasks e ≡ with_standing (looked i.tasks) x (Some s) e)
    → AreReady (with_standing (standing (seen q)) x (Some s)) i.ready.parts
    → hash_map_len tasks ≤ capacity_of i.ready → HasAll waiters
    → ((e f : ℕ) → Waits q.waiters e f → Waits waiters e f)
    → ((e : ℕ) → has s.inputs e ≡ true → Waits waiters e x)
    → IsKept (record { tasks = tasks; waiters = i.waiters; ready = i.ready })
joined q i tasks waiters x s k nobody same links put ready room all kept linked =
    rw links (come_kept q (record { tasks = tasks; waiters = waiters; ready = i.ready }) x s k nobody
    (λ e. put e ∙ ap (λ t. with_standing (looked t) x (Some s) e) same) ready room all kept linked)

-- the part of x leaves, and who waits for it is forgotten
pub gone_joined : (q i : Inside) (tasks : _) (waiters : Waiters) (x : ℕ) → IsKept q
    → i.tasks ≡ q.tasks → i.waiters ≡ q.waiters
    → ((e : ℕ) → looked tasks e ≡ with_standing (looked i.tasks) x None e)
    → AreReady (with_standing (standing (seen q)) x None) i.ready.parts
    → hash_map_len tasks ≤ capacity_of i.ready → HasAll waiters
    → ((e f : ℕ) → e ≢ x → Waits i.waiters e f → Waits waiters e f)
    → IsKept (record { tasks = tasks; waiters = waiters; ready = i.ready })
gone_joined q i tasks waiters x k same links put ready room all kept =
    gone_kept q (record { tasks = tasks; waiters = waiters; ready = i.ready }) x k
    (λ e. put e ∙ ap (λ t. with_standing (looked t) x None e) same) ready room all
    (λ e f differ waits. kept e f differ (rw links waits))

-- the part of x stands otherwise
pub altered_joined : (q i : Inside) (tasks : _) (x : ℕ) (g : Standing → Standing)
    → ((t : Standing) (e : ℕ) → has (g t).inputs e ≡ true → has t.inputs e ≡ true) → IsKept q
    → i.tasks ≡ q.tasks → i.waiters ≡ q.waiters
    → ((e : ℕ) → looked tasks e ≡ with_standing (looked i.tasks) x (option_map g (looked i.tasks x)) e)
    → AreReady (with_standing (standing (seen q)) x (option_map g (standing (seen q) x))) i.ready.parts
    → hash_map_len tasks ≤ capacity_of i.ready
    → IsKept (record { tasks = tasks; waiters = i.waiters; ready = i.ready })
altered_joined q i tasks x g less k same links put ready room =
    altered_kept q (record { tasks = tasks; waiters = i.waiters; ready = i.ready }) x g less k
    (λ e. put e ∙ ap (λ t. with_standing (looked t) x (option_map g (looked t x)) e) same) ready room links
