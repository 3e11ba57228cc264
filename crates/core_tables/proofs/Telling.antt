-- One execution is told, and all that wait are.
use Rattle.std.proofs.Common.{◌≡◌, ◌≢◌, ◌⊎◌, ℕ, ◌≤◌, Bool, true, false, not, option_map, Option, Some, None, inl, inr, sym, ◌∙◌, ap, refl, subst}
use Rattle.std.specs.HashMap.{hash_map_len, spare}
use Rattle.std.proofs.lemmas.Bool.{cases_eq}
use Rattle.core_tables.specs.declared.queue.TaskQueue.TheInside.{Inside}
use Rattle.core_tables.specs.declared.task.Standing.{Standing}
use Rattle.core_tables.specs.Deque.{capacity_of}
use Rattle.text_words.specs.Members.{has}
use Rattle.core_tables.specs.Tasks.{standing}
use Rattle.core_tables.specs.Waiters.{Waits, HasAll, room_of}
use Rattle.core_tables.specs.Ready.{AreReady, with_standing}
use Rattle.core_tables.specs.Changes.{without}
use Rattle.core_tables.specs.Kept.{looked, seen, IsKept}
use Rattle.core_tables.proofs.Changed.{here, elsewhere}
use Rattle.core_tables.proofs.Sets.{removed_none}

-- it doesn't wait for x
abbrev pub IsFree : ℕ → Option Standing → Type 0
IsFree x o = (s : Standing) → o ≡ Some s → has s.inputs x ≡ false

-- f waits no more for x, or it is still to be told
abbrev pub IsTold : ℕ → Inside → Inside → ℕ → Type 0
IsTold x first now f =
    ((looked now.tasks f ≡ option_map (without x) (looked first.tasks f)) × IsFree x (looked now.tasks f))
    ⊎ ((looked now.tasks f ≡ looked first.tasks f) × (Waits first.waiters x f → Waits now.waiters x f))

-- how far the telling has come since the part of x was let go
pub record IsDoing (x : ℕ) (first now : Inside) : Type 0 where
  pub told : (f : ℕ) → IsTold x first now f
  pub ready : AreReady (looked now.tasks) now.ready.parts
  pub room : hash_map_len now.tasks ≤ capacity_of now.ready
  pub links : HasAll now.waiters
  pub others : (e f : ℕ) → e ≢ x → Waits first.waiters e f → Waits now.waiters e f
  pub len : hash_map_len now.tasks ≡ hash_map_len first.tasks
  pub spare_tasks : spare first.tasks ≤ spare now.tasks
  pub capacity : capacity_of now.ready ≡ capacity_of first.ready
  pub spare_links : room_of first.waiters ≤ room_of now.waiters

-- what doesn't wait for x stays as it is
free_stays : (x : ℕ) (o : Option Standing) → IsFree x o → option_map (without x) o ≡ o
free_stays x None free = refl
free_stays x (Some s) free = ap Some (λ i. record s { inputs = removed_none s.inputs x (free s refl) i })

-- one more is told
pub one_told : (x w : ℕ) (first was now : Inside) → IsDoing x first was
    → ((f : ℕ) → looked now.tasks f ≡ with_standing (looked was.tasks) w (option_map (without x) (looked was.tasks w)) f)
    → IsFree x (looked now.tasks w)
    → ((v : ℕ) → Waits was.waiters x v → (v ≡ w) ⊎ Waits now.waiters x v)
    → (f : ℕ) → IsTold x first now f
one_told x w first was now doing tasks free next f = go (cases_eq f w) (doing.told f)
  where
    at_w : looked now.tasks w ≡ option_map (without x) (looked was.tasks w)
    at_w = tasks w ∙ here (looked was.tasks) w (option_map (without x) (looked was.tasks w))

    apart : (f ≡ w → ⊥) → looked now.tasks f ≡ looked was.tasks f
    apart differ = tasks f ∙ elsewhere (looked was.tasks) w f (option_map (without x) (looked was.tasks w)) differ

    free_f : f ≡ w → IsFree x (looked now.tasks f)
    free_f same = let P : ℕ → Type 0 = λ g. IsFree x (looked now.tasks g) in subst P (sym same) free

    go : (f ≡ w) ⊎ (f ≡ w → ⊥) → IsTold x first was f → IsTold x first now f
    go (inl same) (inl told) =
        let P : ℕ → Type 0 = λ g. IsFree x (looked was.tasks g) in
        inl (
          ap (looked now.tasks) same ∙ at_w ∙ free_stays x (looked was.tasks w) (subst P same told.1)
              ∙ ap (looked was.tasks) (sym same) ∙ told.0,
          free_f same,
        )
    go (inl same) (inr still) =
        let still_w : looked was.tasks w ≡ looked first.tasks w
        = ap (looked was.tasks) (sym same) ∙ still.0 ∙ ap (looked first.tasks) same in
        inl (
          ap (looked now.tasks) same ∙ at_w ∙ ap (option_map (without x)) still_w
              ∙ ap (λ g. option_map (without x) (looked first.tasks g)) (sym same),
          free_f same,
        )
    go (inr differ) (inl told) = inl (apart differ ∙ told.0, λ s is. told.1 s (sym (apart differ) ∙ is))
    go (inr differ) (inr still) = inr (apart differ ∙ still.0, λ waits. other (next f (still.1 waits)))
      where
        other : (f ≡ w) ⊎ Waits now.waiters x f → Waits now.waiters x f
        other (inl same) = absurd (differ same)
        other (inr more) = more

-- all are told
pub all_told : (x : ℕ) (q first now : Inside) → IsKept q → (s : Standing) → standing (seen q) x ≡ Some s
    → ((f : ℕ) → looked first.tasks f ≡ with_standing (standing (seen q)) x None f)
    → first.waiters ≡ q.waiters → IsDoing x first now → ((v : ℕ) → Waits now.waiters x v → ⊥)
    → (f : ℕ) → f ≢ x → looked now.tasks f ≡ option_map (without x) (standing (seen q) f)
all_told x q first now k s known tasks same doing none f differ = go (doing.told f)
  where
    before : looked first.tasks f ≡ standing (seen q) f
    before = tasks f ∙ elsewhere (standing (seen q)) x f None differ

    unchanged : (o : Option Standing) → standing (seen q) f ≡ o → (Waits q.waiters x f → ⊥)
        → o ≡ option_map (without x) o
    unchanged None e not = refl
    unchanged (Some t) e not = by (has t.inputs x) refl
      where
        by : (b : Bool) → has t.inputs x ≡ b → Some t ≡ option_map (without x) (Some t)
        by true waits = absurd (not (k.waiters x f s t known e waits))
        by false no_more = ap Some (λ i. record t { inputs = sym (removed_none t.inputs x no_more) i })

    go : IsTold x first now f → looked now.tasks f ≡ option_map (without x) (standing (seen q) f)
    go (inl told) = told.0 ∙ ap (option_map (without x)) before
    go (inr still) = still.0 ∙ before ∙ unchanged (standing (seen q) f) refl
        (λ waits. none f (still.1 (let P : _ → Type 0 = λ w. Waits w x f in subst P (sym same) waits)))
