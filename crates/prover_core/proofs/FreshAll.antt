-- New executions that are put into tables, one after the other.
use Rattle.std.proofs.Common.{◌≡◌, ℕ, suc, ◌+◌, ◌<◌, ◌≤◌, Bool, true, false, cond, List, [], ◌∷◌, ◌++◌, length, map, reverse, Option, Some, None, refl, ap, sym, subst, ◌∙◌, arith}
use Rattle.std.proofs.lemmas.Bool.{eqb-true, ne_eqb}
use Rattle.std.proofs.lemmas.List.{reverse-append, length-append}
use Rattle.std.specs.Prelude.{◌==◌, flat_map}
use Rattle.std.specs.Option.{MatchOption, option_map, option_map_or}
use Rattle.core_tables.specs.declared.task.Standing.{Standing}
use Rattle.core_tables.specs.declared.task.Task.{Task}
use Rattle.text_words.specs.Members.{has}
use Rattle.core_tables.specs.Changes.{waiting}
use Rattle.core_tables.specs.declared.execution.Execution.{Execution}
use Rattle.update_plans.specs.declared.known.Known.{Known}
use Rattle.update_plans.specs.declared.beginning.Fresh.{Fresh}
use Rattle.prover_core.specs.Fresh.{number_of, fresh_at, with_fresh, RiseFrom, IsEmptyFrom, WaitBelow, AreNew}

-- numbers that rise are not met again
none_below : (n e : ℕ) (more : List Fresh) → RiseFrom n more → e < n → fresh_at more e ≡ None
none_below n e [] rise lt = refl
none_below n e (x ∷ more) rise lt =
    ap (λ b. cond b (Some x) (fresh_at more e)) (ne_eqb (number_of x) e (λ same. absurd (omega (arith, same, lt, rise.0))))
    ∙ none_below (suc (number_of x)) e more rise.2 (omega (arith, lt, rise.0))

module _ {A : Type 0} (of : Fresh → A) where
  -- one less to be put in
  pub with_more : (n : ℕ) (x : Fresh) (more : List Fresh) (f g : ℕ → Option A) → RiseFrom n (x ∷ more)
      → ((e : ℕ) → g e ≡ cond (number_of x == e) (Some (of x)) (f e)) → (e : ℕ) → with_fresh of more g e ≡ with_fresh of (x ∷ more) f e
  with_more n x more f g rise is e = go (number_of x == e) refl
    where
      go : (b : Bool) → (number_of x == e) ≡ b
          → with_fresh of more g e ≡ option_map_or (λ y. Some (of y)) (cond b (Some x) (fresh_at more e)) (f e)
      go true same =
          ap (λ o. option_map_or (λ y. Some (of y)) o (g e))
          (none_below (suc (number_of x)) e more rise.2 (omega (arith, eqb-true (number_of x) e same)))
          ∙ is e ∙ ap (λ b. cond b (Some (of x)) (f e)) same
      go false same = ap (λ v. option_map_or (λ y. Some (of y)) (fresh_at more e) v)
          (is e ∙ ap (λ b. cond b (Some (of x)) (f e)) same)

  -- and nothing is there from the next number on
  pub still_empty : (n : ℕ) (x : Fresh) (f g : ℕ → Option A) → n ≤ number_of x → IsEmptyFrom n f
      → ((e : ℕ) → g e ≡ cond (number_of x == e) (Some (of x)) (f e)) → IsEmptyFrom (suc (number_of x)) g
  still_empty n x f g le empty is e past =
      is e ∙ ap (λ b. cond b (Some (of x)) (f e)) (ne_eqb (number_of x) e (λ same. absurd (omega (arith, same, past))))
      ∙ empty e (omega (arith, le, past))

-- nor does anything wait for what comes behind
pub still_below : (n : ℕ) (x : Fresh) (f g : ℕ → Option Standing) → n ≤ number_of x
    → ((e : ℕ) → has x.task.inputs e ≡ true → e < number_of x) → WaitBelow n f
    → ((e : ℕ) → g e ≡ cond (number_of x == e) (Some (waiting x.task)) (f e)) → WaitBelow (suc (number_of x)) g
still_below n x f g le older below is e q past =
    ap (λ o. option_map_or (λ (s : Standing). has s.inputs e) o false) (is q) ∙ go (number_of x == q)
  where
    none : (b : Bool) → has x.task.inputs e ≡ b → b ≡ false
    none false so = refl
    none true so = let lt = older e so in absurd (omega (arith, lt, past))

    go : (b : Bool) → option_map_or (λ (s : Standing). has s.inputs e) (cond b (Some (waiting x.task)) (f q)) false ≡ false
    go true = none (has x.task.inputs e) refl
    go false = below e q (omega (arith, le, past))

-- one less to be put in
pub added_new : {R : Type 0} (x : Fresh) (more : List Fresh) (row : Execution R) (rows rows2 : ℕ → Option (Execution R))
    (homes homes2 : ℕ → Option Known) (tasks tasks2 : ℕ → Option Standing) → AreNew (x ∷ more) rows homes tasks
    → ((e : ℕ) → rows2 e ≡ cond (number_of x == e) (Some row) (rows e))
    → ((e : ℕ) → homes2 e ≡ cond (number_of x == e) (Some x.known) (homes e))
    → ((e : ℕ) → tasks2 e ≡ cond (number_of x == e) (Some (waiting x.task)) (tasks e)) → AreNew more rows2 homes2 tasks2
added_new x more row rows rows2 homes homes2 tasks tasks2 new add put queue = record {
  first = suc (number_of x);
  rises = new.rises.2;
  no_rows = still_empty (λ y. row) new.first x rows rows2 new.rises.0 new.no_rows add;
  no_homes = still_empty (λ y. y.known) new.first x homes homes2 new.rises.0 new.no_homes put;
  no_tasks = still_empty (λ y. waiting y.task) new.first x tasks tasks2 new.rises.0 new.no_tasks queue;
  waiters = still_below new.first x tasks tasks2 new.rises.0 new.rises.1 new.waiters queue;
}

-- what is known of executions tells what they go by
pub homes_of : (more : List Fresh) (known known2 : ℕ → Option Known)
    → ((e : ℕ) → known2 e ≡ with_fresh (λ (x : Fresh). x.known) more known e)
    → (e : ℕ) → option_map (λ (x : Known). x.home) (known2 e)
    ≡ with_fresh (λ (x : Fresh). x.known.home) more (λ n. option_map (λ (x : Known). x.home) (known n)) e
homes_of more known known2 is e = ap (option_map (λ (x : Known). x.home)) (is e) ∙ go (fresh_at more e)
  where
    go : (o : Option Fresh) → option_map (λ (x : Known). x.home) (option_map_or (λ (x : Fresh). Some x.known) o (known e))
        ≡ option_map_or (λ (x : Fresh). Some x.known.home) o (option_map (λ (x : Known). x.home) (known e))
    go None = refl
    go (Some x) = refl

-- the last of them is the first of those that are told
pub popped : (old new : List Fresh) (x : Fresh) → old ≡ new ++ x ∷ [] → reverse old ≡ x ∷ reverse new
popped old new x is = ap reverse is ∙ reverse-append new (x ∷ [])

pub popped_len : (old new : List Fresh) (x : Fresh) → old ≡ new ++ x ∷ [] → length old ≡ suc (length new)
popped_len old new x is = ap (λ (xs : List Fresh). length xs) is ∙ go new
  where
    go : (xs : List Fresh) → length (xs ++ x ∷ []) ≡ suc (length xs)
    go [] = refl
    go (y ∷ xs) = ap suc (go xs)

pub links_more : (x : Fresh) (more : List Fresh) → length (flat_map (λ (y : Fresh). y.task.inputs) (x ∷ more))
    ≡ length x.task.inputs + length (flat_map (λ (y : Fresh). y.task.inputs) more)
links_more x more = length-append x.task.inputs (flat_map (λ (y : Fresh). y.task.inputs) more)

pub none_left : (xs : List Fresh) → length xs ≡ 0 → reverse xs ≡ []
none_left [] is = refl
none_left (x ∷ xs) is = absurd (omega (arith, is))

pub links_of : (more : List Fresh) → length (flat_map (λ (y : Task). y.inputs) (map (λ (y : Fresh). y.task) more))
    ≡ length (flat_map (λ (y : Fresh). y.task.inputs) more)
links_of [] = refl
links_of (x ∷ more) = length-append x.task.inputs (flat_map (λ (y : Task). y.inputs) (map (λ (y : Fresh). y.task) more))
    ∙ ap (λ n. length x.task.inputs + n) (links_of more) ∙ sym (links_more x more)

-- where nothing was there
pub none_by : {X : Type 0} (o : Option X) (P : Type 0) (Q : X → Type 0) → MatchOption o P Q → o ≡ None → P
none_by None P Q so is = so
none_by (Some x) P Q so is = absurd (cc)

pub new_for : {R : Type 0} (xs ys : List Fresh) (rows : ℕ → Option (Execution R)) (homes : ℕ → Option Known)
    (tasks : ℕ → Option Standing) → xs ≡ ys → AreNew xs rows homes tasks → AreNew ys rows homes tasks
new_for xs ys rows homes tasks same new = subst (λ zs. AreNew zs rows homes tasks) same new
