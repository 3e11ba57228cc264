-- The new executions of a plan, by their numbers.
use Rattle.std.proofs.Common.{◌≡◌, ◌⊎◌, inl, inr, ℕ, suc, ◌+◌, ◌<◌, ◌≤◌, true, cond, not, List, [], ◌∷◌, length, map, Some, None, refl, ap, sym, subst, ◌∙◌, arith}
use Rattle.std.proofs.lemmas.Bool.{eq-eqb, ne_eqb, cases_lt, and_parts}
use Rattle.text_words.specs.Members.{has}
use Rattle.core_tables.specs.declared.task.Task.{Task}
use Rattle.exec_rules.specs.declared.home.Home.{Home}
use Rattle.core_rules.specs.declared.event.Event.{Event}
use Rattle.core_rules.specs.Numbered.{numbered, grown}
use Rattle.core_rules.specs.Parts.{sources_of, evaluation}
use Rattle.core_rules.specs.Standing.{is_finished}
use Rattle.update_plans.specs.declared.beginning.Fresh.{Fresh}
use Rattle.prover_core.specs.Plans.{IsTaskFor, AreTasksFor}
use Rattle.prover_core.specs.Fresh.{number_of, fresh_at, RiseFrom}
use Rattle.core_rules.proofs.KnownNumbers.{numbered_within}
use Rattle.prover_core.proofs.Olders.{numbered_last}
use Rattle.prover_core.proofs.GrownHomes.{number_grown}

-- what new executions go by, and their tasks
abbrev pub homes_in : List Fresh → List Home
homes_in fresh = map (λ (f : Fresh). f.known.home) fresh

abbrev pub tasks_in : List Fresh → List Task
tasks_in fresh = map (λ (f : Fresh). f.task) fresh

module _ (h : List Event) where
  pub none_before : (n e : ℕ) (fresh : List Fresh) → AreTasksFor h n (homes_in fresh) (tasks_in fresh) → e < n → fresh_at fresh e ≡ None
  none_before n e [] are lt = refl
  none_before n e (f ∷ fresh) are lt =
      ap (λ b. cond b (Some f) (fresh_at fresh e)) (ne_eqb (number_of f) e (λ same. absurd (omega (arith, same, lt, are.0.exec))))
      ∙ none_before (suc n) e fresh are.1 (omega (arith, lt))

  pub none_behind : (n e : ℕ) (fresh : List Fresh) → AreTasksFor h n (homes_in fresh) (tasks_in fresh) → n + length fresh ≤ e
      → fresh_at fresh e ≡ None
  none_behind n e [] are le = refl
  none_behind n e (f ∷ fresh) are le =
      ap (λ b. cond b (Some f) (fresh_at fresh e)) (ne_eqb (number_of f) e (λ same. absurd (omega (arith, same, le, are.0.exec))))
      ∙ none_behind (suc n) e fresh are.1 (omega (arith, le))

  -- the new execution of a number
  pub record Found (fresh : List Fresh) (e : ℕ) (x : Home) : Type 0 where
    pub one : Fresh
    pub at : fresh_at fresh e ≡ Some one
    pub task : IsTaskFor h e x one.task
    pub home : one.known.home ≡ x

  newest : (x : Home) (hs : List Home) (more : List Home) (e : ℕ) (y : Home) → e ≡ suc (length hs)
      → numbered (grown (x ∷ hs) more) e ≡ Some y → x ≡ y
  newest x hs more e y is at =
      let here : Some x ≡ Some y = sym (numbered_last x hs e is) ∙ sym (number_grown (x ∷ hs) more e (omega (arith, is))) ∙ at in cc

  pub found : (hs : List Home) (fresh : List Fresh) → AreTasksFor h (suc (length hs)) (homes_in fresh) (tasks_in fresh) → (e : ℕ) (x : Home)
      → length hs < e → numbered (grown hs (homes_in fresh)) e ≡ Some x → Found fresh e x
  found hs [] are e x past at = let le = numbered_within hs e x at in absurd (omega (arith, past, le))
  found hs (f ∷ fresh) are e x past at = go (cases_lt (suc (length hs)) e) (λ lt. found (f.known.home ∷ hs) fresh are.1 e x lt at)
    where
      go : (suc (length hs) < e) ⊎ (e ≤ suc (length hs)) → (suc (length hs) < e → Found fresh e x) → Found (f ∷ fresh) e x
      go (inl lt) rest =
          let behind = rest lt in record {
            one = behind.one;
            at = ap (λ b. cond b (Some f) (fresh_at fresh e)) (ne_eqb (number_of f) e (λ same. absurd (omega (arith, same, lt, are.0.exec)))) ∙ behind.at;
            task = behind.task;
            home = behind.home;
          }
      go (inr le) rest =
          let is : e ≡ suc (length hs) = omega (arith, le, past) in
          let same = newest f.known.home hs (homes_in fresh) e x is at in record {
            one = f;
            at = ap (λ b. cond b (Some f) (fresh_at fresh e)) (eq-eqb (number_of f) e (omega (arith, is, are.0.exec)));
            task = subst (λ (y : Home). IsTaskFor h e y f.task) same
                (subst (λ n. IsTaskFor h n f.known.home f.task) (sym is) are.0);
            home = same;
          }

  -- they rise, where executions take up older ones
  pub rise : (hs : List Home) (fresh : List Fresh) → AreTasksFor h (suc (length hs)) (homes_in fresh) (tasks_in fresh)
      → ((e : ℕ) (x : Home) → length hs < e → numbered (grown hs (homes_in fresh)) e ≡ Some x → (q : ℕ)
      → has (sources_of x.input) q ≡ true → q < e) → RiseFrom (suc (length hs)) fresh
  rise hs [] are older = tt
  rise hs (f ∷ fresh) are older = (
    omega (arith, are.0.exec),
    λ q is. here q (and_parts (has (sources_of f.known.home.input) q) (not (is_finished h (evaluation q))) (sym (are.0.waits q) ∙ is)).0,
    subst (λ n. RiseFrom (suc n) fresh) (sym are.0.exec)
        (rise (f.known.home ∷ hs) fresh are.1 (λ e x lt at. older e x (omega (arith, lt)) at)),
  )
    where
      here : (q : ℕ) → has (sources_of f.known.home.input) q ≡ true → q < number_of f
      here q is =
          let lt = older (suc (length hs)) f.known.home (omega arith)
          (number_grown (f.known.home ∷ hs) (homes_in fresh) (suc (length hs)) (omega arith)
          ∙ numbered_last f.known.home hs (suc (length hs)) refl) q is in
          omega (arith, lt, are.0.exec)
