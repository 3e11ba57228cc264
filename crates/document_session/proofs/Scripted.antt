-- Whether a worker whom messages name holds a part is whether jobs are kept.
use Rattle.std.proofs.Common.{◌≡◌, ℕ, zero, suc, ◌+◌, ◌<◌, ◌≤◌, Bool, true, false, cond, not, List, [], ◌∷◌, length, Option, Some, refl, sym, ap, ◌∙◌, arith, eq-eqb}
use Rattle.std.proofs.lemmas.Bool.{eqb-true, eqb-false}
use Rattle.std.specs.Prelude.{◌==◌, ◌||◌, ◌↔◌, is_some}
use Rattle.std.specs.List.{list_any, range_with_len}
use Rattle.std.specs.Map.{lookup}
use Rattle.core_rules.specs.Standing.{held}
use Rattle.pide_base.specs.declared.part.Part.{Part}
use Rattle.language.specs.Lang.{Lang}
use Rattle.message_values.specs.Workers.{most_workers}
use Rattle.session_rules.specs.declared.service.Service.{Service}
use Rattle.session_rules.specs.declared.service.Service.TheVariants.{Workers, Script}
use Rattle.session_rules.specs.Services.{is_held_by_script}
use Rattle.session_rules.specs.Session.{Session}
use Rattle.keeping_rules.specs.session_replies_below.Works.{Work}
use Rattle.keeping_rules.specs.Kept.{AreKeptJobs}

none_in : (f : ℕ → Bool) (a n : ℕ) → ((w : ℕ) → a ≤ w → w < a + n → f w ≡ false) → list_any f (range_with_len a n) ≡ false
none_in f a zero each = refl
none_in f a (suc n) each = ap (λ b. b || list_any f (range_with_len (a + 1) n)) (each a (omega arith) (omega arith))
    ∙ none_in f (a + 1) n (λ w least most. each w (omega (arith, least)) (omega (arith, most)))

one_in : (f : ℕ → Bool) (a n w : ℕ) → a ≤ w → w < a + n → f w ≡ true → list_any f (range_with_len a n) ≡ true
one_in f a zero w least most is = absurd (omega (arith, least, most))
one_in f a (suc n) w least most is = go (f a) refl (a == w) refl (λ more. one_in f (a + 1) n w more (omega (arith, most)) is)
  where
    go : (b : Bool) → f a ≡ b → (c : Bool) → (a == w) ≡ c → (a + 1 ≤ w → list_any f (range_with_len (a + 1) n) ≡ true)
        → (b || list_any f (range_with_len (a + 1) n)) ≡ true
    go true e c same rest = refl
    go false e true same rest = let at : f w ≡ f a = ap f (sym (eqb-true a w same)) in absurd (cc)
    go false e false same rest = rest (omega (arith, least, eqb-false a w same))

module _ {S : Type 0} (l : Lang S) (s : Session) (entries : List (ℕ × Work S)) where
  abbrev kept : ℕ → Option (Work S)
  kept who = lookup (λ x. who == x) entries

  -- the first job that is kept
  first : (who : ℕ) (work : Work S) (rest : List (ℕ × Work S)) → entries ≡ (who, work) ∷ rest → kept who ≡ Some work
  first who work rest is = ap (λ (es : List (ℕ × Work S)). lookup (λ x. who == x) es) is
      ∙ ap (λ b. cond b (Some work) (lookup (λ x. who == x) rest)) (eq-eqb who who refl)

  is_none : (service : Service) → AreKeptJobs l service s kept → entries ≡ [] → is_held_by_script service s.events ≡ false
  is_none Script are none = none_in (λ w. is_some (held s.events w)) 1 most_workers (λ w least most.
      ap (λ (o : Option Part). is_some o) (are.all w refl (least, omega (arith, most))
      (ap (λ (es : List (ℕ × Work S)). lookup (λ x. w == x) es) none)))
  is_none (Workers count) are none = refl

  is_one : (service : Service) → AreKeptJobs l service s kept → (one : ℕ × Work S) (rest : List (ℕ × Work S)) → entries ≡ one ∷ rest
      → is_held_by_script service s.events ≡ true
  is_one Script are one rest is =
      let at = first one.0 one.1 rest is in
      let worker = (are.only one.0 one.1 at).1 in
      one_in (λ w. is_some (held s.events w)) 1 most_workers one.0 worker.0 (omega (arith, worker.1))
      (ap (λ (o : Option Part). is_some o) (are.right one.0 one.1 at).holds)
  is_one (Workers count) are one rest is =
      let script = (are.only one.0 one.1 (first one.0 one.1 rest is)).0 in absurd (cc)

  -- some are kept
  pub held_by_script : (service : Service) → AreKeptJobs l service s kept → (b : Bool) → (b ≡ true) ↔ (length entries ≡ 0)
      → not b ≡ is_held_by_script service s.events
  held_by_script service are b iff = go b entries refl iff
    where
      go : (b : Bool) (es : List (ℕ × Work S)) → entries ≡ es → (b ≡ true) ↔ (length entries ≡ 0) → not b ≡ is_held_by_script service s.events
      go true [] none iff = sym (is_none service are none)
      go false [] none iff = let is : false ≡ true = iff.1 (ap (λ (es : List (ℕ × Work S)). length es) none) in absurd (cc)
      go false (one ∷ rest) some iff = sym (is_one service are one rest some)
      go true (one ∷ rest) some iff =
          let none : length entries ≡ 0 = iff.0 refl in
          let more : length entries ≡ suc (length rest) = ap (λ (es : List (ℕ × Work S)). length es) some in absurd (omega (arith, none, more))
