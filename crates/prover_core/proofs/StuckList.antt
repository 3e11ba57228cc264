-- What is stuck in a settled version.
use Rattle.std.proofs.Common.{◌≡◌, ℕ, Bool, true, false, cond, not, ◌&&◌, ◌||◌, List, filter, refl, ap, sym, ◌∙◌, [], ◌∷◌, length}
use Rattle.std.proofs.lemmas.Bool.{eqb-true, and_parts}
use Rattle.std.specs.Prelude.{◌==◌}
use Rattle.std.specs.List.{list_any, list_all, range_with_len}
use Rattle.std.specs.List.Sorted.{IsStrictlyIncreasing}
use Rattle.text_words.specs.Members.{has}
use Rattle.pide_base.specs.declared.part.Part.{Part}
use Rattle.exec_rules.specs.declared.version.Version.{Version}
use Rattle.language.specs.Lang.{Lang}
use Rattle.core_rules.specs.declared.event.Event.{Event}
use Rattle.core_rules.specs.Assigned.{executions_of, assigns, is_assigned}
use Rattle.core_rules.specs.Parts.{parts_of}
use Rattle.core_rules.specs.Standing.{is_finished, is_open}
use Rattle.core_rules.specs.Doc.{doc}
use Rattle.core_rules.specs.Stuck.{is_stuck, is_stuck_in, is_over, is_settled, stuck_in}
use Rattle.prover_core.specs.Kept.{Tables, IsKept}
use Rattle.core_jobs.specs.Parts.{is_unfinished}
use Rattle.prover_core.proofs.ShownRows.{open_risen}

-- what is stuck in a settled version is what is open in it
module _ {S : Type 0} (l : Lang S) (h : List Event) (t : Tables S) (k : IsKept l h t) (v : Version)
    (live : (e : ℕ) → assigns v e ≡ true → is_assigned (doc l h).live e ≡ true)
    (settled : is_settled l h (doc l h) v ≡ true) where
  passed : (test : ℕ → Bool) (xs : List ℕ) (e : ℕ) → list_all test xs ≡ true → has xs e ≡ true → test e ≡ true
  passed test [] e all is = absurd (cc)
  passed test (x ∷ xs) e all is = go (e == x) refl is (passed test xs e (and_parts (test x) (list_all test xs) all).1)
    where
      go : (b : Bool) → (e == x) ≡ b → (b || has xs e) ≡ true → (has xs e ≡ true → test e ≡ true) → test e ≡ true
      go true same is rest = ap test (eqb-true e x same) ∙ (and_parts (test x) (list_all test xs) all).0
      go false same is rest = rest is

  one_stuck : (a x : Bool) → (a || (not a && x)) ≡ true → not a ≡ (not a && x)
  one_stuck true x is = refl
  one_stuck false x is = sym is

  open_stuck : (ps : List Part) → list_all (λ p. is_finished h p || is_stuck h (doc l h) p) ps ≡ true
      → list_any (λ p. not (is_finished h p)) ps ≡ list_any (is_stuck h (doc l h)) ps
  open_stuck [] all = refl
  open_stuck (p ∷ ps) all =
      let parts = and_parts (is_finished h p || is_stuck h (doc l h) p)
      (list_all (λ q. is_finished h q || is_stuck h (doc l h) q) ps) all in
      ap (λ b. b || list_any (λ q. not (is_finished h q)) ps) (one_stuck (is_finished h p) _ parts.0)
      ∙ ap (λ b. is_stuck h (doc l h) p || b) (open_stuck ps parts.1)

  alike : (p q : ℕ → Bool) (xs : List ℕ) → ((e : ℕ) → p e ≡ q e) → filter p xs ≡ filter q xs
  alike p q [] same = refl
  alike p q (x ∷ xs) same = ap (λ b. cond b (x ∷ filter p xs) (filter p xs)) (same x)
      ∙ ap (λ ys. cond (q x) (x ∷ ys) ys) (alike p q xs same)

  -- an execution of a settled version is open where it is stuck
  pub open_is_stuck : (e : ℕ) → assigns v e ≡ true → is_open l h (doc l h).homes e ≡ is_stuck_in l h (doc l h) e
  open_is_stuck e is =
      open_stuck (parts_of l (doc l h).homes e) (passed (is_over l h (doc l h)) (executions_of v) e settled is)

  pub stuck_so : (kept : List ℕ) → IsStrictlyIncreasing kept
      → ((e : ℕ) → has kept e ≡ has (filter (λ m. is_unfinished (t.rows m)) (executions_of v)) e)
      → kept ≡ stuck_in l h (doc l h) v
  stuck_so kept rises same = open_risen l h t k (executions_of v) kept live rises same
      ∙ alike (λ e. has (executions_of v) e && is_open l h (doc l h).homes e) (λ e. assigns v e && is_stuck_in l h (doc l h) e)
      (range_with_len 1 (length (doc l h).homes)) (λ e. by e (assigns v e) refl)
    where
      by : (e : ℕ) (b : Bool) → assigns v e ≡ b
          → (assigns v e && is_open l h (doc l h).homes e) ≡ (assigns v e && is_stuck_in l h (doc l h) e)
      by e true is = ap (λ b. assigns v e && b) (open_is_stuck e is)
      by e false is = ap (λ b. b && is_open l h (doc l h).homes e) is ∙ sym (ap (λ b. b && is_stuck_in l h (doc l h) e) is)
