-- Tests on statements and lists of them.
use Rattle.std.proofs.Common.{◌≡◌, ◌≢◌, ◌⊎◌, ◌↔◌, ℕ, Bool, true, false, not, cond, IsTrue, List, [], ◌∷◌, refl, sym, ◌∙◌, subst, inl, inr, ⊎_elim}
use Rattle.std.proofs.lemmas.Bool.{or_parts, or_from}
use Rattle.nj_formula.specs.Statement.{Statement}
use Rattle.nj_formula.specs.Free.{is_free}
use Rattle.nj_kernel.specs.Sets.{members, ◌∖◌, Lists, IsFreshIn}
use Rattle.proof_state.specs.Same.{decide, is_first}
use Rattle.proof_state.proofs.KnownFirst.{first_is, is_first_of}
use Rattle.proof_checks.specs.Statements.{is_same, without, is_free_among}

pub same_is : (a b : Statement) → is_same a b ≡ true → a ≡ b
same_is a b e = first_is (decide a b) e

pub so_same : (a b : Statement) → a ≡ b → is_same a b ≡ true
so_same a b e = is_first_of (decide a b) e

-- a test that says yes just there is this test
pub tested : (a b : Statement) (r : Bool) → (IsTrue r ↔ (a ≡ b)) → r ≡ is_same a b
tested a b true iff = sym (so_same a b (iff.0 refl))
tested a b false iff = by (is_same a b) refl
  where
    by : (d : Bool) → is_same a b ≡ d → false ≡ d
    by true e = iff.1 (same_is a b e)
    by false e = refl

pub lists_without : (a : Statement) (s : List Statement) → Lists (without a s) (members s ∖ a)
lists_without a [] = λ f. (λ m. elim m [ ], λ m. m.0)
lists_without a (g ∷ s) = by (lists_without a s) (decide g a)
  where
    by : Lists (without a s) (members s ∖ a) → (d : (g ≡ a) ⊎ (g ≢ a)) → Lists (cond (not (is_first d)) (g ∷ without a s) (without a s)) (members (g ∷ s) ∖ a)
    by rest (inl same) f = (
      λ m. let kept = (rest f).0 m in (inr kept.0, kept.1),
      λ m. ⊎_elim (λ e. absurd (m.1 (sym e ∙ same))) (λ n. (rest f).1 (n, m.1)) m.0,
    )
    by rest (inr other) f = (
      λ m. ⊎_elim (λ e. (inl e, λ h. other (e ∙ h))) (λ n. let kept = (rest f).0 n in (inr kept.0, kept.1)) m,
      λ m. ⊎_elim (λ e. inl e) (λ n. inr ((rest f).1 (n, m.1))) m.0,
    )

pub fresh_among : (x : List ℕ) (s : List Statement) → is_free_among x s ≡ false → IsFreshIn x (members s)
fresh_among x [] e f m = elim m [ ]
fresh_among x (g ∷ s) e f m =
    let parts = or_parts (is_free x g) (is_free_among x s) e in
    ⊎_elim (λ is. subst (λ h. is_free x h ≡ false) is parts.0) (λ n. fresh_among x s parts.1 f n) m

pub among_fresh : (x : List ℕ) (s : List Statement) → IsFreshIn x (members s) → is_free_among x s ≡ false
among_fresh x [] fresh = refl
among_fresh x (g ∷ s) fresh =
    or_from (is_free x g) (is_free_among x s) (fresh g (inl refl)) (among_fresh x s (λ f m. fresh f (inr m)))

-- what is free in none of a list with one more
pub first_fresh : (x : List ℕ) (g : Statement) (s : List Statement) → is_free_among x (g ∷ s) ≡ false → (is_free x g ≡ false) × (is_free_among x s ≡ false)
first_fresh x g s e = or_parts (is_free x g) (is_free_among x s) e

pub more_fresh : (x : List ℕ) (g : Statement) (s : List Statement) → is_free x g ≡ false → is_free_among x s ≡ false → is_free_among x (g ∷ s) ≡ false
more_fresh x g s e h = or_from (is_free x g) (is_free_among x s) e h
