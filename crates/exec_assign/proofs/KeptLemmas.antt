-- How many commands keep their evaluations, told by a test.
use Rattle.std.proofs.Common.{◌≡◌, ◌⊎◌, inl, inr, ℕ, zero, suc, ◌+◌, ◌<◌, ◌≤◌, true, false, List, length, Option, Some, None, refl, ap, sym, ◌∙◌, arith}
use Rattle.std.specs.Prelude.{slice_get}
use Rattle.std.proofs.lemmas.Bool.{false≢true, cases_lt}
use Rattle.std.proofs.lemmas.Option.{slice_get_within}
use Rattle.doc_nodes.specs.declared.node.Entry.{Entry}
use Rattle.exec_rules.specs.declared.row.Row.{Row}
use Rattle.exec_rules.specs.Kept.{Times, kept_count, KeepsAt}
use Rattle.exec_assign.specs.Keeping.{keeps_three, keeps_at}

-- where the test says so, the command can keep its evaluation
keeps_is : (t : Times) (es bs : List Entry) (rs : List Row) (i : ℕ) → keeps_at t es bs rs i ≡ true → KeepsAt t es bs rs i
keeps_is t es bs rs i e = go (slice_get es i) (slice_get bs i) (slice_get rs i) refl refl refl e
  where
    go : (a b : Option Entry) (r : Option Row) → slice_get es i ≡ a → slice_get bs i ≡ b → slice_get rs i ≡ r
        → keeps_three t a b r ≡ true → KeepsAt t es bs rs i
    go None b r ea eb er e = absurd (cc)
    go (Some x) None r ea eb er e = absurd (cc)
    go (Some x) (Some y) None ea eb er e = absurd (cc)
    go (Some x) (Some y) (Some z) ea eb er e =
        record { command = x; old = y; row = z; stands = ea; stood = eb; had = er; keeping = e }

pub is_kept : (t : Times) (es bs : List Entry) (rs : List Row) (i : ℕ) → KeepsAt t es bs rs i → keeps_at t es bs rs i ≡ true
is_kept t es bs rs i at =
    ap (λ a. keeps_three t a (slice_get bs i) (slice_get rs i)) at.stands
    ∙ ap (λ b. keeps_three t (Some at.command) b (slice_get rs i)) at.stood
    ∙ ap (λ r. keeps_three t (Some at.command) (Some at.old) r) at.had ∙ at.keeping

pub keeps_within : (t : Times) (es bs : List Entry) (rs : List Row) (i : ℕ) → keeps_at t es bs rs i ≡ true → i < length es
keeps_within t es bs rs i e = slice_get_within es i _ (keeps_is t es bs rs i e).stands

-- the first place where the test says no tells how many are kept
pub kept_is : (t : Times) (es bs : List Entry) (rs : List Row) (n : ℕ)
    → ((i : ℕ) → i < kept_count t es bs rs → KeepsAt t es bs rs i)
    → (((i : ℕ) → i < n → KeepsAt t es bs rs i) → n ≤ kept_count t es bs rs)
    → ((j : ℕ) → j < n → keeps_at t es bs rs j ≡ true) → keeps_at t es bs rs n ≡ false
    → n ≡ kept_count t es bs rs
kept_is t es bs rs n kept_all greatest all none =
    let le : n ≤ kept_count t es bs rs = greatest (λ i lt. keeps_is t es bs rs i (all i lt)) in
    go (cases_lt n (kept_count t es bs rs)) le
  where
    go : (n < kept_count t es bs rs) ⊎ (kept_count t es bs rs ≤ n) → n ≤ kept_count t es bs rs
        → n ≡ kept_count t es bs rs
    go (inl lt) le = absurd (false≢true (sym none ∙ is_kept t es bs rs n (kept_all n lt)))
    go (inr ge) le = omega arith

-- one more
pub kept_more : (t : Times) (es bs : List Entry) (rs : List Row) (n : ℕ)
    → ((j : ℕ) → j < n → keeps_at t es bs rs j ≡ true) → keeps_at t es bs rs n ≡ true
    → (j : ℕ) → j < n + 1 → keeps_at t es bs rs j ≡ true
kept_more t es bs rs n all here j lt = go (cases_lt j n)
  where
    go : (j < n) ⊎ (n ≤ j) → keeps_at t es bs rs j ≡ true
    go (inl less) = all j less
    go (inr more) = let same : j ≡ n = omega arith in ap (keeps_at t es bs rs) same ∙ here

-- no more are kept than there are rows
pub kept_rows : (t : Times) (es bs : List Entry) (rs : List Row) (n : ℕ) → ((j : ℕ) → j < n → keeps_at t es bs rs j ≡ true) → n ≤ length rs
kept_rows t es bs rs zero all = omega arith
kept_rows t es bs rs (suc m) all =
    let at = keeps_is t es bs rs m (all m (omega arith)) in
    let within : m < length rs = slice_get_within rs m _ at.had in omega arith

-- nor commands
pub kept_commands : (t : Times) (es bs : List Entry) (rs : List Row) (n : ℕ) → ((j : ℕ) → j < n → keeps_at t es bs rs j ≡ true) → n ≤ length es
kept_commands t es bs rs zero all = omega arith
kept_commands t es bs rs (suc m) all = let within = keeps_within t es bs rs m (all m (omega arith)) in omega arith
