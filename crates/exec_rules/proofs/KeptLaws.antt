-- How many commands keep their evaluations, in the subject's words.
use Rattle.std.proofs.Common.{◌≡◌, ℕ, zero, suc, ◌<◌, ◌≤◌, Bool, true, false, cond, List, [], ◌∷◌, refl, ap, ◌∙◌, arith}
use Rattle.std.specs.Prelude.{slice_get}
use Rattle.doc_nodes.specs.declared.node.Entry.{Entry}
use Rattle.exec_rules.specs.declared.row.Row.{Row}
use Rattle.exec_rules.specs.Kept.{Times, keeps, kept_count, KeepsAt}

first_at : (t : Times) (e b : Entry) (r : Row) (es bs : List Entry) (rs : List Row) → keeps t e b r ≡ true
    → KeepsAt t (e ∷ es) (b ∷ bs) (r ∷ rs) zero
first_at t e b r es bs rs keeping =
    record { command = e; old = b; row = r; stands = refl; stood = refl; had = refl; keeping = keeping }

-- a command keeps its evaluation where the same stand elsewhere
at_other : (t : Times) (now before : List Entry) (rows : List Row) (i : ℕ) (others olds : List Entry) (had : List Row) (j : ℕ)
    → slice_get others j ≡ slice_get now i → slice_get olds j ≡ slice_get before i → slice_get had j ≡ slice_get rows i
    → KeepsAt t now before rows i → KeepsAt t others olds had j
at_other t now before rows i others olds had j same_now same_old same_row at = record {
  command = at.command;
  old = at.old;
  row = at.row;
  stands = same_now ∙ at.stands;
  stood = same_old ∙ at.stood;
  had = same_row ∙ at.had;
  keeping = at.keeping;
}

first_keeps : (t : Times) (e b : Entry) (r : Row) (es bs : List Entry) (rs : List Row)
    → KeepsAt t (e ∷ es) (b ∷ bs) (r ∷ rs) zero → keeps t e b r ≡ true
first_keeps t e b r es bs rs at =
    let command : e ≡ at.command = cc in
    let old : b ≡ at.old = cc in
    let row : r ≡ at.row = cc in
    ap (λ x. keeps t x b r) command ∙ ap (λ x. keeps t at.command x r) old
    ∙ ap (λ x. keeps t at.command at.old x) row ∙ at.keeping

all_by : (t : Times) (e b : Entry) (r : Row) (es bs : List Entry) (rs : List Row) (k : Bool) → keeps t e b r ≡ k
    → ((j : ℕ) → j < kept_count t es bs rs → KeepsAt t es bs rs j) → (i : ℕ)
    → i < cond k (suc (kept_count t es bs rs)) 0
    → KeepsAt t (e ∷ es) (b ∷ bs) (r ∷ rs) i
all_by t e b r es bs rs false same rest i lt = absurd (omega arith)
all_by t e b r es bs rs true same rest zero lt = first_at t e b r es bs rs same
all_by t e b r es bs rs true same rest (suc i) lt = at_other t es bs rs i (e ∷ es) (b ∷ bs) (r ∷ rs) (suc i) refl refl refl (rest i (omega arith))

pub kept_all : (t : Times) (es bs : List Entry) (rs : List Row) (i : ℕ)
    → i < kept_count t es bs rs → KeepsAt t es bs rs i
kept_all t [] bs rs i lt = absurd (omega arith)
kept_all t (e ∷ es) [] rs i lt = absurd (omega arith)
kept_all t (e ∷ es) (b ∷ bs) [] i lt = absurd (omega arith)
kept_all t (e ∷ es) (b ∷ bs) (r ∷ rs) i lt =
    all_by t e b r es bs rs (keeps t e b r) refl (λ j less. kept_all t es bs rs j less) i lt

one_more : (k : Bool) (n m : ℕ) → k ≡ true → n ≤ m → suc n ≤ cond k (suc m) 0
one_more true n m same le = omega arith
one_more false n m same le = absurd (cc)

pub kept_greatest : (t : Times) (es bs : List Entry) (rs : List Row) (n : ℕ)
    → ((i : ℕ) → i < n → KeepsAt t es bs rs i) → n ≤ kept_count t es bs rs
kept_greatest t es bs rs zero all = omega arith
kept_greatest t [] bs rs (suc n) all = let at = all zero (omega arith) in let none = at.stands in absurd (cc)
kept_greatest t (e ∷ es) [] rs (suc n) all = let at = all zero (omega arith) in let none = at.stood in absurd (cc)
kept_greatest t (e ∷ es) (b ∷ bs) [] (suc n) all = let at = all zero (omega arith) in let none = at.had in absurd (cc)
kept_greatest t (e ∷ es) (b ∷ bs) (r ∷ rs) (suc n) all =
    one_more (keeps t e b r) n (kept_count t es bs rs)
    (first_keeps t e b r es bs rs (all zero (omega arith)))
    (kept_greatest t es bs rs n (λ i less. at_other t (e ∷ es) (b ∷ bs) (r ∷ rs) (suc i) es bs rs i refl refl refl (all (suc i) (omega arith))))
