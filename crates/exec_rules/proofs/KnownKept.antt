-- How many commands keep their evaluations, at most.
use Rattle.std.proofs.Common.{ℕ, suc, ◌≤◌, Bool, true, false, cond, List, [], ◌∷◌, length, arith, ◌≡◌, Option, Some, None, refl, ap}
use Rattle.doc_nodes.specs.declared.node.Entry.{Entry}
use Rattle.doc_nodes.proofs.KnownNames.{name_is}
use Rattle.exec_rules.specs.declared.row.Row.{Row}
use Rattle.exec_rules.specs.Kept.{Times, keeps, kept_count, agree}

within_by : (k : Bool) (n m : ℕ) → n ≤ m → cond k (suc n) 0 ≤ suc m
within_by true n m le = omega arith
within_by false n m le = omega arith

-- no more are kept than there are commands, or rows before
pub kept_commands : (t : Times) (es bs : List Entry) (rs : List Row)
    → kept_count t es bs rs ≤ length es
kept_commands t [] bs rs = omega arith
kept_commands t (e ∷ es) [] rs = omega arith
kept_commands t (e ∷ es) (b ∷ bs) [] = omega arith
kept_commands t (e ∷ es) (b ∷ bs) (r ∷ rs) =
    within_by (keeps t e b r) (kept_count t es bs rs) (length es) (kept_commands t es bs rs)

pub kept_rows : (t : Times) (es bs : List Entry) (rs : List Row)
    → kept_count t es bs rs ≤ length rs
kept_rows t [] bs rs = omega arith
kept_rows t (e ∷ es) [] rs = omega arith
kept_rows t (e ∷ es) (b ∷ bs) [] = omega arith
kept_rows t (e ∷ es) (b ∷ bs) (r ∷ rs) =
    within_by (keeps t e b r) (kept_count t es bs rs) (length rs) (kept_rows t es bs rs)

-- names that agree are the same
pub agree_is : (a b : Option (List ℕ)) → agree a b ≡ true → a ≡ b
agree_is None None e = refl
agree_is None (Some y) e = absurd (cc)
agree_is (Some x) None e = absurd (cc)
agree_is (Some x) (Some y) e = ap (λ z. Some z) (name_is x y e)
