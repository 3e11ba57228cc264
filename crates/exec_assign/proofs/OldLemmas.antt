-- What a node keeps: how much at most, and that its numbers are old.
use Rattle.std.proofs.Common.{◌≡◌, ℕ, zero, suc, ◌<◌, Bool, true, false, cond, List, [], ◌∷◌, map, take, Option, Some, None, refl, subst}
use Rattle.std.specs.Prelude.{slice_get}
use Rattle.text_words.specs.Members.{has}
use Rattle.doc_nodes.specs.declared.node.Entry.{Entry}
use Rattle.exec_rules.specs.declared.row.Row.{Row}
use Rattle.exec_rules.specs.Kept.{Times, KeepsAt, kept_count}
use Rattle.exec_rules.specs.Rows.{live_print, live_prints}

-- no more keep their evaluations than there are commands, or rows before
abbrev pub AllKeep : Type 0
AllKeep = (t : Times) (es bs : List Entry) (rs : List Row) (i : ℕ) → i < kept_count t es bs rs
    → KeepsAt t es bs rs i

pub front_old : (rows : List Row) (k first : ℕ) → ((i : ℕ) (row : Row) → slice_get rows i ≡ Some row → row.evaluation < first)
    → (i y : ℕ) → slice_get (map (λ row. row.evaluation) (take k rows)) i ≡ Some y → y < first
front_old rows zero first old i y at = absurd (cc)
front_old [] (suc k) first old i y at = absurd (cc)
front_old (r ∷ rs) (suc k) first old zero y at =
    let same : r.evaluation ≡ y = cc in subst (λ z. z < first) same (old zero r refl)
front_old (r ∷ rs) (suc k) first old (suc i) y at = front_old rs k first (λ j row here. old (suc j) row here) i y at

pub live_is : (cancelled : List ℕ) (print : Option ℕ) (q : ℕ) → live_print cancelled print ≡ Some q → print ≡ Some q
live_is cancelled None q e = e
live_is cancelled (Some p) q e = go (has cancelled p) e
  where
    go : (b : Bool) → cond b None (Some p) ≡ Some q → Some p ≡ Some q
    go true e = absurd (cc)
    go false e = e

pub live_old : (cancelled : List ℕ) (rows : List Row) (k first : ℕ)
    → ((i : ℕ) (row : Row) → slice_get rows i ≡ Some row → (q : ℕ) → row.print ≡ Some q → q < first)
    → (i q : ℕ) → slice_get (live_prints cancelled rows k) i ≡ Some (Some q) → q < first
live_old cancelled rows zero first old i q at = absurd (cc)
live_old cancelled [] (suc k) first old i q at = absurd (cc)
live_old cancelled (r ∷ rs) (suc k) first old zero q at =
    let live : live_print cancelled r.print ≡ Some q = cc in old zero r refl q (live_is cancelled r.print q live)
live_old cancelled (r ∷ rs) (suc k) first old (suc i) q at = live_old cancelled rs k first (λ j row here. old (suc j) row here) i q at
