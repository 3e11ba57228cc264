-- Whether a fact is called so.
use Rattle.std.proofs.Common.{◌≡◌, ◌≢◌, ℕ, Bool, true, false, not, ◌&&◌, List, refl, ◌∙◌, ap}
use Rattle.std.specs.Str.{bytes_eq}
use Rattle.std.proofs.lemmas.Cmp.{nat_list_eq_equiv}
use Rattle.std.proofs.lemmas.Slice.Eq.{bytes_eq-Decides}
use Rattle.std.proofs.Math.Bool.{and-false}
use Rattle.theory_ctx.specs.Facts.{Fact, is_called, is_import}

pub differ : (a b : List ℕ) → a ≢ b → bytes_eq a b ≡ false
differ a b other = go (bytes_eq a b) refl
  where
    go : (c : Bool) → bytes_eq a b ≡ c → c ≡ false
    go true e = absurd (other ((bytes_eq-Decides a b).0 e))
    go false e = refl

-- a fact is called as it is
pub called_itself : (x : Fact) → is_called x.0.theory x.0.name x ≡ true
called_itself x =
    ap (λ b. b && bytes_eq x.0.name x.0.name) (nat_list_eq_equiv.refl x.0.theory) ∙ nat_list_eq_equiv.refl x.0.name

-- by another name it is neither an own nor an imported fact
pub called_other : (x : Fact) (t n : List ℕ) → x.0.name ≢ n → is_called t n x ≡ false
called_other x t n other = ap (λ b. bytes_eq x.0.theory t && b) (differ x.0.name n other) ∙ and-false (bytes_eq x.0.theory t)

pub import_other : (x : Fact) (own n : List ℕ) → x.0.name ≢ n → is_import own n x ≡ false
import_other x own n other =
    ap (λ b. not (bytes_eq x.0.theory own) && b) (differ x.0.name n other) ∙ and-false (not (bytes_eq x.0.theory own))

-- in another theory it is an imported one
pub called_elsewhere : (x : Fact) (own n : List ℕ) → x.0.theory ≢ own → is_called own n x ≡ false
called_elsewhere x own n other = ap (λ b. b && bytes_eq x.0.name n) (differ x.0.theory own other)

pub import_elsewhere : (x : Fact) (own : List ℕ) → x.0.theory ≢ own → is_import own x.0.name x ≡ true
import_elsewhere x own other =
    ap (λ b. not b && bytes_eq x.0.name x.0.name) (differ x.0.theory own other) ∙ nat_list_eq_equiv.refl x.0.name
