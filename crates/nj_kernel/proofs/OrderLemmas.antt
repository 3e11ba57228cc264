-- The order of statements is a total order.
use Rattle.std.proofs.Common.{◌≡◌, ◌≢◌, ◌⊎◌, refl, ap, sym, ◌∙◌, inl, inr}
use Rattle.std.specs.Ordering.{ordering_reverse}
use Rattle.std.specs.declared.cmp.Ordering.{Ordering}
use Rattle.std.specs.declared.cmp.Ordering.TheVariants.{Less, Equal, Greater}
use Rattle.std.specs.Cmp.{tied_itself}
use Rattle.std.proofs.lemmas.Cmp.{nat_list_cmp_total}
use Rattle.std.proofs.lemmas.Map.Lookups.{exact_bytes}
use Rattle.nj_formula.specs.Statement.{Statement}
use Rattle.nj_kernel.specs.Keys.{statement_key}
use Rattle.nj_kernel.specs.Order.{order}
use Rattle.nj_kernel.proofs.KeyLemmas.{key_injective}

pub equal_is : (a b : Statement) → order a b ≡ Equal → a ≡ b
equal_is a b e = key_injective a b (exact_bytes (statement_key a) (statement_key b) e)

pub itself : (a : Statement) → order a a ≡ Equal
itself a = tied_itself nat_list_cmp_total (statement_key a)

pub chain : (a b c : Statement) → order a b ≡ Less → order b c ≡ Less → order a c ≡ Less
chain a b c = nat_list_cmp_total.trans (statement_key a) (statement_key b) (statement_key c)

pub turned : (a b : Statement) → order a b ≡ Greater → order b a ≡ Less
turned a b e = by (order b a) (sym e ∙ nat_list_cmp_total.antisymm (statement_key a) (statement_key b))
  where
    by : (r : Ordering) → Greater ≡ ordering_reverse r → r ≡ Less
    by Less h = refl
    by Equal h = cc
    by Greater h = cc

-- two statements are the same or not
pub decide : (a b : Statement) → (a ≡ b) ⊎ (a ≢ b)
decide a b = by (order a b) refl
  where
    other : (r : Ordering) → order a b ≡ r → (r ≡ Equal → ⊥) → a ≡ b → ⊥
    other r e unlike same = unlike (sym e ∙ (sym (ap (order a) same) ∙ itself a))

    by : (r : Ordering) → order a b ≡ r → (a ≡ b) ⊎ (a ≢ b)
    by Less e = inr (other Less e (λ h. cc))
    by Equal e = inl (equal_is a b e)
    by Greater e = inr (other Greater e (λ h. cc))
