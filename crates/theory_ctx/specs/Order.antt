-- The order of facts: by their names, then by their theories, in the order of bytes (this project's
-- own).
use Rattle.std.specs.Prelude.{◌≡◌, ℕ, List}
use Rattle.std.specs.declared.cmp.Ordering.{Ordering}
use Rattle.std.specs.declared.cmp.Ordering.TheVariants.{Less, Equal, Greater}
use Rattle.std.specs.Ordering.{nat_cmp, ordering_then, ordering_reverse}
use Rattle.std.specs.Cmp.Lexicographic.{slice_cmp}
use Rattle.std.specs.Cmp.{IsTotalOrder}
use Rattle.std.proofs.Common.{refl, sym, ◌∙◌, ap}
use Rattle.std.proofs.lemmas.Cmp.{nat_list_cmp_total, on_total, then_total}
use Rattle.shared_map.specs.Cuts.{IsCut}
use Rattle.theory_ctx.specs.declared.fact_name.FactName.{FactName}

-- the order of texts by their bytes
abbrev pub by_bytes : List ℕ → List ℕ → Ordering
by_bytes = slice_cmp nat_cmp

-- the order of facts
abbrev pub by_name : FactName → FactName → Ordering
by_name one other = ordering_then (by_bytes one.name other.name) (by_bytes one.theory other.theory)

-- where a fact lies to the facts of this name
abbrev pub to_name : List ℕ → FactName → Ordering
to_name n fact = by_bytes fact.name n

-- where a fact lies to this fact
abbrev pub to_fact : List ℕ → List ℕ → FactName → Ordering
to_fact t n fact = ordering_then (by_bytes fact.name n) (by_bytes fact.theory t)

pub by_name_total : IsTotalOrder by_name
by_name_total = then_total (on_total (λ f. f.name) nat_list_cmp_total)
    (on_total (λ f. f.theory) nat_list_cmp_total)

pub is_cut-to_name : (n : List ℕ) → IsCut by_name (to_name n)
is_cut-to_name n = record {
  before = λ one other rise less. go one other less (by_bytes one.name other.name) refl rise;
  behind = λ one other rise greater.
      back one other greater (by_bytes one.name other.name) refl rise;
}
  where
    go : (one other : FactName) → to_name n other ≡ Less
        → (o : Ordering) → by_bytes one.name other.name ≡ o
        → ordering_then o (by_bytes one.theory other.theory) ≡ Less → to_name n one ≡ Less
    go one other less Less e rise = nat_list_cmp_total.trans one.name other.name n e less
    go one other less Equal e rise = nat_list_cmp_total.congr one.name other.name n e ∙ less
    go one other less Greater e rise = cc

    back : (one other : FactName) → to_name n one ≡ Greater
        → (o : Ordering) → by_bytes one.name other.name ≡ o
        → ordering_then o (by_bytes one.theory other.theory) ≡ Less → to_name n other ≡ Greater
    back one other greater Less e rise =
        nat_list_cmp_total.antisymm other.name n
        ∙ ap ordering_reverse (nat_list_cmp_total.trans n one.name other.name
        (nat_list_cmp_total.antisymm n one.name ∙ ap ordering_reverse greater) e)
    back one other greater Equal e rise =
        sym (nat_list_cmp_total.congr one.name other.name n e) ∙ greater
    back one other greater Greater e rise = cc
