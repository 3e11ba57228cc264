-- The facts of one name, and the fact of one name and theory.
use Rattle.std.proofs.Common.{◌≡◌, ℕ, Bool, true, false, not, ◌&&◌, cond, List, [], ◌∷◌, Some, None, refl, sym, ◌∙◌, ap}
use Rattle.std.specs.Prelude.{find}
use Rattle.std.specs.Ordering.{is_eq}
use Rattle.std.specs.Str.{bytes_eq}
use Rattle.std.proofs.lemmas.Map.Text.{is_eq-slice_cmp}
use Rattle.std.proofs.lemmas.Option.{none-some}
use Rattle.shared_map.specs.Cuts.{within}
use Rattle.theory_ctx.specs.Facts.{Fact, is_called, fact_of, is_import, facts_elsewhere}
use Rattle.theory_ctx.specs.Order.{by_bytes, to_name, to_fact}
use Rattle.theory_ctx.proofs.KnownOrder.{both_equal}

-- a fact lies within the cut of a name and a theory where it is called so
called_by : (t n : List ℕ) (fact : Fact) → is_eq (to_fact t n fact.0) ≡ is_called t n fact
called_by t n fact =
    both_equal (by_bytes fact.0.name n) (by_bytes fact.0.theory t)
    ∙ ap (λ b. b && is_eq (by_bytes fact.0.name n)) (is_eq-slice_cmp fact.0.theory t)
    ∙ ap (λ b. bytes_eq fact.0.theory t && b) (is_eq-slice_cmp fact.0.name n)

pub fact_of_first : (t n : List ℕ) (facts : List Fact) → find (λ pair. is_eq (to_fact t n pair.0)) facts ≡ fact_of t n facts
fact_of_first t n [] = refl
fact_of_first t n (fact ∷ facts) =
    ap (λ b. cond b (Some fact) (find (λ pair. is_eq (to_fact t n pair.0)) facts)) (called_by t n fact)
    ∙ ap (cond (is_called t n fact) (Some fact)) (fact_of_first t n facts)

elsewhere : (own name : Bool) → (own && name) ≡ false → name ≡ (not own && name)
elsewhere true name e = e
elsewhere false name e = refl

-- where the own theory has none, the facts of a name are the imported ones
pub named_imported : (own n : List ℕ) (facts : List Fact) → fact_of own n facts ≡ None → within (to_name n) facts ≡ facts_elsewhere own n facts
named_imported own n [] none = refl
named_imported own n (fact ∷ facts) none = go (is_called own n fact) refl none (named_imported own n facts)
  where
    go : (b : Bool) → is_called own n fact ≡ b → cond b (Some fact) (fact_of own n facts) ≡ None
        → (fact_of own n facts ≡ None → within (to_name n) facts ≡ facts_elsewhere own n facts)
        → within (to_name n) (fact ∷ facts) ≡ facts_elsewhere own n (fact ∷ facts)
    go true e some more = absurd (none-some fact (sym some))
    go false e rest more =
        ap (λ b. cond b (fact ∷ within (to_name n) facts) (within (to_name n) facts))
        (is_eq-slice_cmp fact.0.name n ∙ elsewhere (bytes_eq fact.0.theory own) (bytes_eq fact.0.name n) e)
        ∙ ap (λ l. cond (is_import own n fact) (fact ∷ l) l) (more rest)
