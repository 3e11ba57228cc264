-- A number among others, whichever side comes first.
use Rattle.std.proofs.Common.{◌≡◌, ℕ, Bool, true, false, ◌||◌, List, [], ◌∷◌, refl, ap, sym, ◌∙◌}
use Rattle.std.proofs.lemmas.Bool.{false≢true, eqb-true, eq-eqb}
use Rattle.std.specs.Prelude.{◌==◌}
use Rattle.std.specs.List.{list_any}
use Rattle.text_words.specs.Members.{has}

pub has_turned : (xs : List ℕ) (e : ℕ) → list_any (λ id. id == e) xs ≡ has xs e
has_turned [] e = refl
has_turned (x ∷ xs) e = ap (λ b. b || list_any (λ id. id == e) xs) (go (x == e) refl (e == x) refl)
    ∙ ap (λ b. (e == x) || b) (has_turned xs e)
  where
    go : (a : Bool) → (x == e) ≡ a → (b : Bool) → (e == x) ≡ b → (x == e) ≡ (e == x)
    go true same true other = same ∙ sym other
    go false same false other = same ∙ sym other
    go true same false other = absurd (false≢true (sym other ∙ eq-eqb e x (sym (eqb-true x e same))))
    go false same true other = absurd (false≢true (sym same ∙ eq-eqb x e (sym (eqb-true e x other))))
