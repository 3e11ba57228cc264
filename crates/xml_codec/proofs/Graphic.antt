-- Decimal texts are plain, and have no '='.
use Rattle.std.proofs.Common.{◌≡◌, ◌≢◌, ℕ, ◌<◌, ◌+◌, ◌^◌, ◌%◌, false, List, [], ◌∷◌, ◌++◌, ◌⊎◌, inl, inr, refl, arith, decimal}
use Rattle.std.specs.Bool.{◌==◌}
use Rattle.std.proofs.lemmas.Bool.{ne_eqb}
use Rattle.std.proofs.lemmas.Fmt.{decimal_by_steps}
use Rattle.yxml.specs.Normal.{Lacks, IsFilled}
use Rattle.text_words.proofs.KnownLists.{each-both}

-- digits, a sign and the like
pub record IsGraphic (bs : List ℕ) : Type 0 where
  pub some : bs ≢ []
  pub no_five : Lacks 5 bs
  pub no_six : Lacks 6 bs
  pub no_equals : Lacks 61 bs

digit-lacks : (c n : ℕ) → n < 10 → (c < 48) ⊎ (57 < c) → ((48 + n) == c) ≡ false
digit-lacks c n small (inl below) = ne_eqb _ _ (λ e. absurd (omega (arith, e)))
digit-lacks c n small (inr above) = ne_eqb _ _ (λ e. absurd (omega (arith, e)))

graphic-digit : (n : ℕ) → n < 10 → IsGraphic ((48 + n) ∷ [])
graphic-digit n small = record {
  some = λ e. absurd (cc);
  no_five = (digit-lacks 5 n small (inl (omega arith)), tt);
  no_six = (digit-lacks 6 n small (inl (omega arith)), tt);
  no_equals = (digit-lacks 61 n small (inr (omega arith)), tt);
}

graphic-more : (ds : List ℕ) (d : ℕ) → IsGraphic ds → IsGraphic (d ∷ []) → IsGraphic (ds ++ d ∷ [])
graphic-more ds d g h = record {
  some = λ e. g.some (front ds e);
  no_five = each-both _ ds (d ∷ []) g.no_five h.no_five;
  no_six = each-both _ ds (d ∷ []) g.no_six h.no_six;
  no_equals = each-both _ ds (d ∷ []) g.no_equals h.no_equals;
} where
  front : (xs : List ℕ) → xs ++ d ∷ [] ≡ [] → xs ≡ []
  front [] e = refl
  front (x ∷ xs) e = absurd (cc)

pub graphic-decimal : (n : ℕ) → n < 2 ^ 64 → IsGraphic (decimal n)
graphic-decimal = decimal_by_steps (λ n ds. IsGraphic ds) graphic-digit
    (λ n ds ten g. graphic-more ds (48 + n % 10) g (graphic-digit (n % 10) (omega arith)))

pub filled-graphic : (bs : List ℕ) → IsGraphic bs → IsFilled bs
filled-graphic bs g = (g.some, (g.no_five, g.no_six))
