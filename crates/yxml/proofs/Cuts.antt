-- What one cut of a text at its first separator says of the text's pieces.
use Rattle.std.proofs.Common.{◌≡◌, ℕ, ◌<◌, List, [], ◌∷◌, length, Option, Some, None, refl, ◌∙◌, ap, arith, MatchOption, eq-eqb}
use Rattle.std.specs.Borrow.{Bor}
use Rattle.std.specs.List.{slice_split}
use Rattle.std.proofs.Math.Dec.{eqb}
use Rattle.std.proofs.Math.ListN.{length-append}
use Rattle.std.proofs.lemmas.List.Splits.{slice_split_none, slice_split_at}
use Rattle.std.proofs.lemmas.Str.Pattern.{IsSplitOnceResult, split_parts}
use Rattle.yxml.specs.Cut.{IsCut}
use Rattle.yxml.proofs.KnownPieces.{lacks_byte}

abbrev IsFirstCut : ℕ → List ℕ → Option (Bor (List ℕ) × Bor (List ℕ)) → Type 0
IsFirstCut c bs r = MatchOption r (slice_split (λ b. eqb b c) bs ≡ bs ∷ []) (λ x. IsCut (λ b. eqb b c) bs x.0.now x.1.now)

-- at an ASCII character
pub first_cut : (c : ℕ) (bs : List ℕ) (r : Option (Bor (List ℕ) × Bor (List ℕ))) → IsSplitOnceResult c bs r → c < 128 → IsFirstCut c bs r
first_cut c bs None h small = slice_split_none (λ b. eqb b c) bs (lacks_byte c bs (split_parts c bs None h small))
first_cut c bs (Some x) h small =
    let parts = split_parts c bs (Some x) h small in
    record {
      pieces = ap (slice_split (λ b. eqb b c)) parts.0 ∙ slice_split_at (λ b. eqb b c) x.0.now c x.1.now (lacks_byte c _ parts.1) (eq-eqb c c refl);
      sizes = omega (arith, length-append x.0.now (c ∷ x.1.now), ap length parts.0);
    }
