-- The pieces of a text.
use Rattle.std.proofs.Common.{◌≡◌, ◌≢◌, ℕ, ◌<◌, List, length, get_or, false, ◌∙◌, All, [], Bool, ap, arith}
use Rattle.std.proofs.Math.Dec.{eqb}
use Rattle.std.proofs.lemmas.Bool.{ne_eqb}
use Rattle.std.proofs.lemmas.List.{get_or_default}
use Rattle.std.specs.List.{slice_split}
use Rattle.std.proofs.lemmas.List.Splits.{length-slice_split}

-- a text that has the byte nowhere lacks it
pub lacks_byte : (c : ℕ) (bs : List ℕ) → ((i : ℕ) → i < length bs → get_or bs i 0 ≢ c) → All (λ b. eqb b c ≡ false) bs
lacks_byte c bs h k d small = ne_eqb _ _ (λ e. h k small (get_or_default bs k 0 d small ∙ e))

-- a text has a piece
pub pieces_some : (p : ℕ → Bool) (text : List ℕ) → slice_split p text ≢ []
pieces_some p text e = omega (arith, length-slice_split p text, ap length e)
