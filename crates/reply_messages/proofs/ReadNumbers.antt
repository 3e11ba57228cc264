-- Ids and numbers are words.
use Rattle.std.proofs.Common.{◌≡◌, ℕ, ◌+◌, ◌<◌, ◌%◌, Bool, true, false, List, [], ◌∷◌, decimal, ap, ◌∙◌, arith}
use Rattle.std.specs.List.{list_all}
use Rattle.std.proofs.ByRecursion.{All-append}
use Rattle.std.proofs.lemmas.Bool.{ne_eqb, both_ways, and_parts}
use Rattle.std.proofs.lemmas.Fmt.{decimal_by_steps, decimal_injective}
use Rattle.yxml.specs.Normal.{Lacks}
use Rattle.pide_base.specs.Ids.{IsId}
use Rattle.reply_messages.specs.Fits.{IsWide}
use Rattle.reply_messages.specs.Laws.{AreWords}

digit : (c n : ℕ) → c < 48 → n < 10 → Lacks c ((48 + n) ∷ [])
digit c n low small = (ne_eqb _ _ (λ e. absurd (omega (arith, low, e))), tt)

-- digits are above 47
pub decimal_lacks : (c n : ℕ) → c < 48 → IsWide n → Lacks c (decimal n)
decimal_lacks c n low wide = decimal_by_steps (λ m ds. Lacks c ds) (λ m small. digit c m low small)
    (λ m ds ten lacks. All-append _ ds _ lacks (digit c (m % 10) low (omega arith))) n wide

pub id_is_wide : (n : ℕ) → IsId n → IsWide n
id_is_wide n id = omega (arith, id.1)

pub ids_are_words : AreWords decimal IsId
ids_are_words = record {
  unmarked = λ n id. decimal_lacks 5 n (omega arith) (id_is_wide n id);
  one = λ m n id other e. decimal_injective m n (id_is_wide m id) (id_is_wide n other) e;
}

-- what passes a test that a byte does not pass lacks the byte
pub passing_lacks : (p : ℕ → Bool) (c : ℕ) → p c ≡ false → (bs : List ℕ) → list_all p bs ≡ true → Lacks c bs
passing_lacks p c none [] h = tt
passing_lacks p c none (b ∷ bs) h =
    let parts = and_parts (p b) (list_all p bs) h in
    (ne_eqb b c (λ e. both_ways (p b) (ap p e ∙ none) parts.0), passing_lacks p c none bs parts.1)
