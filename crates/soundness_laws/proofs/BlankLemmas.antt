-- A run of blanks as a token.
use Rattle.std.proofs.Common.{◌≡◌, ℕ, ◌+◌, ◌-◌, ◌<◌, ◌≤◌, Bool, List, ◌∷◌, ◌++◌, length, drop, sym, refl, subst, ⊎_elim, arith}
use Rattle.std.specs.List.{prefix_len}
use Rattle.std.proofs.lemmas.Bool.{cases_lt}
use Rattle.std.proofs.lemmas.List.{drop_at}
use Rattle.std.proofs.lemmas.List.Sums.{prefix_len-le-length}
use Rattle.text_words.specs.Blanks.{is_blank}
use Rattle.text_words.proofs.KnownFronts.{same-length}
use Rattle.text_words.proofs.KnownIdentifiers.{run-longest}
use Rattle.outer_syntax.specs.Forms.{IsSpace}
use Rattle.outer_syntax.specs.Rows.{rank, IsFirstRow}
use Rattle.outer_syntax.specs.Tokens.{IsToken}
use Rattle.outer_syntax.specs.declared.row.Row.{Row}
use Rattle.outer_syntax.specs.declared.row.Row.TheVariants.{Space}
use Rattle.outer_syntax.specs.declared.kind.Kind.TheVariants as kind
use Rattle.outer_syntax.proofs.KnownBlanks.{space-some}

-- a space and the blanks behind it
pub blank-row : (s : List ℕ) → IsFirstRow (32 ∷ s) Space (1 + prefix_len is_blank s)
blank-row s = record { longest = space-some (32 ∷ s) (omega arith); first = λ r low m within form. omega (arith, low) }

-- blanks are the first row where there are some
pub blanks-of : (s : List ℕ) (n : ℕ) → IsFirstRow s Space n → 0 < n → prefix_len is_blank s ≡ n
blanks-of s n first some =
    let run : n ≤ prefix_len is_blank s = run-longest is_blank s n first.longest.within first.longest.fits.1 in
    same-length IsSpace s (prefix_len is_blank s) n (space-some s (omega (arith, some, run))) first.longest

-- where another row fits, there are none
pub no-blanks : (s : List ℕ) (row : Row) (n : ℕ) → IsFirstRow s row n → 0 < rank row → prefix_len is_blank s ≡ 0
no-blanks s row n first other = ⊎_elim
    (λ (some : 0 < prefix_len is_blank s). absurd (first.first Space other (prefix_len is_blank s) (prefix_len-le-length is_blank s) (space-some s some).fits))
    (λ (none : prefix_len is_blank s ≤ 0). omega (arith, none))
    (cases_lt 0 (prefix_len is_blank s))

-- a space and the blanks behind it, as a token
pub blank-token : (is_command : List ℕ → Bool) (p q : List ℕ) (place n : ℕ) → length p ≡ place → prefix_len is_blank q ≡ n
    → IsToken is_command (p ++ 32 ∷ q) (record { kind = kind.Space; range = record { start = place; stop = place + (1 + n) } })
blank-token is_command p q place n size blanks =
    let rest : drop place (p ++ 32 ∷ q) ≡ 32 ∷ q = drop_at p (32 ∷ q) place size in
    let wide : 1 + prefix_len is_blank q ≡ place + (1 + n) - place = omega (arith, blanks) in (
      Space,
      omega arith,
      subst (IsFirstRow (drop place (p ++ 32 ∷ q)) Space) wide (subst (λ s. IsFirstRow s Space (1 + prefix_len is_blank q)) (sym rest) (blank-row q)),
      refl,
    )
