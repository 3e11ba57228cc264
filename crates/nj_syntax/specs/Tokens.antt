-- The tokens of a text, each with its place, as far as there are tokens (this project's own).
use Rattle.std.specs.Prelude.{◌≡◌, ℕ, zero, suc, ◌+◌, ◌-◌, Bool, true, false, if◌then◌else◌, List, [], ◌∷◌, drop, Option, Some, None}
use Rattle.text_words.specs.Blanks.{is_blank}
use Rattle.nj_syntax.specs.declared.token.Token.{Token}
use Rattle.nj_syntax.specs.declared.token.Placed.{Placed}
use Rattle.nj_syntax.specs.Lexis.{first_token}

-- from the place at on, the text has these tokens, up to the place stop; it is the end where whole
-- holds
pub data AreTokens : ℕ → List ℕ → List Placed → ℕ → Bool → Type 0 where
  ends : {at : ℕ} → AreTokens at [] [] at true
  -- no token begins here
  stops : {at c : ℕ} {text : List ℕ} → is_blank c ≡ false → first_token (c ∷ text) ≡ None
      → AreTokens at (c ∷ text) [] at false
  blank : {at c stop : ℕ} {text : List ℕ} {tokens : List Placed} {whole : Bool} → is_blank c ≡ true
      → AreTokens (at + 1) text tokens stop whole → AreTokens at (c ∷ text) tokens stop whole
  begins : {at c n stop : ℕ} {text : List ℕ} {t : Token} {tokens : List Placed} {whole : Bool}
      → is_blank c ≡ false → first_token (c ∷ text) ≡ Some (t, n)
      → AreTokens (at + n) (drop n (c ∷ text)) tokens stop whole
      → AreTokens at (c ∷ text) (record { token = t; at = at } ∷ tokens) stop whole

-- the tokens of a text, the place where they stop, and whether it is the text's end
pub record Cut : Type 0 where
  pub tokens : List Placed
  pub stop : ℕ
  pub whole : Bool

-- one token more, in front of the others
abbrev pub placed_before : Placed → Cut → Cut
placed_before t cut = record { tokens = t ∷ cut.tokens; stop = cut.stop; whole = cut.whole }

-- with the token at the place, whose length tells how many scalars are passed before the next one
abbrev pub with_first : ℕ → Option (Token × ℕ) → (ℕ → Cut) → Cut
with_first at None after = record { tokens = []; stop = at; whole = false }
with_first at (Some t) after = placed_before (record { token = t.0; at = at }) (after (t.1 - 1))

-- the tokens of a text that begins at the place, after so many scalars that belong to a token
-- before
abbrev pub cut_after : List ℕ → ℕ → ℕ → Cut
cut_after [] at passed = record { tokens = []; stop = at; whole = true }
cut_after (c ∷ text) at (suc passed) = cut_after text (at + 1) passed
cut_after (c ∷ text) at zero =
    if is_blank c then cut_after text (at + 1) 0
    else with_first at (first_token (c ∷ text)) (λ passed. cut_after text (at + 1) passed)

-- the tokens of the text from the place on
abbrev pub cut_from : ℕ → List ℕ → Cut
cut_from at text = cut_after (drop at text) at 0

-- the tokens of the text
abbrev pub cut_of : List ℕ → Cut
cut_of text = cut_after text 0 0
