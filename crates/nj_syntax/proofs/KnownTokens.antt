-- Each text has one list of tokens, and the recursion gives it.
use Rattle.std.proofs.Common.{◌==◌, ◌&&◌, ◌≡◌, ◌≤◌, ◌<◌, ◌+◌, ◌-◌, ℕ, zero, suc, Bool, true, false, cond, List, [], ◌∷◌, length, drop, Option, Some, None, IfSome, refl, ap, sym, subst, ◌∙◌, arith, add-zero}
use Rattle.std.proofs.lemmas.Bool.{both_ways, and_parts}
use Rattle.std.proofs.lemmas.List.Sums.{prefix_len-le-length}
use Rattle.std.specs.List.{prefix_len}
use Rattle.std.specs.Char.{is_ascii_alphabetic}
use Rattle.text_words.specs.Blanks.{is_blank}
use Rattle.text_words.specs.Identifier.{is_identifier_part}
use Rattle.text_words.proofs.KnownIdentifiers.{letter-part}
use Rattle.nj_syntax.specs.declared.token.Token.{Token}
use Rattle.nj_syntax.specs.declared.token.Token.TheVariants.{Implies}
use Rattle.nj_syntax.specs.declared.token.Placed.{Placed}
use Rattle.nj_syntax.specs.Lexis.{sign, ends_arrow, front_sign, front_name, name_or_sign, first_token}
use Rattle.nj_syntax.specs.Tokens.{AreTokens, ends, stops, blank, begins, Cut, placed_before, with_first, cut_after, cut_from, cut_of}

-- a token has a scalar, and no more than the text
abbrev Fits : List ℕ → Token × ℕ → Type 0
Fits text t = (0 < t.1) × (t.1 ≤ length text)

name_fits : (text : List ℕ) → IfSome (front_name text) (λ n. (0 < n) × (n ≤ length text))
name_fits [] = tt
name_fits (c ∷ text) = go (is_ascii_alphabetic c) refl
  where
    some : is_ascii_alphabetic c ≡ true → prefix_len is_identifier_part (c ∷ text) ≡ 1 + prefix_len is_identifier_part text
    some letter = ap (λ b. cond b (1 + prefix_len is_identifier_part text) 0) (letter-part c letter)

    go : (b : Bool) → is_ascii_alphabetic c ≡ b
        → IfSome (cond b (Some (prefix_len is_identifier_part (c ∷ text))) None) (λ n. (0 < n) × (n ≤ length (c ∷ text)))
    go true letter = (omega (arith, some letter), prefix_len-le-length is_identifier_part (c ∷ text))
    go false other = tt

arrow_long : (c : ℕ) (text : List ℕ) → (c == 45 && ends_arrow text) ≡ true → 3 ≤ length (c ∷ text)
arrow_long c [] arrow = absurd (both_ways false refl (and_parts (c == 45) false arrow).1)
arrow_long c (d ∷ []) arrow = absurd (both_ways false refl (and_parts (c == 45) false arrow).1)
arrow_long c (d ∷ e ∷ text) arrow = omega arith

sign_fits : (text : List ℕ) → IfSome (front_sign text) (Fits text)
sign_fits [] = tt
sign_fits (c ∷ text) = go (c == 45 && ends_arrow text) refl
  where
    one : (s : Option Token) → IfSome (elim s [ None ↦ None | Some t ↦ Some (t, 1) ]) (Fits (c ∷ text))
    one None = tt
    one (Some t) = (omega arith, omega arith)

    go : (b : Bool) → (c == 45 && ends_arrow text) ≡ b → IfSome (cond b (Some (Implies, 3)) (elim (sign c) [ None ↦ None | Some t ↦ Some (t, 1) ])) (Fits (c ∷ text))
    go true arrow = (omega arith, arrow_long c text arrow)
    go false other = one (sign c)

-- the first token fits in the text
pub first_fits : (text : List ℕ) → IfSome (first_token text) (Fits text)
first_fits text = go (front_name text) (name_fits text)
  where
    go : (r : Option ℕ) → IfSome r (λ n. (0 < n) × (n ≤ length text)) → IfSome (name_or_sign text r) (Fits text)
    go None none = sign_fits text
    go (Some n) fits = fits

-- the text has these tokens
abbrev pub Are : ℕ → List ℕ → Cut → Type 0
Are at text cut = AreTokens at text cut.tokens cut.stop cut.whole

moved : {m n stop : ℕ} {text : List ℕ} {ts : List Placed} {whole : Bool} → m ≡ n → AreTokens m text ts stop whole → AreTokens n text ts stop whole
moved {stop = stop} {text = text} {ts = ts} {whole = whole} e h = subst (λ n. AreTokens n text ts stop whole) e h

-- behind a token of n scalars
behind_it : (c : ℕ) (text : List ℕ) (at n : ℕ) (cut : Cut) → 0 < n → Are ((at + 1) + (n - 1)) (drop (n - 1) text) cut → Are (at + n) (drop n (c ∷ text)) cut
behind_it c text at zero cut some h = absurd (omega arith)
behind_it c text at (suc m) cut some h =
    let less : suc m - 1 ≡ m = omega arith in
    let place : (at + 1) + (suc m - 1) ≡ at + suc m = omega arith in
    moved place (subst (λ k. Are ((at + 1) + (suc m - 1)) (drop k text) cut) less h)

module _ (c : ℕ) (text : List ℕ) (at : ℕ)
    (rest : (passed : ℕ) → passed ≤ length text → Are ((at + 1) + passed) (drop passed text) (cut_after text (at + 1) passed)) where
  by_first : is_blank c ≡ false → (found : Option (Token × ℕ)) → first_token (c ∷ text) ≡ found → IfSome found (Fits (c ∷ text))
      → Are at (c ∷ text) (with_first at found (λ passed. cut_after text (at + 1) passed))
  by_first ink None none fits = stops ink none
  by_first ink (Some t) some fits =
      begins ink some (behind_it c text at t.1 (cut_after text (at + 1) (t.1 - 1)) fits.0
      (rest (t.1 - 1) (let most = fits.1 in let least = fits.0 in omega arith)))

  by_blank : (b : Bool) → is_blank c ≡ b
      → Are at (c ∷ text) (cond b (cut_after text (at + 1) 0) (with_first at (first_token (c ∷ text)) (λ passed. cut_after text (at + 1) passed)))
  by_blank true is = blank is (moved (add-zero (at + 1)) (rest 0 (omega arith)))
  by_blank false ink = by_first ink (first_token (c ∷ text)) refl (first_fits (c ∷ text))

are_after : (text : List ℕ) (at passed : ℕ) → passed ≤ length text → Are (at + passed) (drop passed text) (cut_after text at passed)
are_after [] at zero within = moved (sym (add-zero at)) ends
are_after [] at (suc passed) within = absurd (omega arith)
are_after (c ∷ text) at (suc passed) within =
    let place : (at + 1) + passed ≡ at + suc passed = omega arith in
    moved place (are_after text (at + 1) passed (omega arith))
are_after (c ∷ text) at zero within =
    moved (sym (add-zero at)) (by_blank c text at (λ passed fits. are_after text (at + 1) passed fits) (is_blank c) refl)

pub are_from : (text : List ℕ) (at : ℕ) → Are at (drop at text) (cut_from at text)
are_from text at = moved (add-zero at) (are_after (drop at text) at 0 (omega arith))

pub tokens_are : (text : List ℕ) → Are 0 text (cut_of text)
tokens_are text = are_after text 0 0 (omega arith)

passes : (text : List ℕ) (at m : ℕ) → m ≤ length text → cut_after text at m ≡ cut_after (drop m text) (at + m) 0
passes [] at zero within = ap (λ n. cut_after [] n 0) (sym (add-zero at))
passes [] at (suc m) within = absurd (omega arith)
passes (c ∷ text) at zero within = ap (λ n. cut_after (c ∷ text) n 0) (sym (add-zero at))
passes (c ∷ text) at (suc m) within =
    let place : (at + 1) + m ≡ at + suc m = omega arith in
    passes text (at + 1) m (omega arith) ∙ ap (λ n. cut_after (drop m text) n 0) place

behind_is : (c : ℕ) (text : List ℕ) (at n : ℕ) → (0 < n) × (n ≤ length (c ∷ text)) → cut_after text (at + 1) (n - 1) ≡ cut_after (drop n (c ∷ text)) (at + n) 0
behind_is c text at zero fits = absurd (let some = fits.0 in omega arith)
behind_is c text at (suc m) fits =
    let less : suc m - 1 ≡ m = omega arith in
    let place : (at + 1) + m ≡ at + suc m = omega arith in
    ap (cut_after text (at + 1)) less ∙ (passes text (at + 1) m (let most = fits.1 in omega arith) ∙ ap (λ n. cut_after (drop m text) n 0) place)

-- no other tokens
pub cut_is : {at stop : ℕ} {text : List ℕ} {ts : List Placed} {whole : Bool} → AreTokens at text ts stop whole
    → cut_after text at 0 ≡ record { tokens = ts; stop = stop; whole = whole }
cut_is ends = refl
cut_is {at} (stops {c = c} {text = text} ink none) =
    ap (λ b. cond b (cut_after text (at + 1) 0) (with_first at (first_token (c ∷ text)) (λ passed. cut_after text (at + 1) passed))) ink
    ∙ ap (λ found. with_first at found (λ passed. cut_after text (at + 1) passed)) none
cut_is {at} (blank {c = c} {text = text} is h) =
    ap (λ b. cond b (cut_after text (at + 1) 0) (with_first at (first_token (c ∷ text)) (λ passed. cut_after text (at + 1) passed))) is ∙ cut_is h
cut_is {at} (begins {c = c} {n = n} {text = text} {t = t} ink some h) =
    let fits : Fits (c ∷ text) (t, n) = subst (λ found. IfSome found (Fits (c ∷ text))) some (first_fits (c ∷ text)) in
    ap (λ b. cond b (cut_after text (at + 1) 0) (with_first at (first_token (c ∷ text)) (λ passed. cut_after text (at + 1) passed))) ink
    ∙ (ap (λ found. with_first at found (λ passed. cut_after text (at + 1) passed)) some
    ∙ ap (placed_before (record { token = t; at = at })) (behind_is c text at n fits ∙ cut_is h))

-- so a text has one list of tokens, and one place where they stop
pub one_reading : {at stop place : ℕ} {text : List ℕ} {ts us : List Placed} {whole all : Bool} → AreTokens at text ts stop whole
    → AreTokens at text us place all → (ts ≡ us) × (stop ≡ place) × (whole ≡ all)
one_reading h k = let same = sym (cut_is h) ∙ cut_is k in (ap (λ c. c.tokens) same, ap (λ c. c.stop) same, ap (λ c. c.whole) same)
