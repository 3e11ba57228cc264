-- A text all of which is tokens of a formula is plain.
use Rattle.std.proofs.Common.{◌≡◌, ℕ, ◌==◌, ◌&&◌, Bool, true, false, cond, List, [], ◌∷◌, take}
use Rattle.std.proofs.Common.{Option, Some, None, IfSome, option_map, refl, ap, ◌∙◌, subst}
use Rattle.std.specs.List.{prefix_len}
use Rattle.std.specs.Char.{is_ascii_alphabetic}
use Rattle.std.proofs.lemmas.Bool.{both_ways, and_parts, eqb-true}
use Rattle.std.proofs.lemmas.List.{take-append-drop}
use Rattle.std.proofs.lemmas.List.Sums.{list_all-from_AllPass}
use Rattle.text_words.specs.Identifier.{is_identifier_part}
use Rattle.text_words.proofs.KnownIdentifiers.{run-passes}
use Rattle.nj_syntax.specs.declared.token.Token.{Token}
use Rattle.nj_syntax.specs.declared.token.Token.TheVariants.{Not, And, Or, Implies, Open, Close}
use Rattle.nj_syntax.specs.declared.token.Token.TheVariants.{Comma, Dot}
use Rattle.nj_syntax.specs.declared.token.Placed.{Placed}
use Rattle.nj_syntax.specs.Lexis.{sign, ends_arrow, front_sign, front_name, name_or_sign}
use Rattle.nj_syntax.specs.Lexis.{first_token}
use Rattle.nj_syntax.specs.Tokens.{AreTokens, ends, stops, blank, begins}
use Rattle.editor_laws.proofs.PlainTexts.{is_plain, Plain, spelled, joined, passing, with_first}
use Rattle.editor_laws.proofs.PlainTexts.{part_plain, blank_plain}

-- the first n scalars are plain
abbrev Front : List ℕ → ℕ → Type 0
Front text n = Plain (take n text)

run_plain : (text : List ℕ) → Front text (prefix_len is_identifier_part text)
run_plain text =
    let run : List ℕ = take (prefix_len is_identifier_part text) text in
    passing is_identifier_part part_plain run
    (list_all-from_AllPass is_identifier_part run (run-passes is_identifier_part text))

name_plain : (text : List ℕ) → IfSome (front_name text) (Front text)
name_plain [] = tt
name_plain (c ∷ text) = go (is_ascii_alphabetic c)
  where
    go : (b : Bool)
        → IfSome (cond b (Some (prefix_len is_identifier_part (c ∷ text))) None) (Front (c ∷ text))
    go true = run_plain (c ∷ text)
    go false = tt

-- a scalar that is this one is plain
this : (c d : ℕ) → is_plain d ≡ true → (c == d) ≡ true → is_plain c ≡ true
this c d plain e = ap is_plain (eqb-true c d e) ∙ plain

pick : (c d : ℕ) → is_plain d ≡ true → (t : Token) (rest : Option Token)
    → IfSome rest (λ u. is_plain c ≡ true)
    → IfSome (cond (c == d) (Some t) rest) (λ u. is_plain c ≡ true)
pick c d plain t rest more = go (c == d) refl
  where
    go : (b : Bool) → (c == d) ≡ b → IfSome (cond b (Some t) rest) (λ u. is_plain c ≡ true)
    go true e = this c d plain e
    go false e = more

sign_plain : (c : ℕ) → IfSome (sign c) (λ u. is_plain c ≡ true)
sign_plain c =
    pick c 126 refl Not _ (pick c 38 refl And _ (pick c 124 refl Or _
    (pick c 40 refl Open _
    (pick c 41 refl Close _ (pick c 44 refl Comma _ (pick c 46 refl Dot None tt))))))

arrow_plain : (c : ℕ) (text : List ℕ) → (c == 45 && ends_arrow text) ≡ true → Front (c ∷ text) 3
arrow_plain c [] arrow = absurd (both_ways false refl (and_parts (c == 45) false arrow).1)
arrow_plain c (d ∷ []) arrow = absurd (both_ways false refl (and_parts (c == 45) false arrow).1)
arrow_plain c (d ∷ e ∷ text) arrow =
    let parts = and_parts (c == 45) (d == 45 && e == 62) arrow in
    let more = and_parts (d == 45) (e == 62) parts.1 in
    with_first (this c 45 refl parts.0)
    (with_first (this d 45 refl more.0) (with_first (this e 62 refl more.1) (spelled refl)))

front_plain : (text : List ℕ) → IfSome (front_sign text) (λ t. Front text t.1)
front_plain [] = tt
front_plain (c ∷ text) = go (c == 45 && ends_arrow text) refl
  where
    one : (s : Option Token) → IfSome s (λ u. is_plain c ≡ true)
        → IfSome {T = Token × ℕ} (option_map (λ t. (t, 1)) s) (λ t. Front (c ∷ text) t.1)
    one None plain = tt
    one (Some t) plain = with_first plain (spelled refl)

    go : (b : Bool) → (c == 45 && ends_arrow text) ≡ b
        → IfSome {T = Token × ℕ} (cond b (Some (Implies, 3)) (option_map (λ t. (t, 1)) (sign c)))
        (λ t. Front (c ∷ text) t.1)
    go true arrow = arrow_plain c text arrow
    go false other = one (sign c) (sign_plain c)

first_plain : (text : List ℕ) → IfSome (first_token text) (λ t. Front text t.1)
first_plain text = go (front_name text) (name_plain text)
  where
    go : (r : Option ℕ) → IfSome r (Front text) → IfSome (name_or_sign text r) (λ t. Front text t.1)
    go None none = front_plain text
    go (Some n) plain = plain

pub tokens_plain : {at stop : ℕ} {text : List ℕ} {ts : List Placed} {whole : Bool}
    → AreTokens at text ts stop whole → whole ≡ true → Plain text
tokens_plain ends e = spelled refl
tokens_plain (stops ink none) e = absurd (both_ways false refl e)
tokens_plain (blank {c = c} {text = text} is h) e = with_first (blank_plain c is) (tokens_plain h e)
tokens_plain (begins {c = c} {n = n} {text = text} ink some h) e =
    let front = subst (λ found. IfSome found (λ t. Front (c ∷ text) t.1)) some
    (first_plain (c ∷ text)) in
    subst Plain (take-append-drop n (c ∷ text)) (joined front (tokens_plain h e))
