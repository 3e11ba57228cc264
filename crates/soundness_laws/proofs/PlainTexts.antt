-- A text all of which is tokens of a formula has no `"` and no `\`.
use Rattle.std.proofs.Common.{◌≡◌, ℕ, suc, ◌==◌, ◌&&◌, Bool, true, false, cond, List, [], ◌∷◌, take, drop, Option, Some, None, IfSome, option_map, sym, refl, subst, arith}
use Rattle.std.specs.List.{AllByRecursion, AllPass, prefix_len}
use Rattle.std.specs.Char.{is_ascii_alphabetic}
use Rattle.std.proofs.lemmas.Bool.{both_ways, and_parts, eqb-true}
use Rattle.std.proofs.lemmas.List.{take-append-drop}
use Rattle.text_words.specs.Blanks.{is_blank}
use Rattle.text_words.specs.Identifier.{is_identifier_part}
use Rattle.text_words.proofs.KnownIdentifiers.{run-passes}
use Rattle.text_words.proofs.KnownLists.{each-both}
use Rattle.nj_syntax.specs.declared.token.Token.{Token}
use Rattle.nj_syntax.specs.declared.token.Token.TheVariants.{Not, And, Or, Implies, Open, Close, Comma, Dot}
use Rattle.nj_syntax.specs.declared.token.Placed.{Placed}
use Rattle.nj_syntax.specs.Lexis.{sign, ends_arrow, front_sign, front_name, name_or_sign, first_token}
use Rattle.nj_syntax.specs.Tokens.{AreTokens, ends, stops, blank, begins}
use Rattle.outer_syntax.proofs.KnownLeads.{apart}
use Rattle.soundness_laws.specs.Lexemes.{IsPlain}

passing : (p : ℕ → Bool) → p 34 ≡ false → p 92 ≡ false → (s : List ℕ) → AllPass p s → AllByRecursion IsPlain s
passing p quote slash [] pass = tt
passing p quote slash (c ∷ s) pass =
    ((apart p 34 c quote (pass 0 0 (omega arith)), apart p 92 c slash (pass 0 0 (omega arith))), passing p quote slash s (λ k d low. pass (suc k) d (omega (arith, low))))

-- the first n scalars are plain
abbrev FrontPlain : List ℕ → ℕ → Type 0
FrontPlain text n = AllByRecursion IsPlain (take n text)

name_plain : (text : List ℕ) → IfSome (front_name text) (FrontPlain text)
name_plain [] = tt
name_plain (c ∷ text) = go (is_ascii_alphabetic c)
  where
    go : (b : Bool) → IfSome (cond b (Some (prefix_len is_identifier_part (c ∷ text))) None) (FrontPlain (c ∷ text))
    go true = passing is_identifier_part refl refl (take (prefix_len is_identifier_part (c ∷ text)) (c ∷ text)) (run-passes is_identifier_part (c ∷ text))
    go false = tt

-- a scalar that is this one is plain
this : (c d : ℕ) → IsPlain d → (c == d) ≡ true → IsPlain c
this c d plain e = subst IsPlain (sym (eqb-true c d e)) plain

pick : (c d : ℕ) → IsPlain d → (t : Token) (rest : Option Token) → IfSome rest (λ u. IsPlain c) → IfSome (cond (c == d) (Some t) rest) (λ u. IsPlain c)
pick c d plain t rest more = go (c == d) refl
  where
    go : (b : Bool) → (c == d) ≡ b → IfSome (cond b (Some t) rest) (λ u. IsPlain c)
    go true e = this c d plain e
    go false e = more

sign_plain : (c : ℕ) → IfSome (sign c) (λ u. IsPlain c)
sign_plain c =
    pick c 126 (refl, refl) Not _ (pick c 38 (refl, refl) And _ (pick c 124 (refl, refl) Or _
    (pick c 40 (refl, refl) Open _ (pick c 41 (refl, refl) Close _ (pick c 44 (refl, refl) Comma _ (pick c 46 (refl, refl) Dot None tt))))))

arrow_plain : (c : ℕ) (text : List ℕ) → (c == 45 && ends_arrow text) ≡ true → FrontPlain (c ∷ text) 3
arrow_plain c [] arrow = absurd (both_ways false refl (and_parts (c == 45) false arrow).1)
arrow_plain c (d ∷ []) arrow = absurd (both_ways false refl (and_parts (c == 45) false arrow).1)
arrow_plain c (d ∷ e ∷ text) arrow =
    let parts = and_parts (c == 45) (d == 45 && e == 62) arrow in
    let more = and_parts (d == 45) (e == 62) parts.1 in
    (this c 45 (refl, refl) parts.0, (this d 45 (refl, refl) more.0, (this e 62 (refl, refl) more.1, tt)))

front_plain : (text : List ℕ) → IfSome (front_sign text) (λ t. FrontPlain text t.1)
front_plain [] = tt
front_plain (c ∷ text) = go (c == 45 && ends_arrow text) refl
  where
    one : (s : Option Token) → IfSome s (λ u. IsPlain c) → IfSome {T = Token × ℕ} (option_map (λ t. (t, 1)) s) (λ t. FrontPlain (c ∷ text) t.1)
    one None plain = tt
    one (Some t) plain = (plain, tt)

    go : (b : Bool) → (c == 45 && ends_arrow text) ≡ b → IfSome {T = Token × ℕ} (cond b (Some (Implies, 3)) (option_map (λ t. (t, 1)) (sign c))) (λ t. FrontPlain (c ∷ text) t.1)
    go true arrow = arrow_plain c text arrow
    go false other = one (sign c) (sign_plain c)

first_plain : (text : List ℕ) → IfSome (first_token text) (λ t. FrontPlain text t.1)
first_plain text = go (front_name text) (name_plain text)
  where
    go : (r : Option ℕ) → IfSome r (FrontPlain text) → IfSome (name_or_sign text r) (λ t. FrontPlain text t.1)
    go None none = front_plain text
    go (Some n) plain = plain

pub tokens_plain : {at stop : ℕ} {text : List ℕ} {ts : List Placed} {whole : Bool} → AreTokens at text ts stop whole → whole ≡ true → AllByRecursion IsPlain text
tokens_plain ends e = tt
tokens_plain (stops ink none) e = absurd (both_ways false refl e)
tokens_plain (blank {c = c} is h) e = ((apart is_blank 34 c refl is, apart is_blank 92 c refl is), tokens_plain h e)
tokens_plain (begins {c = c} {n = n} {text = text} ink some h) e =
    let front = subst (λ found. IfSome found (λ t. FrontPlain (c ∷ text) t.1)) some (first_plain (c ∷ text)) in
    subst (AllByRecursion IsPlain) (take-append-drop n (c ∷ text)) (each-both IsPlain (take n (c ∷ text)) (drop n (c ∷ text)) front (tokens_plain h e))
