-- Which tokens a text is cut into, piece by piece, whatever stands after it.
use Rattle.std.proofs.Common.{◌≡◌, ◌<◌, ◌+◌, ℕ, suc, true, false, List, [], ◌∷◌, ◌++◌, length, take, drop, cond, IsAscii, Some, None, refl, ap, sym, subst, ◌∙◌, arith, add-zero, add-one, append_assoc, length-append}
use Rattle.std.proofs.Math.Seq.{take-append_seam, drop-append_seam}
use Rattle.std.proofs.lemmas.Bool.{and_parts, and_from}
use Rattle.std.proofs.lemmas.Str.{IsAscii-append}
use Rattle.std.specs.List.{list_all, prefix_len}
use Rattle.std.specs.Char.{is_ascii_alphabetic}
use Rattle.std.proofs.lemmas.Str.Ascii.{IsAscii-cons}
use Rattle.nj_syntax.specs.declared.token.Token.{Token}
use Rattle.nj_syntax.specs.declared.token.Token.TheVariants as Tokens
use Rattle.nj_syntax.specs.declared.token.Placed.{Placed}
use Rattle.text_words.specs.Blanks.{is_blank}
use Rattle.text_words.specs.Identifier.{is_identifier_part, is_identifier}
use Rattle.nj_syntax.specs.Lexis.{name_or_sign, front_name, first_token}
use Rattle.nj_syntax.specs.Tokens.{AreTokens, blank, begins}
use Rattle.text_words.proofs.KnownIdentifiers.{letter-part, letter-ink, parts_ascii, part_ascii}
use Rattle.nj_syntax.specs.Terms.{Deep}
use Rattle.nj_syntax.specs.Answers.{AreAt}

-- the text is cut into these tokens, if no name goes on after it
pub record Spells (text : List ℕ) (deep : List Deep) : Type 0 where
  pub ascii : IsAscii text
  pub cut : (at : ℕ) (rest : List ℕ) (after : List Placed) (stop : ℕ) → prefix_len is_identifier_part rest ≡ 0 → AreTokens (at + length text) rest after stop true
      → (placed : List Placed) × AreAt placed deep × AreTokens at (text ++ rest) (placed ++ after) stop true

-- no name goes on with the text
abbrev pub Breaks : List ℕ → Type 0
Breaks text = (rest : List ℕ) → prefix_len is_identifier_part rest ≡ 0 → prefix_len is_identifier_part (text ++ rest) ≡ 0

pub moved : {n m stop : ℕ} {rest : List ℕ} {after : List Placed} → n ≡ m → AreTokens n rest after stop true → AreTokens m rest after stop true
moved {stop = stop} {rest = rest} {after = after} e h = subst (λ n. AreTokens n rest after stop true) e h

one_more : (at n : ℕ) → at + suc n ≡ (at + 1) + n
one_more at n = omega arith

pub nothing : Spells [] []
nothing = record { ascii = λ i. omega arith; cut = λ at rest after stop b h. ([], refl, moved (add-zero at) h) }

pub blank_then : {text : List ℕ} {deep : List Deep} → Spells text deep → Spells (32 ∷ text) deep
blank_then {text} s = record {
  ascii = IsAscii-cons 32 text (omega arith) s.ascii;
  cut = λ at rest after stop b h. let inner = s.cut (at + 1) rest after stop b (moved (one_more at (length text)) h) in (inner.0, inner.1, blank refl inner.2);
}

pub sign_then : (c : ℕ) (t : Token) (d : ℕ) {text : List ℕ} {deep : List Deep} → c < 128 → is_blank c ≡ false
    → ((rest : List ℕ) → first_token (c ∷ rest) ≡ Some (t, 1)) → Spells text deep → Spells (c ∷ text) ((t, d) ∷ deep)
sign_then c t d {text} low ink first s = record {
  ascii = IsAscii-cons c text low s.ascii;
  cut = λ at rest after stop b h.
      let inner = s.cut (at + 1) rest after stop b (moved (one_more at (length text)) h) in
      (record { token = t; at = at } ∷ inner.0, ap (λ ts. t ∷ ts) inner.1, begins ink (first (text ++ rest)) inner.2);
}

pub arrow_then : (d : ℕ) {text : List ℕ} {deep : List Deep} → Spells text deep → Spells (45 ∷ 45 ∷ 62 ∷ text) ((Tokens.Implies, d) ∷ deep)
arrow_then d {text} s = record {
  ascii = IsAscii-cons 45 (45 ∷ 62 ∷ text) (omega arith) (IsAscii-cons 45 (62 ∷ text) (omega arith) (IsAscii-cons 62 text (omega arith) s.ascii));
  cut = λ at rest after stop b h.
      let inner = s.cut (at + 3) rest after stop b (moved (three_more at (length text)) h) in
      (record { token = Tokens.Implies; at = at } ∷ inner.0, ap (λ ts. Tokens.Implies ∷ ts) inner.1, begins refl refl inner.2);
}
  where
    three_more : (at n : ℕ) → at + suc (suc (suc n)) ≡ (at + 3) + n
    three_more at n = omega arith

run_along : (more rest : List ℕ) → list_all is_identifier_part more ≡ true → prefix_len is_identifier_part rest ≡ 0
    → prefix_len is_identifier_part (more ++ rest) ≡ length more
run_along [] rest all b = b
run_along (c ∷ more) rest all b =
    let parts = and_parts (is_identifier_part c) (list_all is_identifier_part more) all in
    let one : 1 + prefix_len is_identifier_part (more ++ rest) ≡ suc (length more) = omega (arith, run_along more rest parts.1 b) in
    ap (λ t. cond t (1 + prefix_len is_identifier_part (more ++ rest)) 0) parts.0 ∙ one

first_name : (c : ℕ) (more rest : List ℕ) → is_ascii_alphabetic c ≡ true → list_all is_identifier_part more ≡ true
    → prefix_len is_identifier_part rest ≡ 0 → first_token (c ∷ (more ++ rest)) ≡ Some (Tokens.Name (c ∷ more), length more + 1)
first_name c more rest letter all b =
    let text : List ℕ = c ∷ (more ++ rest) in
    let run : prefix_len is_identifier_part text ≡ length more + 1 =
    run_along (c ∷ more) rest (and_from (is_identifier_part c) (list_all is_identifier_part more) (letter-part c letter) all) b ∙ sym (add-one (length more)) in
    let named : front_name text ≡ Some (length more + 1) =
    ap (λ t. cond t (Some (prefix_len is_identifier_part text)) None) letter ∙ ap Some run in
    let letters : take (length more + 1) text ≡ c ∷ more = rw add-one (ap (λ w. c ∷ w) (take-append_seam more rest)) in
    ap (name_or_sign text) named ∙ ap (λ w. Some (Tokens.Name w, length more + 1)) letters

name_length : (at n m : ℕ) {k : ℕ} → k ≡ n + m → at + suc k ≡ (at + (n + 1)) + m
name_length at n m e = omega arith

begun : (c : ℕ) (more text rest : List ℕ) (at : ℕ) {after : List Placed} {stop : ℕ} → is_blank c ≡ false
    → first_token (c ∷ (more ++ (text ++ rest))) ≡ Some (Tokens.Name (c ∷ more), length more + 1)
    → AreTokens (at + (length more + 1)) (text ++ rest) after stop true
    → AreTokens at (((c ∷ more) ++ text) ++ rest) (record { token = Tokens.Name (c ∷ more); at = at } ∷ after) stop true
begun c more text rest at {after} {stop} ink first h =
    let joined : c ∷ (more ++ (text ++ rest)) ≡ ((c ∷ more) ++ text) ++ rest = ap (λ t. c ∷ t) (sym (append_assoc more text rest)) in
    let left : drop (length more + 1) (c ∷ (more ++ (text ++ rest))) ≡ text ++ rest = rw add-one (drop-append_seam more (text ++ rest)) in
    subst (λ t. AreTokens at t (record { token = Tokens.Name (c ∷ more); at = at } ∷ after) stop true) joined
    (begins ink first (subst (λ t. AreTokens (at + (length more + 1)) t after stop true) (sym left) h))

pub name_then : (x : List ℕ) (d : ℕ) {text : List ℕ} {deep : List Deep} → is_identifier x ≡ true → Breaks text → Spells text deep
    → Spells (x ++ text) ((Tokens.Name x, d) ∷ deep)
name_then [] d is breaks s = cc
name_then (c ∷ more) d {text} is breaks s =
    let parts = and_parts (is_ascii_alphabetic c) (list_all is_identifier_part more) is in
    record {
      ascii = IsAscii-cons c (more ++ text) (part_ascii c (letter-part c parts.0)) (IsAscii-append more text (parts_ascii more parts.1) s.ascii);
      cut = λ at rest after stop b h.
          let inner = s.cut (at + (length more + 1)) rest after stop b (moved (name_length at (length more) (length text) (length-append more text)) h) in (
            record { token = Tokens.Name (c ∷ more); at = at } ∷ inner.0,
            ap (λ ts. Tokens.Name (c ∷ more) ∷ ts) inner.1,
            begun c more text rest at (letter-ink c parts.0) (first_name c more (text ++ rest) parts.0 parts.1 (breaks rest b)) inner.2,
          );
    }
