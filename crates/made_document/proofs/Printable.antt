-- Names and texts are printable: plain, and UTF-8 as they stand.
use Rattle.std.proofs.Common.{◌≡◌, ℕ, zero, suc, ◌+◌, ◌/◌, ◌^◌, ◌<◌, Bool, true, false, List, [], ◌∷◌, ◌++◌, length, decimal, codes, refl, ap, sym, ◌∙◌, arith, lit<}
use Rattle.std.proofs.lemmas.Bool.{and_from, and_parts, leb-true, ltb-true, le-leb, ne_eqb}
use Rattle.std.proofs.lemmas.Fmt.{length-decimal-le}
use Rattle.std.proofs.lemmas.Str.{IsUtf8-from_ascii, chars-IsAscii, encodes-IsAscii, scalars-chars}
use Rattle.std.specs.Prelude.{◌==◌, nat_le, nat_lt, if◌then◌else◌, flat_map}
use Rattle.std.specs.List.{list_all, range_with_len, AllByRecursion}
use Rattle.std.specs.Str.{IsAscii, all_scalars, encode_utf8_all}
use Rattle.yxml.specs.Normal.{IsPlain, Lacks}
use Rattle.pide_base.specs.NodeName.{is_node_name, most_characters}
use Rattle.text_words.specs.Identifier.{is_identifier}
use Rattle.made_document.specs.Texts.{name, import_of, header, lemma_line, lemma_count, lemmas, ending, text, inserted}
use Rattle.made_document.proofs.Decimals.{all_joined, decimal_parts, decimal_printable, is_printable}

abbrev pub ArePrintable : List ℕ → Type 0
ArePrintable xs = list_all is_printable xs ≡ true

lacks : (c : ℕ) (xs : List ℕ) → c < 10 → ArePrintable xs → Lacks c xs
lacks c [] low all = tt
lacks c (x ∷ xs) low all =
    let parts = and_parts (is_printable x) (list_all is_printable xs) all in
    let high = leb-true 10 x (and_parts (nat_le 10 x) (nat_lt x 128) parts.0).0 in
    (ne_eqb x c (λ same. absurd (omega (arith, same, high, low))), lacks c xs low parts.1)

pub plain : (xs : List ℕ) → ArePrintable xs → IsPlain xs
plain xs all = (lacks 5 xs (lit< tt) all, lacks 6 xs (lit< tt) all)

pub ascii : (xs : List ℕ) → ArePrintable xs → IsAscii xs
ascii [] all i = omega arith
ascii (x ∷ xs) all zero = ltb-true x 128 (and_parts (nat_le 10 x) (nat_lt x 128) (and_parts (is_printable x) (list_all is_printable xs) all).0).1
ascii (x ∷ xs) all (suc i) = ascii xs (and_parts (is_printable x) (list_all is_printable xs) all).1 i

pub as_scalars : (xs : List ℕ) → ArePrintable xs → all_scalars xs ≡ true
as_scalars xs all = ap all_scalars (sym (chars-IsAscii xs (ascii xs all))) ∙ scalars-chars xs (IsUtf8-from_ascii xs (ascii xs all))

pub as_bytes : (xs : List ℕ) → ArePrintable xs → encode_utf8_all xs ≡ xs
as_bytes xs all = encodes-IsAscii xs (ascii xs all)

pub name_printable : (n : ℕ) → n < 2 ^ 64 → ArePrintable (name n)
name_printable n lt = all_joined is_printable (codes "T") (decimal n) refl (decimal_printable n lt)

import_printable : (n : ℕ) → n < 2 ^ 64 → (b : Bool) → ArePrintable (if b then [] else codes " imports " ++ name (n / 2))
import_printable n lt true = refl
import_printable n lt false = all_joined is_printable (codes " imports ") (name (n / 2)) refl (name_printable (n / 2) (omega (arith, lt)))

lines_printable : (ks : List ℕ) → AllByRecursion (λ k. k < 2 ^ 64) ks → ArePrintable (flat_map lemma_line ks)
lines_printable [] all = refl
lines_printable (k ∷ ks) all = all_joined is_printable (lemma_line k) (flat_map lemma_line ks)
    (all_joined is_printable (codes "lemma l") (decimal k ++ codes ": \"P --> P\" by (impI h h)\n") refl
    (all_joined is_printable (decimal k) (codes ": \"P --> P\" by (impI h h)\n") (decimal_printable k all.0) refl))
    (lines_printable ks all.1)

counted : (a n : ℕ) → a + n < 2 ^ 64 → AllByRecursion (λ k. k < 2 ^ 64) (range_with_len a n)
counted a zero lt = tt
counted a (suc n) lt = (omega (arith, lt), counted (a + 1) n (omega (arith, lt)))

lemmas_printable : ArePrintable lemmas
lemmas_printable = lines_printable (range_with_len 1 lemma_count) (counted 1 lemma_count (lit< tt))

pub text_printable : (n : ℕ) → n < 2 ^ 64 → ArePrintable (text n)
text_printable n lt = all_joined is_printable (header n) (lemmas ++ ending)
    (all_joined is_printable (codes "theory ") (name n ++ (import_of n ++ codes " begin\n")) refl
    (all_joined is_printable (name n) (import_of n ++ codes " begin\n") (name_printable n lt)
    (all_joined is_printable (import_of n) (codes " begin\n") (import_printable n lt (n == 1)) refl)))
    (all_joined is_printable lemmas ending lemmas_printable refl)

pub inserted_printable : ArePrintable inserted
inserted_printable = refl

-- names are nodes'
pub name_fits : (n : ℕ) → n < 10 ^ 10 → is_node_name (name n) ≡ true
name_fits n lt = and_from (is_identifier (name n)) (nat_le (length (name n)) most_characters) (decimal_parts n (omega (arith, lt)))
    (le-leb (length (name n)) most_characters (omega (arith, length-decimal-le 10 n (lit< tt) lt (omega (arith, lt)))))
