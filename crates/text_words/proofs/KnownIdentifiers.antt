-- What a run of identifier parts tells of the longest identifier, and that the test of identifiers is right.
use Rattle.std.proofs.Common.{◌≡◌, ℕ, suc, zero, ◌||◌, ◌==◌, ◌+◌, ◌<◌, ◌≤◌, Bool, true, false, List, [], ◌∷◌, length, get_or, take, sym, refl, ap, ◌∙◌, subst, ⊎_elim, arith, length-take-le, get_or-take, rules}
use Rattle.std.specs.List.{prefix_len, AllPass, list_all}
use Rattle.std.specs.Char.{is_ascii_alphabetic}
use Rattle.std.specs.Int.{is_in_range}
use Rattle.std.proofs.lemmas.Bool.{both_ways, cases_lt, cond-true, and_parts, and_from}
use Rattle.std.proofs.lemmas.Bool.Decides.{nat_tests}
use Rattle.std.proofs.lemmas.List.Sums.{prefix_len_passes, prefix_len_stops, prefix_len-le-length, AllPass-from_list_all, list_all-from_AllPass}
use Rattle.std.proofs.lemmas.List.Elements.{All-cons}
use Rattle.std.specs.Str.{IsAscii}
use Rattle.text_words.specs.Blanks.{is_blank}
use Rattle.text_words.specs.Longest.{IsLongest, HasNoFront}
use Rattle.text_words.specs.Identifier.{is_identifier_part, IsIdentifier, is_identifier}

-- each of the run passes
pub run-passes : (p : ℕ → Bool) (s : List ℕ) → AllPass p (take (prefix_len p s) s)
run-passes p s k d lt =
    let inside : k < prefix_len p s = omega (arith, length-take-le (prefix_len p s) s (prefix_len-le-length p s)) in
    ap p (get_or-take (prefix_len p s) s k d inside) ∙ prefix_len_passes p s k d inside

-- no longer front passes
pub run-longest : (p : ℕ → Bool) (s : List ℕ) (m : ℕ) → m ≤ length s → AllPass p (take m s) → m ≤ prefix_len p s
run-longest p s m within passes =
    ⊎_elim
    (λ below. absurd (both_ways (p (get_or s (prefix_len p s) 0)) (prefix_len_stops p s 0 (omega arith))
    (ap p (sym (get_or-take m s (prefix_len p s) 0 below)) ∙ passes (prefix_len p s) 0 (omega (arith, length-take-le m s within)))))
    (λ above. above)
    (cases_lt (prefix_len p s) m)

-- a letter begins an identifier that goes as far as the run after it
letter-run : (c : ℕ) (cs : List ℕ) → is_ascii_alphabetic c ≡ true
    → IsLongest IsIdentifier (c ∷ cs) (suc (prefix_len is_identifier_part cs))
letter-run c cs letter = record {
  within = omega (arith, prefix_len-le-length is_identifier_part cs);
  fits = (letter, run-passes is_identifier_part cs);
  longest = go;
} where
  go : (m : ℕ) → m ≤ suc (length cs) → IsIdentifier (take m (c ∷ cs)) → m ≤ suc (prefix_len is_identifier_part cs)
  go zero within fits = omega arith
  go (suc m) within fits = omega (arith, run-longest is_identifier_part cs m (omega arith) fits.1)

-- what is no letter begins none
letter-none : (c : ℕ) (cs : List ℕ) → is_ascii_alphabetic c ≡ false → HasNoFront IsIdentifier (c ∷ cs)
letter-none c cs other zero within fits = fits
letter-none c cs other (suc m) within fits = both_ways (is_ascii_alphabetic c) other fits.0

or-middle : (a b d e f : Bool) → (b || d) ≡ true → ((((a || b) || d) || e) || f) ≡ true
or-middle true b d e f h = refl
or-middle false true d e f h = refl
or-middle false false true e f h = refl
or-middle false false false e f h = absurd (both_ways false refl h)

-- an identifier goes on with letters too
pub letter-part : (c : ℕ) → is_ascii_alphabetic c ≡ true → is_identifier_part c ≡ true
letter-part c letter = or-middle (is_in_range 48 57 c) (is_in_range 65 90 c) (is_in_range 97 122 c) (c == 95) (c == 39) letter

-- a letter is no blank
pub letter-ink : (c : ℕ) → is_ascii_alphabetic c ≡ true → is_blank c ≡ false
letter-ink c letter = grind (arith, nat_tests)

-- an identifier is made of identifier parts
pub identifier-parts : (s : List ℕ) → IsIdentifier s → AllPass is_identifier_part s
identifier-parts [] id = absurd id
identifier-parts (c ∷ cs) id = All-cons (λ x. is_identifier_part x ≡ true) c cs (letter-part c id.0) id.1

-- where a letter stands first, the run is the longest identifier
pub letter-at : (s : List ℕ) (x : ℕ) → 1 ≤ length s → x ≡ get_or s 0 x → is_ascii_alphabetic x ≡ true
    → IsLongest IsIdentifier s (prefix_len is_identifier_part s)
letter-at [] x within same letter = absurd (omega arith)
letter-at (c ∷ cs) x within same letter =
    let here : is_ascii_alphabetic c ≡ true = ap is_ascii_alphabetic (sym same) ∙ letter in
    let part : is_identifier_part c ≡ true = letter-part c here in
    let n : ℕ = prefix_len is_identifier_part cs in
    let more : 1 + n ≡ suc n = omega arith in
    subst (IsLongest IsIdentifier (c ∷ cs)) (sym (cond-true (is_identifier_part c) (1 + n) 0 part ∙ more)) (letter-run c cs here)

-- where none stands first, there is none
pub letter-none-at : (s : List ℕ) (x : ℕ) → 1 ≤ length s → x ≡ get_or s 0 x → is_ascii_alphabetic x ≡ false
    → HasNoFront IsIdentifier s
letter-none-at [] x within same other = absurd (omega arith)
letter-none-at (c ∷ cs) x within same other = letter-none c cs (ap is_ascii_alphabetic (sym same) ∙ other)

-- what the test says yes of is an identifier
pub identifier-tested : (s : List ℕ) → is_identifier s ≡ true → IsIdentifier s
identifier-tested [] tested = both_ways false refl tested
identifier-tested (c ∷ cs) tested =
    let parts = and_parts (is_ascii_alphabetic c) (list_all is_identifier_part cs) tested in
    (parts.0, AllPass-from_list_all is_identifier_part cs parts.1)

-- the test says yes of each identifier
pub tested-identifier : (s : List ℕ) → IsIdentifier s → is_identifier s ≡ true
tested-identifier [] none = absurd none
tested-identifier (c ∷ cs) (letter, parts) =
    and_from (is_ascii_alphabetic c) (list_all is_identifier_part cs) letter (list_all-from_AllPass is_identifier_part cs parts)

-- what an identifier goes on with is in ASCII
pub part_ascii : (c : ℕ) → is_identifier_part c ≡ true → c < 128
part_ascii c part = search rules

-- so is a list of them
pub parts_ascii : (s : List ℕ) → list_all is_identifier_part s ≡ true → IsAscii s
parts_ascii [] parts i = omega arith
parts_ascii (c ∷ cs) parts zero = part_ascii c (and_parts _ _ parts).0
parts_ascii (c ∷ cs) parts (suc i) = parts_ascii cs (and_parts _ _ parts).1 i

-- so is an identifier
pub identifier_ascii : (s : List ℕ) → is_identifier s ≡ true → IsAscii s
identifier_ascii [] tested i = absurd (both_ways false refl tested)
identifier_ascii (c ∷ cs) tested zero =
    part_ascii c (letter-part c (and_parts (is_ascii_alphabetic c) (list_all is_identifier_part cs) tested).0)
identifier_ascii (c ∷ cs) tested (suc i) =
    parts_ascii cs (and_parts (is_ascii_alphabetic c) (list_all is_identifier_part cs) tested).1 i
