-- The name at the front of a text is the longest identifier there.
use Rattle.std.proofs.Common.{◌≡◌, ℕ, zero, suc, Bool, true, false, cond, IsTrue, List, [], ◌∷◌, take, Option, Some, None, refl, arith}
use Rattle.std.proofs.lemmas.List.Sums.{list_all-from_AllPass}
use Rattle.std.specs.List.{list_all, prefix_len}
use Rattle.std.specs.Char.{is_ascii_alphabetic}
use Rattle.text_words.specs.Identifier.{is_identifier_part, IsIdentifier}
use Rattle.text_words.specs.Longest.{IsLongest, FindsLongest}
use Rattle.text_words.proofs.KnownIdentifiers.{letter-at, letter-none-at, identifier-parts}
use Rattle.text_words.proofs.KnownFronts.{one-front}
use Rattle.nj_syntax.specs.Lexis.{front_name}

none : (m : ℕ) → IsIdentifier (take m []) → ⊥
none zero fits = fits
none (suc m) fits = fits

pub name_found : (text : List ℕ) → FindsLongest IsIdentifier text (front_name text)
name_found [] = λ m within fits. none m fits
name_found (c ∷ text) = go (is_ascii_alphabetic c) refl
  where
    go : (b : Bool) → is_ascii_alphabetic c ≡ b → FindsLongest IsIdentifier (c ∷ text) (cond b (Some (prefix_len is_identifier_part (c ∷ text))) None)
    go true letter = letter-at (c ∷ text) c (omega arith) refl letter
    go false other = letter-none-at (c ∷ text) c (omega arith) refl other

-- what the search for an identifier finds is the name's length
pub front_is : (text : List ℕ) (found : Option ℕ) → FindsLongest IsIdentifier text found → found ≡ front_name text
front_is text found finds = one-front IsIdentifier text found (front_name text) finds (name_found text)

pub front_parts : (text : List ℕ) (n : ℕ) → IsLongest IsIdentifier text n → IsTrue (list_all is_identifier_part (take n text))
front_parts text n longest = list_all-from_AllPass is_identifier_part (take n text) (identifier-parts (take n text) longest.fits)
