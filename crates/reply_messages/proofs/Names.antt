-- Names of nodes are words.
use Rattle.std.proofs.Common.{◌≡◌, ℕ, true, nat_le, List, [], ◌∷◌, length, IsAscii, refl}
use Rattle.std.specs.List.{list_all}
use Rattle.std.specs.Char.{is_ascii_alphabetic}
use Rattle.std.proofs.lemmas.Bool.{and_parts, and_from}
use Rattle.text_words.specs.Identifier.{is_identifier, is_identifier_part}
use Rattle.text_words.proofs.KnownIdentifiers.{letter-part, parts_ascii}
use Rattle.yxml.specs.Normal.{Lacks}
use Rattle.pide_base.specs.NodeName.{most_characters}
use Rattle.reply_messages.specs.Fits.{IsName}
use Rattle.reply_messages.specs.Laws.{AreWords}
use Rattle.reply_messages.proofs.ReadNumbers.{passing_lacks}

-- each byte of an identifier is a part of one
pub parts_pass : (name : List ℕ) → is_identifier name ≡ true → list_all is_identifier_part name ≡ true
parts_pass [] h = refl
parts_pass (c ∷ cs) h =
    let parts = and_parts (is_ascii_alphabetic c) (list_all is_identifier_part cs) h in
    and_from (is_identifier_part c) (list_all is_identifier_part cs) (letter-part c parts.0) parts.1

pub name_lacks : (name : List ℕ) → IsName name → Lacks 5 name
name_lacks name named = passing_lacks is_identifier_part 5 refl name
    (parts_pass name (and_parts (is_identifier name) (nat_le (length name) most_characters) named).0)

pub names_are_words : AreWords (λ name. name) IsName
names_are_words = record {
  unmarked = name_lacks;
  one = λ x y named other e. e;
}

pub name_is_ascii : (name : List ℕ) → IsName name → IsAscii name
name_is_ascii name named = parts_ascii name (parts_pass name (and_parts (is_identifier name) (nat_le (length name) most_characters) named).0)
