-- Identifiers at the front of a line, in bytes, and as words of the language.
use Rattle.std.proofs.Common.{◌≡◌, ◌-◌, ◌++◌, ◌∙◌, length, take, drop, Some, None, sym, append-nil, ℕ, ◌<◌, Bool, true, false, ◌||◌, ◌&&◌, List, [], ◌∷◌, Option, refl, ap, arith}
use Rattle.std.specs.Prelude.{IsTrue, not, if◌then◌else◌}
use Rattle.std.specs.Str.{encode_utf8_all}
use Rattle.std.specs.Option.{option_map_or}
use Rattle.std.proofs.lemmas.List.{take_rest}
use Rattle.std.proofs.lemmas.Str.{encodes-IsAscii}
use Rattle.text_words.specs.Identifier.{IsIdentifier, is_identifier}
use Rattle.text_words.specs.Longest.{FindsLongest, IsLongest, HasNoFront, longest_front}
use Rattle.isar_rules.specs.BlobLines.{past_gap, named_fact, fact_in}
use Rattle.text_words.proofs.KnownFronts.{one-front, found-front}
use Rattle.text_words.proofs.KnownIdentifiers.{identifier-tested, tested-identifier, identifier_ascii}
use Rattle.outer_syntax.proofs.KnownFinds.{finds-as}
use Rattle.outer_syntax.specs.Kinds.{is_name}
use Rattle.outer_syntax.specs.declared.kind.Kind.TheVariants.{Command, Keyword, Ident}

-- the longest identifier at the front is what the search finds
pub front_is : (text : List ℕ) (found : Option ℕ) → FindsLongest IsIdentifier text found → found ≡ longest_front is_identifier text
front_is text found is =
    one-front (λ s. IsTrue (is_identifier s)) text found (longest_front is_identifier text)
    (finds-as IsIdentifier (λ s. IsTrue (is_identifier s)) text found tested-identifier identifier-tested is)
    (found-front is_identifier text)

-- the bytes of an identifier are its scalars
pub identifier_bytes : (s : List ℕ) → is_identifier s ≡ true → encode_utf8_all s ≡ s
identifier_bytes s tested = encodes-IsAscii s (identifier_ascii s tested)

-- a word is a name where it is neither a command nor a keyword
pub free_named : (command keyword : Bool)
    → is_name (if command || false then Command else (if keyword then Keyword else Ident)) ≡ (not command && not keyword)
free_named true keyword = refl
free_named false true = refl
free_named false false = refl

-- a name has been written to its end
pub read_name : (text rest word : List ℕ) → text ++ encode_utf8_all rest ≡ encode_utf8_all word → length rest < 1
    → is_identifier word ≡ true → text ≡ word
read_name text [] word is end name = sym (append-nil text) ∙ (is ∙ identifier_bytes word name)
read_name text (c ∷ cs) word is end name = absurd (omega arith)

-- the fact of a line that begins with a name
pub fact_named : (line : List ℕ) (n : ℕ) → IsLongest IsIdentifier line n
    → named_fact (take n line) (past_gap (take (length line - n) (drop n line))) ≡ fact_in line
fact_named line n is =
    ap (λ rest. named_fact (take n line) (past_gap rest)) (take_rest line n)
    ∙ ap (λ found. option_map_or (λ m. named_fact (take m line) (past_gap (drop m line))) found None) (front_is line (Some n) is)

-- another line has none
pub fact_unnamed : (line : List ℕ) → HasNoFront IsIdentifier line → None ≡ fact_in line
fact_unnamed line none =
    ap (λ found. option_map_or (λ m. named_fact (take m line) (past_gap (drop m line))) found None) (front_is line None none)
