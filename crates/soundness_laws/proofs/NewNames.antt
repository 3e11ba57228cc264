-- The name of a term's next assumption is free.
use Rattle.std.proofs.Common.{◌≡◌, ◌≤◌, ◌<◌, ℕ, zero, suc, ◌+◌, ◌/◌, ◌%◌, ◌==◌, ◌&&◌, ◌||◌, nat_lt, Bool, true, false, if◌then◌else◌, List, [], ◌∷◌, ◌++◌, replicate, codes, refl, ap, arith, ne_eqb}
use Rattle.std.specs.List.{AllByRecursion, list_all, list_any}
use Rattle.std.specs.Fmt.{decimal, digits, digits_onto, digit_glyph}
use Rattle.std.proofs.lemmas.Bool.{or_parts, and_from}
use Rattle.std.proofs.lemmas.Bool.Decides.{nat_tests}
use Rattle.std.proofs.lemmas.Nat.{mod_below}
use Rattle.text_words.specs.Identifier.{is_identifier_part, IsIdentifier}
use Rattle.text_words.proofs.KnownIdentifiers.{identifier-tested}
use Rattle.text_words.proofs.KnownLists.{each-both}
use Rattle.outer_syntax.specs.Words.{same, is_base_command, is_minor_keyword}
use Rattle.suggest_rules.specs.declared.names.Names.{Names}
use Rattle.suggest_rules.specs.Names.{is_alias, is_name_of, next_name}
use Rattle.soundness_laws.specs.Citable.{IsFree}
use Rattle.nj_suggest.proofs.KnownFree.{next_free}

-- a decimal digit
abbrev IsDigit : ℕ → Type 0
IsDigit c = (48 ≤ c) × (c ≤ 57)

abbrev AreDigits : List ℕ → Type 0
AreDigits [] = ⊥
AreDigits (c ∷ s) = IsDigit c × AllByRecursion IsDigit s

glyph : (d : ℕ) → d < 10 → IsDigit (digit_glyph false d)
glyph d low = go (nat_lt d 10) refl
  where
    go : (b : Bool) → nat_lt d 10 ≡ b → IsDigit (if b then 48 + d else 87 + d)
    go true is = (omega arith, omega (arith, low))
    go false is = absurd (grind (arith, nat_tests, is, low))

more_digits : (c : ℕ) (s : List ℕ) → IsDigit c → AreDigits s → AreDigits (c ∷ s)
more_digits c [] digit are = absurd are
more_digits c (d ∷ s) digit are = (digit, are)

all_digits : (k n : ℕ) (acc : List ℕ) → AreDigits acc → AreDigits (digits_onto k 10 false n acc)
all_digits zero n acc are = are
all_digits (suc k) n acc are =
    let next = more_digits (digit_glyph false (n % 10)) acc (glyph (n % 10) (mod_below n 10 (omega arith))) are in
    go (all_digits k (n / 10) (digit_glyph false (n % 10) ∷ acc) next) next (n / 10 == 0)
  where
    go : AreDigits (digits_onto k 10 false (n / 10) (digit_glyph false (n % 10) ∷ acc)) → AreDigits (digit_glyph false (n % 10) ∷ acc)
        → (b : Bool) → AreDigits (if b then digit_glyph false (n % 10) ∷ acc else digits_onto k 10 false (n / 10) (digit_glyph false (n % 10) ∷ acc))
    go more next true = next
    go more next false = more

first_digits : (k n : ℕ) → AreDigits (digits_onto (suc k) 10 false n [])
first_digits k n = go (all_digits k (n / 10) (digit_glyph false (n % 10) ∷ []) (glyph (n % 10) (mod_below n 10 (omega arith)), tt)) (n / 10 == 0)
  where
    go : AreDigits (digits_onto k 10 false (n / 10) (digit_glyph false (n % 10) ∷ [])) → (b : Bool) → AreDigits (if b then digit_glyph false (n % 10) ∷ [] else digits_onto k 10 false (n / 10) (digit_glyph false (n % 10) ∷ []))
    go more true = (glyph (n % 10) (mod_below n 10 (omega arith)), tt)
    go more false = more

decimal_digits : (n : ℕ) → AreDigits (decimal n)
unfolding digits
decimal_digits n = first_digits 63 n

-- what goes on with parts of identifiers
abbrev AreParts : List ℕ → Type 0
AreParts s = AllByRecursion (λ c. is_identifier_part c ≡ true) s

digit_part : (c : ℕ) → IsDigit c → is_identifier_part c ≡ true
digit_part c (low, high) = grind (arith, nat_tests)

digits_parts : (s : List ℕ) → AllByRecursion IsDigit s → AreParts s
digits_parts [] are = tt
digits_parts (c ∷ s) are = (digit_part c are.0, digits_parts s are.1)

primes_parts : (n : ℕ) → AreParts (replicate n 39)
primes_parts zero = tt
primes_parts (suc n) = (refl, primes_parts n)

tested : (s : List ℕ) → AreParts s → list_all is_identifier_part s ≡ true
tested [] parts = refl
tested (c ∷ s) parts = and_from (is_identifier_part c) (list_all is_identifier_part s) parts.0 (tested s parts.1)

none_same : (x : List ℕ) (names : List (List ℕ)) → AllByRecursion (λ name. same x name ≡ false) names → list_any (same x) names ≡ false
none_same x [] none = refl
none_same x (name ∷ names) none = λ i. none.0 i || none_same x names none.1 i

base_commands : List (List ℕ)
base_commands = codes "theory" ∷ codes "end" ∷ codes "axiom" ∷ codes "lemma" ∷ codes "load" ∷ codes "proof" ∷ codes "fix" ∷ codes "assume" ∷ codes "have"
    ∷ codes "show" ∷ codes "next" ∷ codes "qed" ∷ codes "by" ∷ []

-- `h`, a digit and parts of identifiers
module _ (d : ℕ) (s : List ℕ) (digit : IsDigit d) (parts : AreParts s) where
  h_identifier : IsIdentifier (104 ∷ d ∷ s)
  h_identifier = identifier-tested (104 ∷ d ∷ s) (tested (d ∷ s) (digit_part d digit, parts))

  h_base : is_base_command (104 ∷ d ∷ s) ≡ false
  unfolding base_commands
  h_base =
      let not_have : same (104 ∷ d ∷ s) (codes "have") ≡ false = ap (λ b. b && same s (codes "ve")) (ne_eqb d 97 (λ e. omega (arith, digit, e))) in
      none_same (104 ∷ d ∷ s) base_commands (refl, (refl, (refl, (refl, (refl, (refl, (refl, (refl, (not_have, (refl, (refl, (refl, (refl, tt)))))))))))))

  h_minor : is_minor_keyword (104 ∷ d ∷ s) ≡ false
  h_minor = refl

-- `h`, digits and `'` are an identifier, no command of the language's own and no minor keyword
record IsNew (x : List ℕ) : Type 0 where
  identifier : IsIdentifier x
  base : is_base_command x ≡ false
  minor : is_minor_keyword x ≡ false

new_name : (s primes : List ℕ) → AreDigits s → AreParts primes → IsNew (104 ∷ (s ++ primes))
new_name [] primes are parts = absurd are
new_name (d ∷ s) primes are parts =
    let all = each-both (λ c. is_identifier_part c ≡ true) s primes (digits_parts s are.1) parts in
    record { identifier = h_identifier d (s ++ primes) are.0 all; base = h_base d (s ++ primes) are.0 all; minor = h_minor d (s ++ primes) are.0 all }

-- so is the name of the next assumption, and it is no alias
pub next_free_name : (aliases : List (List ℕ)) (names : Names) → IsFree aliases (next_name aliases names)
next_free_name aliases names =
    let new = new_name (decimal (names.own + 1)) _ (decimal_digits (names.own + 1)) (primes_parts _) in
    let free = or_parts (is_name_of names.facts (next_name aliases names)) (is_alias aliases (next_name aliases names)) (next_free aliases names) in
    (new.identifier, (λ i. new.base i || free.1 i), new.minor)
