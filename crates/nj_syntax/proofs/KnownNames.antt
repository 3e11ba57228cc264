-- The names among the tokens of a text are identifiers, and identifiers are ASCII.
use Rattle.std.proofs.Common.{◌&&◌, ◌<◌, ◌==◌, ℕ, Bool, true, false, cond, IsTrue, List, [], ◌∷◌, Option, Some, None, option_map, IfSome, subst, arith}
use Rattle.std.proofs.lemmas.Bool.Decides.{nat_tests}
use Rattle.std.specs.List.{AllByRecursion}
use Rattle.text_words.specs.Identifier.{is_identifier_part, is_identifier, IsIdentifier}
use Rattle.text_words.specs.Longest.{FindsLongest}
use Rattle.text_words.proofs.KnownIdentifiers.{tested-identifier}
use Rattle.nj_syntax.specs.declared.token.Token.{Token}
use Rattle.nj_syntax.specs.declared.token.Token.TheVariants.{Name, Implies}
use Rattle.nj_syntax.specs.declared.token.Placed.{Placed}
use Rattle.nj_syntax.specs.Lexis.{sign, ends_arrow, front_sign, front_name, name_or_sign, first_token}
use Rattle.nj_syntax.specs.Tokens.{AreTokens, ends, stops, blank, begins}
use Rattle.nj_syntax.proofs.LexisLemmas.{name_found}

pub part_is_ascii : (c : ℕ) → IsTrue (is_identifier_part c) → c < 128
part_is_ascii c h = grind (arith, nat_tests)

-- a name is an identifier
abbrev pub IsSpelled : Token → Type 0
IsSpelled (Name x) = IsTrue (is_identifier x)
IsSpelled _ = Unit {0}

-- the same of a token with its length
abbrev FirstSpelled : Token × ℕ → Type 0
FirstSpelled t = IsSpelled t.0

either : (P : Option Token → Type 0) (b : Bool) {x y : Option Token} → P x → P y → P (cond b x y)
either P true h k = h
either P false h k = k

sign_spelled : (c : ℕ) → IfSome (sign c) IsSpelled
sign_spelled c =
    let is : Option Token → Type 0 = λ s. IfSome s IsSpelled in
    either is (c == 126) tt (either is (c == 38) tt (either is (c == 124) tt
    (either is (c == 40) tt (either is (c == 41) tt (either is (c == 44) tt (either is (c == 46) tt tt))))))

front_spelled : (text : List ℕ) → IfSome (front_sign text) FirstSpelled
front_spelled [] = tt
front_spelled (c ∷ text) = go (c == 45 && ends_arrow text)
  where
    one : (s : Option Token) → IfSome s IsSpelled → IfSome (option_map (λ t. (t, 1)) s) FirstSpelled
    one None is = tt
    one (Some t) is = is

    go : (b : Bool) → IfSome (cond b (Some (Implies, 3)) (option_map (λ t. (t, 1)) (sign c))) FirstSpelled
    go true = tt
    go false = one (sign c) (sign_spelled c)

first_spelled : (text : List ℕ) → IfSome (first_token text) FirstSpelled
first_spelled text = go (front_name text) (name_found text)
  where
    go : (r : Option ℕ) → FindsLongest IsIdentifier text r → IfSome (name_or_sign text r) FirstSpelled
    go None none = front_spelled text
    go (Some n) longest = tested-identifier _ longest.fits

-- of all tokens of a text
pub names_spelled : {at stop : ℕ} {text : List ℕ} {ts : List Placed} {whole : Bool} → AreTokens at text ts stop whole
    → AllByRecursion (λ t. IsSpelled t.token) ts
names_spelled ends = tt
names_spelled (stops ink none) = tt
names_spelled (blank is h) = names_spelled h
names_spelled (begins {c = c} {text = text} ink some h) =
    (subst (λ found. IfSome found FirstSpelled) some (first_spelled (c ∷ text)), names_spelled h)
