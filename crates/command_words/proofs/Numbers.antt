-- Numbers that are read, and values that are given.
use Rattle.std.proofs.Common.{◌≡◌, ℕ, ◌^◌, ◌<◌, Bool, true, false, cond, List, [], ◌∷◌, length, drop, Option, Some, None, refl, sym, ap, subst, ◌∙◌}
use Rattle.std.proofs.lemmas.Bool.{ltb-true, lt-ltb, and_from, and_parts, or_parts}
use Rattle.std.specs.Prelude.{◌&&◌, ◌==◌, nat_lt, Result, Ok, Err, OkIff, option_and_then, codes}
use Rattle.std.specs.Result.{result_ok}
use Rattle.std.specs.Option.{option_map_or}
use Rattle.std.specs.List.{list_all}
use Rattle.std.specs.Char.{digit_value}
use Rattle.std.specs.Str.Parse.{AllDigits, IsNumeral, ParsesUnsigned, digits_value, without_leading_plus}
use Rattle.clap.specs.Words.{first_value, rows_of}
use Rattle.clap.proofs.WalkLemmas.{first_value-rows}
use Rattle.clap.specs.declared.parser.matches.Found.{Found}
use Rattle.command_words.specs.Asked.{has_needless, is_digit, nodes_in, number_of, workers_in}

all_true : (ds : List ℕ) → AllDigits 10 ds → list_all is_digit ds ≡ true
all_true [] all = refl
all_true (c ∷ cs) all = and_from (is_digit c) (list_all is_digit cs) (lt-ltb (digit_value c) 10 all.0) (all_true cs all.1)

true_all : (ds : List ℕ) → list_all is_digit ds ≡ true → AllDigits 10 ds
true_all [] e = tt
true_all (c ∷ cs) e = let parts = and_parts (is_digit c) (list_all is_digit cs) e in (ltb-true (digit_value c) 10 parts.0, true_all cs parts.1)

-- where no plus stands first, none is left out
no_plus : (text : List ℕ) → has_needless text ≡ false → without_leading_plus text ≡ text
no_plus [] e = refl
no_plus (c ∷ cs) e = ap (λ b. drop (cond b 1 0) (c ∷ cs)) (or_parts (c == 43) ((c == 48) && nat_lt 0 (length cs)) e).0

-- the test of a number
abbrev fits : List ℕ → Bool
fits ds = nat_lt 0 (length ds) && list_all is_digit ds && nat_lt (digits_value 10 ds) (2 ^ 32)

-- what is read of a text is the number that is printed so
pub read_number : {E : Type 0} (text : List ℕ) (r : Result ℕ E) (o : Option ℕ) → has_needless text ≡ false
    → ParsesUnsigned 32 10 text r → o ≡ result_ok r → o ≡ number_of text
read_number {E} text r o plain read is = go r (subst (λ ds. OkIff r (IsNumeral 10 ds × (digits_value 10 ds < 2 ^ 32)) (digits_value 10 ds)) (no_plus text plain) read) is
    ∙ ap (λ b. cond b None (cond (fits text) (Some (digits_value 10 text)) None)) (sym plain)
  where
    go : (s : Result ℕ E) → OkIff s (IsNumeral 10 text × (digits_value 10 text < 2 ^ 32)) (digits_value 10 text)
        → o ≡ result_ok s → o ≡ cond (fits text) (Some (digits_value 10 text)) None
    go (Ok v) p same = same ∙ ap (λ n. Some n) p.1
        ∙ sym (ap (λ b. cond b (Some (digits_value 10 text)) None)
        (and_from (nat_lt 0 (length text) && list_all is_digit text) (nat_lt (digits_value 10 text) (2 ^ 32))
        (and_from (nat_lt 0 (length text)) (list_all is_digit text) (lt-ltb 0 (length text) p.0.0.0) (all_true text p.0.0.1))
        (lt-ltb (digits_value 10 text) (2 ^ 32) p.0.1)))
    go (Err e) p same = same ∙ none (fits text) refl
      where
        none : (b : Bool) → fits text ≡ b → None ≡ cond b (Some (digits_value 10 text)) None
        none false f = refl
        none true f =
            let outer = and_parts (nat_lt 0 (length text) && list_all is_digit text) (nat_lt (digits_value 10 text) (2 ^ 32)) f in
            let inner = and_parts (nat_lt 0 (length text)) (list_all is_digit text) outer.0 in
            absurd (p (
              (ltb-true 0 (length text) inner.0, true_all text inner.1),
              ltb-true (digits_value 10 text) (2 ^ 32) outer.1,
            ))

-- the values that are given, by the rows
pub workers_given : (f : Found) (t : List ℕ) → first_value f (codes "workers") ≡ Some t → workers_in (rows_of f) ≡ number_of t
workers_given f t e = ap (λ o. option_map_or number_of o (Some 0)) (sym (first_value-rows f (codes "workers")) ∙ e)

pub no_workers : (f : Found) → first_value f (codes "workers") ≡ None → workers_in (rows_of f) ≡ Some 0
no_workers f e = ap (λ o. option_map_or number_of o (Some 0)) (sym (first_value-rows f (codes "workers")) ∙ e)

pub nodes_given : (f : Found) (t : List ℕ) → first_value f (codes "nodes") ≡ Some t → nodes_in (rows_of f) ≡ number_of t
nodes_given f t e = ap (option_and_then number_of) (sym (first_value-rows f (codes "nodes")) ∙ e)

pub no_nodes : (f : Found) → first_value f (codes "nodes") ≡ None → nodes_in (rows_of f) ≡ None
no_nodes f e = ap (option_and_then number_of) (sym (first_value-rows f (codes "nodes")) ∙ e)
