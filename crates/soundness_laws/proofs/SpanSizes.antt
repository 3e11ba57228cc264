-- How many tokens go on a span, where they end well and the others wait for a command.
use Rattle.std.proofs.Common.{◌≡◌, ◌⊎◌, inl, inr, ℕ, zero, suc, ◌<◌, ◌≤◌, Bool, true, false, List, [], ◌∷◌, ◌++◌, length, sym, refl, ap, ◌∙◌, arith}
use Rattle.std.specs.Prelude.{⊤, if◌then◌else◌}
use Rattle.std.specs.List.{slice_index_or}
use Rattle.std.proofs.lemmas.Bool.{cond-true, cond-false}
use Rattle.outer_syntax.specs.Kinds.{is_proper, is_command}
use Rattle.outer_syntax.specs.declared.kind.Kind.{Kind}
use Rattle.outer_syntax.specs.declared.kind.Kind.TheVariants as kind
use Rattle.outer_syntax.specs.declared.token.Token.{Token}
use Rattle.command_spans.specs.Spans.{proper_token, command_token}
use Rattle.command_spans.specs.Cutting.{one_more, run_size, improper_size, rest_size, kind_from, first_span}

-- the last of them is proper
abbrev pub EndsProper : List Token → Type 0
EndsProper [] = ⊥
EndsProper (t ∷ []) = is_proper t.kind ≡ true
EndsProper (t ∷ u ∷ ts) = EndsProper (u ∷ ts)

-- a command comes first among the proper ones, or there is none of these
abbrev pub Waits : List Token → Type 0
Waits [] = ⊤
Waits (t ∷ ts) = (is_command t.kind ≡ true) ⊎ ((is_proper t.kind ≡ false) × Waits ts)

pub ends_more : (t : Token) (ts : List Token) → EndsProper ts → EndsProper (t ∷ ts)
ends_more t [] ends = absurd ends
ends_more t (u ∷ ts) ends = ends

pub proper_other : (k : Kind) → is_proper k ≡ false → is_command k ≡ false
proper_other kind.Command e = cc
proper_other _ e = refl

-- how many tokens go on a span, by the token that is next
pub run-command : (t : Token) (ts : List Token) → is_command t.kind ≡ true → run_size (t ∷ ts) ≡ 0
run-command t ts e = cond-true (command_token t) 0 _ e

pub run-proper : (t : Token) (ts : List Token) → is_command t.kind ≡ false → is_proper t.kind ≡ true → run_size (t ∷ ts) ≡ suc (run_size ts)
run-proper t ts e p = cond-false (command_token t) 0 _ e ∙ cond-true (proper_token t) (suc (run_size ts)) (one_more (run_size ts)) p

pub run-improper : (t : Token) (ts : List Token) → is_proper t.kind ≡ false → run_size (t ∷ ts) ≡ one_more (run_size ts)
run-improper t ts p = cond-false (command_token t) 0 _ (proper_other t.kind p) ∙ cond-false (proper_token t) (suc (run_size ts)) (one_more (run_size ts)) p

run-waits : (ts : List Token) → Waits ts → run_size ts ≡ 0
run-waits [] w = refl
run-waits (t ∷ ts) (inl command) = run-command t ts command
run-waits (t ∷ ts) (inr (improper, more)) = run-improper t ts improper ∙ ap one_more (run-waits ts more)

-- what waits adds nothing to a span
pub run-over : (xs rest : List Token) → Waits rest → run_size (xs ++ rest) ≡ run_size xs
run-over [] rest w = run-waits rest w
run-over (t ∷ xs) rest w =
    ap (λ n. if command_token t then 0 else (if proper_token t then suc n else one_more n)) (run-over xs rest w)

-- nor what follows a proper token to a run of improper ones
pub improper-over : (xs rest : List Token) → EndsProper xs → improper_size (xs ++ rest) ≡ improper_size xs
improper-over [] rest ends = absurd ends
improper-over (t ∷ []) rest ends = cond-true (proper_token t) 0 _ ends ∙ sym (cond-true (proper_token t) 0 _ ends)
improper-over (t ∷ u ∷ xs) rest ends =
    ap (λ n. if proper_token t then 0 else suc n) (improper-over (u ∷ xs) rest ends)

-- a size that is at most so many tokens
one-more-low : (n m : ℕ) → n ≤ m → one_more n ≤ suc m
one-more-low zero m low = omega arith
one-more-low (suc n) m low = omega (arith, low)

pub run-low : (xs : List Token) → run_size xs ≤ length xs
run-low [] = omega arith
run-low (t ∷ xs) = go (command_token t) (proper_token t) (run-low xs)
  where
    go : (c p : Bool) → run_size xs ≤ length xs → (if c then 0 else (if p then suc (run_size xs) else one_more (run_size xs))) ≤ suc (length xs)
    go true p low = omega arith
    go false true low = omega (arith, low)
    go false false low = one-more-low (run_size xs) (length xs) low

pub improper-low : (xs : List Token) → improper_size xs ≤ length xs
improper-low [] = omega arith
improper-low (t ∷ xs) = go (proper_token t) (improper-low xs)
  where
    go : (p : Bool) → improper_size xs ≤ length xs → (if p then 0 else suc (improper_size xs)) ≤ suc (length xs)
    go true low = omega arith
    go false low = omega (arith, low)

pub index-over : (xs rest : List Token) (n : ℕ) (d : Token) → n < length xs → slice_index_or (xs ++ rest) n d ≡ slice_index_or xs n d
index-over [] rest n d low = absurd (omega (arith, low))
index-over (x ∷ xs) rest zero d low = refl
index-over (x ∷ xs) rest (suc n) d low = index-over xs rest n d (omega (arith, low))

-- the first span and how many tokens follow its first one are not changed by what waits behind
pub rest-over : (t : Token) (xs rest : List Token) → EndsProper (t ∷ xs) → Waits rest → rest_size t (xs ++ rest) ≡ rest_size t xs
rest-over t [] rest ends w = cond-true (proper_token t) (run_size rest) (improper_size rest) ends ∙ run-waits rest w ∙ sym (cond-true (proper_token t) 0 0 ends)
rest-over t (u ∷ xs) rest ends w =
    (λ i. if proper_token t then run-over (u ∷ xs) rest w i else improper-over (u ∷ xs) rest ends i)

pub rest-low : (t : Token) (xs : List Token) → rest_size t xs ≤ length xs
rest-low t xs = go (proper_token t)
  where
    go : (p : Bool) → (if p then run_size xs else improper_size xs) ≤ length xs
    go true = run-low xs
    go false = improper-low xs

pub first-over : (t : Token) (xs rest : List Token) → EndsProper (t ∷ xs) → Waits rest → first_span t (xs ++ rest) ≡ first_span t xs
first-over t xs rest ends w =
    let last : slice_index_or (t ∷ xs ++ rest) (rest_size t (xs ++ rest)) t ≡ slice_index_or (t ∷ xs) (rest_size t xs) t =
    ap (λ n. slice_index_or (t ∷ xs ++ rest) n t) (rest-over t xs rest ends w) ∙ index-over (t ∷ xs) rest (rest_size t xs) t (omega (arith, rest-low t xs)) in
    λ i. record { kind = kind_from t; range = record { start = t.range.start; stop = (last i).range.stop } }
