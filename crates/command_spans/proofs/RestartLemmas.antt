-- The restart, found from the left.
use Rattle.std.proofs.Common.{◌≡◌, ◌⊎◌, ℕ, zero, suc, ◌+◌, ◌<◌, ◌≤◌, Bool, true, false, List, [], ◌∷◌, length, get_or, drop, sym, refl, ap, ◌∙◌, inl, inr, arith, add-one}
use Rattle.std.proofs.Math.Seq.{drop-cons}
use Rattle.std.proofs.lemmas.List.{drop_all}
use Rattle.std.specs.Prelude.{fold, if◌then◌else◌, nat_lt, ◌&&◌}
use Rattle.std.proofs.lemmas.Bool.{cond-true, cond-false, le-ltb}
use Rattle.outer_syntax.specs.declared.token.Token.{Token}
use Rattle.command_spans.specs.Spans.{Is}
use Rattle.command_spans.specs.CutTexts.{Rising, boundary_at}
use Rattle.command_spans.specs.Reparsing.{is_space, is_space_below, restart}
use Rattle.command_spans.proofs.PlaceLemmas.{first-boundary}
use Rattle.command_spans.proofs.ReadOn.{no_token, boundary-is}

-- the last of these tokens that is a space below the place, or else what was found before
abbrev pub restart_from : ℕ → ℕ → List Token → ℕ
restart_from place found tokens = fold (λ r t. if is_space_below place t then t.range.start else r) found tokens

below-late : (place : ℕ) (t : Token) → place ≤ t.range.start → is_space_below place t ≡ false
below-late place t late = go (is_space t.kind) where
  go : (b : Bool) → (b && nat_lt t.range.start place) ≡ false
  go true = le-ltb t.range.start place late
  go false = refl

-- past the place none is found
pub restart-late : (place found from to : ℕ) (ts : List Token) → place ≤ from → Rising from to ts → restart_from place found ts ≡ found
restart-late place found from to [] late is = refl
restart-late place found from to (t ∷ ts) late (starts, some, rest) =
    ap (λ r. restart_from place r ts) (cond-false (is_space_below place t) t.range.start found (below-late place t (omega arith)))
    ∙ restart-late place found t.range.stop to ts (omega arith) rest

-- what stands at a place doesn't go by the default
pub same-got : (ts : List Token) (k : ℕ) (d e : Token) → k < length ts → get_or ts k d ≡ get_or ts k e
same-got [] k d e below = absurd (omega arith)
same-got (t ∷ ts) zero d e below = refl
same-got (t ∷ ts) (suc k) d e below = same-got ts k d e (omega arith)

module _ (place len : ℕ) (ts : List Token) (i : ℕ) (below : i < length ts) where
  next-is : drop i ts ≡ get_or ts i no_token ∷ drop (i + 1) ts
  next-is = drop-cons ts i no_token below ∙ ap (λ k. get_or ts i no_token ∷ drop k ts) (sym (add-one i))

  -- one token more, which is a space below the place
  pub step-space : (found : ℕ) → is_space_below place (get_or ts i no_token) ≡ true → restart_from place (boundary_at len ts i) (drop (i + 1) ts) ≡ restart_from place found (drop i ts)
  step-space found space =
      ap (λ r. restart_from place r (drop (i + 1) ts)) (boundary-is len ts i no_token below ∙ sym (cond-true (is_space_below place (get_or ts i no_token)) (get_or ts i no_token).range.start found space))
      ∙ sym (ap (restart_from place found) next-is)

  -- one token more, which is another
  pub step-other : (found : ℕ) → is_space_below place (get_or ts i no_token) ≡ false → restart_from place found (drop (i + 1) ts) ≡ restart_from place found (drop i ts)
  step-other found other =
      ap (λ r. restart_from place r (drop (i + 1) ts)) (sym (cond-false (is_space_below place (get_or ts i no_token)) (get_or ts i no_token).range.start found other))
      ∙ sym (ap (restart_from place found) next-is)

-- among the first i tokens the last space below the place is the one that stands at a number
record LastAmong (place len : ℕ) (ts : List Token) (i : ℕ) : Type 0 where
  number : ℕ
  within : number ≤ length ts
  is : (number ≡ 0) ⊎ Is (is_space_below place) true ts number
  rest : restart_from place (boundary_at len ts number) (drop i ts) ≡ restart place ts

last-among : (place len : ℕ) (ts : List Token) → Rising 0 len ts → (i : ℕ) → i ≤ length ts → LastAmong place len ts i
last-among place len ts rises zero within = record {
  number = 0;
  within = omega arith;
  is = inl refl;
  rest = ap (λ r. restart_from place r ts) (first-boundary 0 len ts rises);
}
last-among place len ts rises (suc i) within = go (is_space_below place (get_or ts i no_token)) refl (last-among place len ts rises i (omega arith)) where
  next : i + 1 ≡ suc i
  next = add-one i

  go : (b : Bool) → is_space_below place (get_or ts i no_token) ≡ b → LastAmong place len ts i → LastAmong place len ts (suc i)
  go true space last = record {
    number = i;
    within = omega arith;
    is = inr (λ d. ap (is_space_below place) (same-got ts i d no_token (omega arith)) ∙ space);
    rest = ap (λ k. restart_from place (boundary_at len ts i) (drop k ts)) (sym next) ∙ step-space place len ts i (omega arith) (boundary_at len ts last.number) space ∙ last.rest;
  }
  go false other last = record {
    number = last.number;
    within = last.within;
    is = last.is;
    rest = ap (λ k. restart_from place (boundary_at len ts last.number) (drop k ts)) (sym next) ∙ step-other place len ts i (omega arith) (boundary_at len ts last.number) other ∙ last.rest;
  }

-- the number of the restart's token
pub restart-found : (place len : ℕ) (ts : List Token) → Rising 0 len ts → (k : ℕ) × (k ≤ length ts) × ((k ≡ 0) ⊎ Is (is_space_below place) true ts k) × (boundary_at len ts k ≡ restart place ts)
restart-found place len ts rises =
    let last = last-among place len ts rises (length ts) (omega arith) in
    (last.number, last.within, last.is, sym (ap (restart_from place (boundary_at len ts last.number)) (drop_all (length ts) ts (omega arith))) ∙ last.rest)
