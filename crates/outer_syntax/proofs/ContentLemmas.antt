-- One escape or scalar more of a string's inside.
use Rattle.std.proofs.Common.{◌≡◌, ℕ, zero, suc, ◌+◌, ◌-◌, ◌<◌, ◌&&◌, ◌==◌, List, [], ◌∷◌, length, get_or, drop, sym, refl, ap, ◌∙◌, arith}
use Rattle.std.proofs.lemmas.Bool.{cond_both}
use Rattle.std.proofs.lemmas.List.{drop_more, drop-drop}
use Rattle.outer_syntax.specs.Brackets.{begins}
use Rattle.outer_syntax.specs.Contents.{begins_code, first_of, replaced_from}

skipped : (k : ℕ) (s : List ℕ) → replaced_from k s ≡ replaced_from 0 (drop k s)
skipped zero s = refl
skipped (suc k) [] = refl
skipped (suc k) (c ∷ s) = skipped k s

first-some : (c : ℕ) (s : List ℕ) → 0 < (first_of c s).1
first-some c s =
    let P : ℕ × ℕ → Type 0 = λ p. 0 < p.1 in
    cond_both (c == 92 && begins (34 ∷ []) s) _ _ P (λ e. omega arith) (λ e.
    cond_both (c == 92 && begins (92 ∷ []) s) _ _ P (λ e. omega arith) (λ e.
    cond_both (c == 92 && begins_code s) _ _ P (λ e. omega arith) (λ e. omega arith)))

pub replaced-more : (s : List ℕ) (at c : ℕ) → at < length s → c ≡ get_or s at c → replaced_from 0 (drop at s) ≡ (first_of c (drop (at + 1) s)).0 ∷ replaced_from 0 (drop (at + (first_of c (drop (at + 1) s)).1) s)
replaced-more s at c below here =
    let size : ℕ = (first_of c (drop (at + 1) s)).1 in
    let some : 0 < size = first-some c (drop (at + 1) s) in
    let place : at + 1 + (size - 1) ≡ at + size = omega arith in
    ap (replaced_from 0) (drop_more s at c below ∙ ap (λ x. x ∷ drop (at + 1) s) (sym here))
    ∙ ap (λ r. (first_of c (drop (at + 1) s)).0 ∷ r) (skipped (size - 1) (drop (at + 1) s) ∙ ap (replaced_from 0) (drop-drop (size - 1) (at + 1) s ∙ ap (λ n. drop n s) place))
