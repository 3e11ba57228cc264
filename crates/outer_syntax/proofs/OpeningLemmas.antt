-- What begins with an opening: one bracket, which is closed once, and no blank in it.
use Rattle.std.proofs.Common.{◌≡◌, ℕ, zero, suc, ◌+◌, ◌-◌, ◌≤◌, ◌==◌, Bool, true, false, cond, List, ◌++◌, length, get_or, take, drop, sym, refl, ap, ◌∙◌, subst, ⊎_elim, arith, length-take-le, length-drop, length-append}
use Rattle.std.specs.List.{AllPass}
use Rattle.std.proofs.lemmas.Bool.{both_ways, or_cases, eqb-true}
use Rattle.std.proofs.lemmas.List.{drop_at, drop-take}
use Rattle.std.proofs.lemmas.List.Sums.{AllPass-from_list_all}
use Rattle.text_words.specs.Blanks.{is_blank}
use Rattle.text_words.specs.Identifier.{is_identifier_part}
use Rattle.outer_syntax.specs.Brackets.{opening, piece, after, ClosesText, IsEnclosed}
use Rattle.outer_syntax.specs.declared.bracket.Bracket.{Bracket}
use Rattle.outer_syntax.specs.declared.bracket.Bracket.TheVariants.{Comment, String, Cartouche}
use Rattle.outer_syntax.proofs.BracketLemmas.{down, piece-some}
use Rattle.outer_syntax.proofs.LeftLemmas.{closes-nothing}
use Rattle.outer_syntax.proofs.CrossLemmas.{part-inner, blank-outer}
use Rattle.outer_syntax.proofs.KnownWords.{is_word}

-- two fronts of a text that close as many open brackets are one
one-closing : (b : Bracket) (k depth : ℕ) (s : List ℕ) (n m : ℕ) → n ≤ k → n ≤ length s → m ≤ length s → ClosesText b depth (take n s) → ClosesText b depth (take m s) → n ≡ m
one-closing b k zero s n m limit within inside one other =
    omega (arith, ap length (closes-nothing b (take n s) one), ap length (closes-nothing b (take m s) other), length-take-le n s within, length-take-le m s inside)
one-closing b zero (suc d) s n m limit within inside one other =
    absurd (omega (arith, limit, piece-some b s, (down b (suc d) s n (omega arith) within one).0))
one-closing b (suc k) (suc d) s n m limit within inside one other =
    let x = down b (suc d) s n (omega arith) within one in
    let y = down b (suc d) s m (omega arith) inside other in
    let size : ℕ = (piece b s).1 in
    let rest : n - size ≡ m - size = one-closing b k (after (piece b s).0 (suc d)) (drop size s) (n - size) (m - size) (omega (arith, limit, piece-some b s, x.0)) (omega (arith, within, length-drop size s)) (omega (arith, inside, length-drop size s)) x.1 y.1 in
    omega (arith, rest, x.0, y.0)

front-inside : (b : Bracket) (s : List ℕ) (n : ℕ) → n ≤ length s → IsEnclosed b (take n s) → (length (opening b) ≤ n) × ClosesText b 1 (take (n - length (opening b)) (drop (length (opening b)) s))
front-inside b s n within (inside, e, closes) =
    let a : ℕ = length (opening b) in
    let upto : a ≤ n = omega (arith, length-take-le n s within, ap length e, length-append (opening b) inside) in
    let whole : a + (n - a) ≡ n = omega arith in
    let same : inside ≡ take (n - a) (drop a s) = sym (drop_at (opening b) inside a refl) ∙ ap (drop a) (sym e) ∙ ap (λ k. drop a (take k s)) (sym whole) ∙ drop-take a (n - a) s in
    (upto, subst (ClosesText b 1) same closes)

-- a text has one enclosed front at most
pub one-enclosed : (b : Bracket) (s : List ℕ) (n m : ℕ) → n ≤ length s → m ≤ length s → IsEnclosed b (take n s) → IsEnclosed b (take m s) → n ≡ m
one-enclosed b s n m within inside one other =
    let x = front-inside b s n within one in
    let y = front-inside b s m inside other in
    let a : ℕ = length (opening b) in
    let rest : n - a ≡ m - a = one-closing b (n - a) 1 (drop a s) (n - a) (m - a) (omega arith) (omega (arith, within, length-drop a s)) (omega (arith, inside, length-drop a s)) x.1 y.1 in
    omega (arith, rest, x.0, y.0)

-- no blank is a scalar of a word
pub blank-word : (c : ℕ) → is_blank c ≡ true → is_word c ≡ true → ⊥
blank-word c blank word =
    ⊎_elim (λ (part : is_identifier_part c ≡ true). blank-outer c blank (part-inner c part))
    (λ (dot : (c == 46) ≡ true). both_ways (is_blank 46) refl (ap is_blank (sym (eqb-true c 46 dot)) ∙ blank))
    (or_cases (is_identifier_part c) (c == 46) word)

-- an opening has no blank
abbrev pub solid : ℕ → Bool
solid c = cond (is_blank c) false true

pub opening-solid : (b : Bracket) → AllPass solid (opening b)
opening-solid Comment = AllPass-from_list_all solid (opening Comment) refl
opening-solid String = AllPass-from_list_all solid (opening String) refl
opening-solid Cartouche = AllPass-from_list_all solid (opening Cartouche) refl

pub blank-solid : (c : ℕ) → is_blank c ≡ true → solid c ≡ true → ⊥
blank-solid c blank is = both_ways false refl (sym (ap (λ x. cond x false true) blank) ∙ is)

-- the first scalar of an opening
abbrev first_of : Bracket → ℕ
first_of Comment = 40
first_of String = 34
first_of Cartouche = 92

begins-so : (b : Bracket) (s x : List ℕ) → s ≡ opening b ++ x → get_or s 0 0 ≡ first_of b
begins-so Comment s x e = ap (λ r. get_or r 0 0) e
begins-so String s x e = ap (λ r. get_or r 0 0) e
begins-so Cartouche s x e = ap (λ r. get_or r 0 0) e

one-bracket : (a b : Bracket) → first_of a ≡ first_of b → a ≡ b
one-bracket Comment Comment e = refl
one-bracket Comment String e = absurd (omega arith)
one-bracket Comment Cartouche e = absurd (omega arith)
one-bracket String Comment e = absurd (omega arith)
one-bracket String String e = refl
one-bracket String Cartouche e = absurd (omega arith)
one-bracket Cartouche Comment e = absurd (omega arith)
one-bracket Cartouche String e = absurd (omega arith)
one-bracket Cartouche Cartouche e = refl

-- a text begins with one opening at most
pub one-opening : (a b : Bracket) (s x y : List ℕ) → s ≡ opening a ++ x → s ≡ opening b ++ y → a ≡ b
one-opening a b s x y d e = one-bracket a b (sym (begins-so a s x d) ∙ begins-so b s y e)
