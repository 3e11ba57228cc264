-- What is left of a bracket's inside at a piece, and where its closing is found.
use Rattle.std.proofs.Common.{◌≡◌, ℕ, ◌+◌, ◌-◌, ◌<◌, ◌≤◌, List, [], ◌∷◌, length, take, drop, sym, refl, ap, subst, arith, length-take-le, length-drop}
use Rattle.std.proofs.lemmas.List.{drop-drop}
use Rattle.text_words.specs.Longest.{IsLongest, HasNoFront}
use Rattle.outer_syntax.specs.Brackets.{piece, after, ClosesText}
use Rattle.outer_syntax.specs.declared.bracket.Bracket.{Bracket}
use Rattle.outer_syntax.specs.declared.bracket.Mark.{Mark}
use Rattle.outer_syntax.specs.declared.bracket.Mark.TheVariants.{Open, Close, Other}
use Rattle.outer_syntax.proofs.BracketLemmas.{closing-some, close-fits, room, down, up}

-- the loop has come to `at` with so many open brackets: what is left closes them just where the whole closes one
pub record IsLeft (b : Bracket) (inside : List ℕ) (depth at : ℕ) : Type 0 where
  pub onward : (m : ℕ) → m ≤ length inside → ClosesText b 1 (take m inside) → (at ≤ m) × ClosesText b depth (take (m - at) (drop at inside))
  pub back : (m : ℕ) → m ≤ length inside → at ≤ m → ClosesText b depth (take (m - at) (drop at inside)) → ClosesText b 1 (take m inside)

pub left-start : (b : Bracket) (inside : List ℕ) → IsLeft b inside 1 0
left-start b inside = record {
  onward = λ m within closes. let same : m ≡ m - 0 = omega arith in (omega arith, subst (λ n. ClosesText b 1 (take n inside)) same closes);
  back = λ m within past closes. let same : m - 0 ≡ m = omega arith in subst (λ n. ClosesText b 1 (take n inside)) same closes;
}

module _ {b : Bracket} {inside : List ℕ} {depth at : ℕ} (left : IsLeft b inside depth at) where
  -- one piece more
  pub left-more : 0 < depth → at < length inside → IsLeft b inside (after (piece b (drop at inside)).0 depth) (at + (piece b (drop at inside)).1)
  left-more positive before = record {
    onward = λ m within closes.
        let here = left.onward m within closes in
        let step = down b depth (drop at inside) (m - at) positive (omega (arith, length-drop at inside)) here.1 in
        let next : m - at - size ≡ m - (at + size) = omega arith in
        (omega (arith, here.0, step.0), subst (λ n. ClosesText b to (take n (drop (at + size) inside))) next (subst (λ r. ClosesText b to (take (m - at - size) r)) (drop-drop size at inside) step.1));
    back = λ m within past closes.
        let next : m - (at + size) ≡ m - at - size = omega arith in
        let closes_there = subst (λ r. ClosesText b to (take (m - at - size) r)) (sym (drop-drop size at inside)) (subst (λ n. ClosesText b to (take n (drop (at + size) inside))) next closes) in
        left.back m within (omega arith) (up b depth (drop at inside) (m - at) positive (omega (arith, length-drop at inside)) (omega arith) closes_there);
  } where
    size : ℕ
    size = (piece b (drop at inside)).1

    to : ℕ
    to = after (piece b (drop at inside)).0 depth

  -- at the text's end with an open bracket no front closes
  pub left-none : 0 < depth → length inside ≤ at → HasNoFront (ClosesText b 1) inside
  left-none positive past m within closes =
      let here = left.onward m within closes in
      let marks = here.1 in
      omega (arith, closing-some b, room b (take (m - at) (drop at inside)) marks.0 depth positive marks.1 marks.2, length-take-le (m - at) (drop at inside) (omega (arith, here.0, length-drop at inside)))

pub closes-nothing : (b : Bracket) (s : List ℕ) → ClosesText b 0 s → s ≡ []
closes-nothing b s ([], reads, c) = reads
closes-nothing b s (m ∷ ms, reads, c) = absurd (omega (arith, c.last 0 (omega arith)))

-- where nothing is open any more, the closing is found
pub left-found : (b : Bracket) (inside : List ℕ) (at : ℕ) → IsLeft b inside 0 at → at ≤ length inside → IsLongest (ClosesText b 1) inside at
left-found b inside at left within = record {
  within = within;
  fits = let none : at - at ≡ 0 = omega arith in
      left.back at within (omega arith) (subst (λ n. ClosesText b 0 (take n (drop at inside))) (sym none) ([], refl, record { all = refl; last = λ k below. absurd (omega arith) }));
  longest = λ m fits closes.
      let here = left.onward m fits closes in
      omega (arith, ap length (closes-nothing b _ here.1), length-take-le (m - at) (drop at inside) (omega (arith, length-drop at inside)));
}

-- the piece after which nothing is open is a closing, whole
pub last-fits : (b : Bracket) (depth : ℕ) (s : List ℕ) → 0 < depth → after (piece b s).0 depth ≡ 0 → (piece b s).1 ≤ length s
last-fits b depth s positive none = go (piece b s).0 refl none where
  go : (m : Mark) → (piece b s).0 ≡ m → after m depth ≡ 0 → (piece b s).1 ≤ length s
  go Open mark none = absurd (omega arith)
  go Close mark none = let h = close-fits b s mark in omega (arith, h.0, h.1)
  go Other mark none = absurd (omega arith)
