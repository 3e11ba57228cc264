-- The boundaries of a text rise, and are numbered as its symbols are.
use Rattle.std.proofs.Common.{◌≡◌, ℕ, zero, suc, ◌+◌, ◌-◌, ◌<◌, ◌≤◌, Some, List, [], ◌∷◌, length, map, get_or, refl, ap, ◌∙◌, subst, arith, length-drop}
use Rattle.std.proofs.lemmas.List.{length-map}
use Rattle.std.specs.Prelude.{slice_get}
use Rattle.outer_syntax.specs.Symbols.{IsSymbolAt, AreSymbolsBetween, IsBoundary, IsInside, symbols_of}
use Rattle.outer_syntax.specs.Boundaries.{boundaries_of, boundaries, last_place, LiesBetween, Rises}
use Rattle.outer_syntax.proofs.Laws.{rises}
use Rattle.outer_syntax.proofs.SymbolLemmas.{boundary-more}
use Rattle.outer_syntax.proofs.FunctionLemmas.{are-symbols}
use Rattle.outer_syntax.proofs.KnownStops.{same-stop, place-within}

pub got : (xs : List ℕ) (k : ℕ) → k < length xs → slice_get xs k ≡ Some (get_or xs k 0)
got [] k below = absurd (omega arith)
got (x ∷ xs) zero below = refl
got (x ∷ xs) (suc k) below = got xs k (omega arith)

read : (xs : List ℕ) (k x : ℕ) → slice_get xs k ≡ Some x → get_or xs k 0 ≡ x
read [] k x e = cc
read (y ∷ xs) zero x e = cc
read (y ∷ xs) (suc k) x e = read xs k x e

inside-list : (xs : List ℕ) (k x : ℕ) → x < get_or xs k 0 → k < length xs
inside-list [] k x above = absurd (omega arith)
inside-list (y ∷ xs) zero x above = omega arith
inside-list (y ∷ xs) (suc k) x above = omega (arith, inside-list xs k x above)

pub stop-within : (text : List ℕ) (start stop : ℕ) → IsSymbolAt text start stop → stop ≤ length text
stop-within text start stop at = omega (arith, at.0, at.1.within, length-drop start text)

-- each stop is above where the symbols begin
above : (text : List ℕ) (from to : ℕ) (ss : List (ℕ × ℕ)) (j : ℕ) → AreSymbolsBetween text from to ss → j < length ss → from < get_or (map (λ s. s.1) ss) j 0
above text from to [] j is below = absurd (omega arith)
above text from to (s ∷ ss) zero is below = is.1.0
above text from to (s ∷ ss) (suc j) is below = omega (arith, is.1.0, above text s.1 to ss j is.2 (omega arith))

rising : (text : List ℕ) (from to : ℕ) (ss : List (ℕ × ℕ)) (i j : ℕ) → AreSymbolsBetween text from to ss → i < j → j < suc (length ss) → get_or (from ∷ map (λ s. s.1) ss) i 0 < get_or (from ∷ map (λ s. s.1) ss) j 0
rising text from to ss i zero is less below = absurd (omega arith)
rising text from to ss zero (suc j) is less below = above text from to ss j is (omega arith)
rising text from to [] (suc i) (suc j) is less below = absurd (omega arith)
rising text from to (s ∷ ss) (suc i) (suc j) is less below = rising text s.1 to ss i j is.2 (omega arith) (omega arith)

pub boundaries-rise : (text : List ℕ) (to : ℕ) (ss : List (ℕ × ℕ)) → AreSymbolsBetween text 0 to ss → Rises (boundaries_of ss)
boundaries-rise text to ss is i j less below = rising text 0 to ss i j is less (omega (arith, length-map {B = ℕ} ss (λ s. s.1)))

-- the place of a number
at-number : (text : List ℕ) (from to : ℕ) (ss : List (ℕ × ℕ)) (n place : ℕ) → AreSymbolsBetween text from to ss → slice_get (from ∷ map (λ s. s.1) ss) n ≡ Some place → (before : List (ℕ × ℕ)) × AreSymbolsBetween text from place before × (length before ≡ n)
at-number text from to ss zero place is e = ([], cc, refl)
at-number text from to [] (suc n) place is e = absurd (cc)
at-number text from to (s ∷ ss) (suc n) place is e =
    let more = at-number text s.1 to ss n place is.2 e in (s ∷ more.0, (is.0, is.1, more.1), ap suc more.2)

-- the number of a place
number-of : (text : List ℕ) (from to place : ℕ) (before ss : List (ℕ × ℕ)) → AreSymbolsBetween text from place before → AreSymbolsBetween text from to ss → place ≤ to → slice_get (from ∷ map (λ s. s.1) ss) (length before) ≡ Some place
number-of text from to place [] ss one is upto = ap Some one
number-of text from to place (b ∷ bs) [] one is upto = absurd (omega (arith, is, one.1.0, rises text b.1 place bs one.2))
number-of text from to place (b ∷ bs) (s ∷ ss) one is upto =
    let same : b.1 ≡ s.1 = same-stop text from b.1 s.1 one.1 is.1 in
    number-of text s.1 to place bs ss (subst (λ p. AreSymbolsBetween text p place bs) same one.2) is.2 upto

pub at-boundary : (text : List ℕ) (n place : ℕ) → slice_get (boundaries text) n ≡ Some place → IsBoundary text n place
at-boundary text n place e = at-number text 0 (length text) (symbols_of text) n place (are-symbols text) e

pub boundary-at : (text : List ℕ) (n place : ℕ) → IsBoundary text n place → slice_get (boundaries text) n ≡ Some place
boundary-at text n place (before, is, count) =
    subst (λ k. slice_get (boundaries text) k ≡ Some place) count
    (number-of text 0 (length text) place before (symbols_of text) is (are-symbols text) (place-within text 0 place before is (omega arith)))

-- neighbours are the ends of a symbol
neighbours : (text : List ℕ) (from to : ℕ) (ss : List (ℕ × ℕ)) (n : ℕ) → AreSymbolsBetween text from to ss → n < length ss → IsSymbolAt text (get_or (from ∷ map (λ s. s.1) ss) n 0) (get_or (map (λ s. s.1) ss) n 0)
neighbours text from to [] n is below = absurd (omega arith)
neighbours text from to (s ∷ ss) zero is below = is.1
neighbours text from to (s ∷ ss) (suc n) is below = neighbours text s.1 to ss n is.2 (omega arith)

pub between-inside : (text : List ℕ) (n place : ℕ) → LiesBetween (boundaries text) n place → IsInside text n place
between-inside text n place lies =
    let ss = symbols_of text in
    let past : n + 1 < length (boundaries text) = inside-list (boundaries text) (n + 1) place lies.1 in
    let count : length (map (λ s. s.1) ss) ≡ length ss = length-map {B = ℕ} ss (λ s. s.1) in
    let more : n + 1 ≡ suc n = omega arith in
    let next : get_or (boundaries text) (n + 1) 0 ≡ get_or (map (λ s. s.1) ss) n 0 = ap (λ k. get_or (boundaries text) k 0) more in (
      get_or (boundaries text) n 0,
      get_or (map (λ s. s.1) ss) n 0,
      at-boundary text n (get_or (boundaries text) n 0) (got (boundaries text) n (omega arith)),
      neighbours text 0 (length text) ss n (are-symbols text) (omega arith),
      lies.0,
      omega (arith, lies.1, next),
    )

pub inside-between : (text : List ℕ) (n place : ℕ) → IsInside text n place → LiesBetween (boundaries text) n place
inside-between text n place (start, stop, boundary, at, after, before) =
    let here : get_or (boundaries text) n 0 ≡ start = read (boundaries text) n start (boundary-at text n start boundary) in
    let next : get_or (boundaries text) (n + 1) 0 ≡ stop = read (boundaries text) (n + 1) stop (boundary-at text (n + 1) stop (boundary-more text n start stop boundary at)) in
    (omega (arith, here), omega (arith, next))

last-is : (text : List ℕ) (from to : ℕ) (ss : List (ℕ × ℕ)) → AreSymbolsBetween text from to ss → get_or (from ∷ map (λ s. s.1) ss) (length ss) 0 ≡ to
last-is text from to [] is = is
last-is text from to (s ∷ ss) is = last-is text s.1 to ss is.2

pub last-ends : (text : List ℕ) → last_place (boundaries text) ≡ length text
last-ends text =
    let ss = symbols_of text in
    let count : length (boundaries text) - 1 ≡ length ss = omega (arith, length-map {B = ℕ} ss (λ s. s.1)) in
    ap (λ k. get_or (boundaries text) k 0) count ∙ last-is text 0 (length text) ss (are-symbols text)
