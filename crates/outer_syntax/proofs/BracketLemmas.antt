-- How the closing of a bracket is found piece by piece.
use Rattle.std.proofs.Common.{◌≡◌, ℕ, zero, suc, ◌+◌, ◌-◌, ◌<◌, ◌≤◌, Bool, true, false, cond, nat_eq, eqb, List, [], ◌∷◌, length, take, drop, sym, refl, ap, ◌∙◌, subst, arith, length-take-le, length-drop}
use Rattle.std.proofs.lemmas.Bool.{and_parts, both_ways}
use Rattle.std.proofs.lemmas.List.{take-take, drop-take}
use Rattle.outer_syntax.specs.Brackets.{opening, closing, begins, piece, Reads, opened, closed, after, Closes, ClosesText}
use Rattle.outer_syntax.specs.declared.bracket.Bracket.{Bracket}
use Rattle.outer_syntax.specs.declared.bracket.Bracket.TheVariants.{Comment, String, Cartouche}
use Rattle.outer_syntax.specs.declared.bracket.Mark.{Mark}
use Rattle.outer_syntax.specs.declared.bracket.Mark.TheVariants.{Open, Close, Other}
use lib.Pointwise.{pointwise}

pub closing-some : (b : Bracket) → 0 < length (closing b)
closing-some Comment = omega arith
closing-some String = omega arith
closing-some Cartouche = omega arith

begins-take : (front : List ℕ) (n : ℕ) (s : List ℕ) → length front ≤ n → begins front (take n s) ≡ begins front s
begins-take front n s within = ap (λ r. pointwise nat_eq front r) (take-take (length front) n s within)

begins-long : (front s : List ℕ) → begins front s ≡ true → length front ≤ length s
begins-long [] s fits = omega arith
begins-long (c ∷ front) [] fits = absurd (both_ways false refl fits)
begins-long (c ∷ front) (x ∷ s) fits = omega (arith, begins-long front s (and_parts (eqb c x) (begins front s) fits).1)

-- a front that has room for a closing has the text's first piece
piece-take : (b : Bracket) (n : ℕ) (s : List ℕ) → length (closing b) ≤ n → piece b (take n s) ≡ piece b s
piece-take Comment n s within =
    let o : begins (opening Comment) (take n s) ≡ begins (opening Comment) s = begins-take (opening Comment) n s within in
    let c : begins (closing Comment) (take n s) ≡ begins (closing Comment) s = begins-take (closing Comment) n s within in
    λ i. cond (o i) (Open, 2) (cond (c i) (Close, 2) (Other, 1))
piece-take String n s within =
    let o : begins (92 ∷ []) (take n s) ≡ begins (92 ∷ []) s = begins-take (92 ∷ []) n s within in
    let c : begins (closing String) (take n s) ≡ begins (closing String) s = begins-take (closing String) n s within in
    λ i. cond (o i) (Other, 2) (cond (c i) (Close, 1) (Other, 1))
piece-take Cartouche n s within =
    let o : begins (opening Cartouche) (take n s) ≡ begins (opening Cartouche) s = begins-take (opening Cartouche) n s (omega arith) in
    let c : begins (closing Cartouche) (take n s) ≡ begins (closing Cartouche) s = begins-take (closing Cartouche) n s within in
    λ i. cond (o i) (Open, 7) (cond (c i) (Close, 8) (Other, 1))

pub close-case : (o c : Bool) (first : Mark × ℕ) (n : ℕ) → (first.0 ≡ Close → ⊥) → (cond o first (cond c (Close, n) (Other, 1))).0 ≡ Close → ((cond o first (cond c (Close, n) (Other, 1))).1 ≡ n) × (c ≡ true)
close-case true c first n other close = absurd (other close)
close-case false true first n other close = (refl, refl)
close-case false false first n other close = cc

-- a closing piece is the bracket's closing, whole
pub close-fits : (b : Bracket) (s : List ℕ) → (piece b s).0 ≡ Close → ((piece b s).1 ≡ length (closing b)) × (length (closing b) ≤ length s)
close-fits Comment s close =
    let h = close-case (begins (opening Comment) s) (begins (closing Comment) s) (Open, 2) 2 (λ e. cc) close in
    (h.0, begins-long (closing Comment) s h.1)
close-fits String s close =
    let h = close-case (begins (92 ∷ []) s) (begins (closing String) s) (Other, 2) 1 (λ e. cc) close in
    (h.0, begins-long (closing String) s h.1)
close-fits Cartouche s close =
    let h = close-case (begins (opening Cartouche) s) (begins (closing Cartouche) s) (Open, 7) 8 (λ e. cc) close in
    (h.0, begins-long (closing Cartouche) s h.1)

pub closes-rest : (depth : ℕ) (m : Mark) (ms : List Mark) → Closes depth (m ∷ ms) → Closes (after m depth) ms
closes-rest depth Open ms c = record { all = omega (arith, c.all); last = λ k below. omega (arith, c.last (suc k) (omega arith)) }
closes-rest depth Close ms c = record { all = omega (arith, c.all, c.last 0 (omega arith)); last = λ k below. omega (arith, c.last (suc k) (omega arith), c.last 0 (omega arith)) }
closes-rest depth Other ms c = record { all = omega (arith, c.all); last = λ k below. omega (arith, c.last (suc k) (omega arith)) }

closes-first : (depth : ℕ) (m : Mark) (ms : List Mark) → 0 < depth → Closes (after m depth) ms → Closes depth (m ∷ ms)
closes-first depth m ms positive c = record { all = whole m c.all; last = go m c.last } where
  whole : (m : Mark) → after m depth + opened ms ≡ closed ms → depth + opened (m ∷ ms) ≡ closed (m ∷ ms)
  whole Open e = omega (arith, e)
  whole Close e = omega (arith, e)
  whole Other e = omega (arith, e)

  go : (m : Mark) → ((k : ℕ) → k < length ms → closed (take k ms) < after m depth + opened (take k ms)) → (k : ℕ) → k < suc (length ms) → closed (take k (m ∷ ms)) < depth + opened (take k (m ∷ ms))
  go m last zero below = omega arith
  go Open last (suc k) below = omega (arith, last k (omega arith))
  go Close last (suc k) below = omega (arith, last k (omega arith))
  go Other last (suc k) below = omega (arith, last k (omega arith))

-- what closes a bracket has room for a closing
pub room : (b : Bracket) (s : List ℕ) (ms : List Mark) (depth : ℕ) → 0 < depth → Reads b s ms → Closes depth ms → length (closing b) ≤ length s
room b s [] depth positive reads c = absurd (omega (arith, c.all))
room b s (Close ∷ ms) depth positive reads c = (close-fits b s reads.1).1
room b s (Open ∷ ms) depth positive reads c =
    omega (arith, length-drop (piece b s).1 s, room b (drop (piece b s).1 s) ms (depth + 1) (omega arith) reads.2 (closes-rest depth Open ms c))
room b s (Other ∷ ms) depth positive reads c =
    omega (arith, length-drop (piece b s).1 s, room b (drop (piece b s).1 s) ms depth positive reads.2 (closes-rest depth Other ms c))

-- after a first piece that isn't beyond the front, the rest closes what is open then
pub down : (b : Bracket) (depth : ℕ) (s : List ℕ) (n : ℕ) → 0 < depth → n ≤ length s → ClosesText b depth (take n s) → ((piece b s).1 ≤ n) × ClosesText b (after (piece b s).0 depth) (take (n - (piece b s).1) (drop (piece b s).1 s))
down b depth s n positive within ([], reads, c) = absurd (omega (arith, c.all))
down b depth s n positive within (m ∷ ms, reads, c) =
    let size : ℕ = (piece b s).1 in
    let length_is : length (take n s) ≡ n = length-take-le n s within in
    let enough : length (closing b) ≤ n = omega (arith, room b (take n s) (m ∷ ms) depth positive reads c) in
    let same : piece b (take n s) ≡ piece b s = piece-take b n s enough in
    let mark : (piece b s).0 ≡ m = sym (ap (λ p. p.0) same) ∙ reads.1 in
    let rest : Reads b (drop size (take n s)) ms = subst (λ (p : Mark × ℕ). Reads b (drop p.1 (take n s)) ms) same reads.2 in
    let fits : size ≤ n = go m mark rest (closes-rest depth m ms c) enough in
    let whole : n ≡ size + (n - size) = omega arith in
    let cut : drop size (take n s) ≡ take (n - size) (drop size s) = ap (λ x. drop size (take x s)) whole ∙ drop-take size (n - size) s in
    (fits, (ms, subst (λ r. Reads b r ms) cut rest, subst (λ x. Closes (after x depth) ms) (sym mark) (closes-rest depth m ms c)))
  where
    go : (m : Mark) → (piece b s).0 ≡ m → Reads b (drop (piece b s).1 (take n s)) ms → Closes (after m depth) ms → length (closing b) ≤ n → (piece b s).1 ≤ n
    go Close mark rest c enough = omega (arith, (close-fits b s mark).0)
    go Open mark rest c enough = omega (arith, length-take-le n s within, length-drop (piece b s).1 (take n s), closing-some b, room b _ ms (depth + 1) (omega arith) rest c)
    go Other mark rest c enough = omega (arith, length-take-le n s within, length-drop (piece b s).1 (take n s), closing-some b, room b _ ms depth positive rest c)

-- and the other way round
pub up : (b : Bracket) (depth : ℕ) (s : List ℕ) (n : ℕ) → 0 < depth → n ≤ length s → (piece b s).1 ≤ n → ClosesText b (after (piece b s).0 depth) (take (n - (piece b s).1) (drop (piece b s).1 s)) → ClosesText b depth (take n s)
up b depth s n positive within fits (ms, reads, c) =
    let size : ℕ = (piece b s).1 in
    let whole : n ≡ size + (n - size) = omega arith in
    let cut : drop size (take n s) ≡ take (n - size) (drop size s) = ap (λ x. drop size (take x s)) whole ∙ drop-take size (n - size) s in
    let enough : length (closing b) ≤ n = go (piece b s).0 refl c in
    let same : piece b (take n s) ≡ piece b s = piece-take b n s enough in (
      (piece b s).0 ∷ ms,
      (
        omega (arith, length-take-le n s within, closing-some b),
        ap (λ p. p.0) same,
        subst (λ (p : Mark × ℕ). Reads b (drop p.1 (take n s)) ms) (sym same) (subst (λ r. Reads b r ms) (sym cut) reads),
      ),
      closes-first depth (piece b s).0 ms positive c,
    )
  where
    short : length (take (n - (piece b s).1) (drop (piece b s).1 s)) ≤ n
    short = omega (arith, length-take-le (n - (piece b s).1) (drop (piece b s).1 s) (omega (arith, length-drop (piece b s).1 s)))

    go : (m : Mark) → (piece b s).0 ≡ m → Closes (after m depth) ms → length (closing b) ≤ n
    go Close mark c = omega (arith, (close-fits b s mark).0)
    go Open mark c = omega (arith, short, room b _ ms (depth + 1) (omega arith) reads c)
    go Other mark c = omega (arith, short, room b _ ms depth positive reads c)

some-case : (o c : Bool) (first : Mark × ℕ) (n : ℕ) → 0 < first.1 → 0 < n → 0 < (cond o first (cond c (Close, n) (Other, 1))).1
some-case true c first n some more = some
some-case false true first n some more = more
some-case false false first n some more = omega arith

-- a piece has a scalar
pub piece-some : (b : Bracket) (s : List ℕ) → 0 < (piece b s).1
piece-some Comment s = some-case (begins (opening Comment) s) (begins (closing Comment) s) (Open, 2) 2 (omega arith) (omega arith)
piece-some String s = some-case (begins (92 ∷ []) s) (begins (closing String) s) (Other, 2) 1 (omega arith) (omega arith)
piece-some Cartouche s = some-case (begins (opening Cartouche) s) (begins (closing Cartouche) s) (Open, 7) 8 (omega arith) (omega arith)
