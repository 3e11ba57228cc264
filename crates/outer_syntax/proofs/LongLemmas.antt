-- How identifiers joined by dots are found one after the other.
use Rattle.std.proofs.Common.{◌≡◌, ◌⊎◌, ℕ, zero, suc, ◌+◌, ◌-◌, ◌<◌, ◌≤◌, true, List, [], ◌∷◌, ◌++◌, length, get_or, take, drop, sym, refl, ap, ◌∙◌, subst, inl, inr, ⊎_elim, arith, length-take-le, length-drop, length-append, get_or-take}
use Rattle.std.specs.Prelude.{All}
use Rattle.std.proofs.lemmas.Bool.{both_ways, cases_lt}
use Rattle.std.proofs.lemmas.List.{append-nil, drop-take, drop-drop, drop_at, get_or_at, flat_map_more}
use Rattle.std.proofs.lemmas.List.Elements.{All-nil, All-head, All-tail, All-push}
use Rattle.std.proofs.Math.Seq.{take-add}
use Rattle.text_words.specs.Longest.{IsLongest, HasNoFront}
use Rattle.text_words.specs.Identifier.{is_identifier_part, IsIdentifier}
use Rattle.text_words.proofs.KnownIdentifiers.{identifier-parts}
use Rattle.outer_syntax.proofs.KnownSplits.{front-part}
use Rattle.outer_syntax.specs.Forms.{IsDotted, dotted, IsLongIdent}

-- from the place on the front of m scalars goes on with dots and identifiers
abbrev pub GoesOn : List ℕ → ℕ → ℕ → Type 0
GoesOn text at m = (x : List ℕ) × (xs : List (List ℕ)) × (at ≤ m) × IsIdentifier x × All IsIdentifier xs × (take (m - at) (drop at text) ≡ 46 ∷ x ++ dotted xs)

pub identifier-some : (x : List ℕ) → IsIdentifier x → 0 < length x
identifier-some [] id = absurd id
identifier-some (c ∷ cs) id = omega arith

name-part : (text : List ℕ) (n : ℕ) → IsLongest IsIdentifier text n → (k : ℕ) → k < n → is_identifier_part (get_or text k 0) ≡ true
name-part text n name k below =
    ap is_identifier_part (sym (get_or-take n text k 0 below)) ∙ identifier-parts (take n text) name.fits k 0 (omega (arith, length-take-le n text name.within))

dotted-part : (text : List ℕ) (n : ℕ) → IsLongest IsDotted text n → (k : ℕ) → 0 < k → k < n → is_identifier_part (get_or text k 0) ≡ true
dotted-part text n name zero positive below = absurd (omega arith)
dotted-part text n name (suc k) positive below =
    let e : take n text ≡ 46 ∷ name.fits.0 = name.fits.2 in
    ap is_identifier_part (sym (get_or-take n text (suc k) 0 below) ∙ ap (λ s. get_or s (suc k) 0) e)
    ∙ identifier-parts name.fits.0 name.fits.1 k 0 (omega (arith, length-take-le n text name.within, ap length e))

-- a name before a dot goes as far as the run of name parts
stops : (r : List ℕ) (n m : ℕ) (x : List ℕ) (more : List (List ℕ)) → m ≤ length r → ((k : ℕ) → 0 < k → k < n → is_identifier_part (get_or r k 0) ≡ true) → 0 < length x → length x ≤ n → All IsIdentifier more → take m r ≡ x ++ dotted more → (m ≤ n) ⊎ GoesOn r n m
stops r n m x [] within parts some upto each e =
    let part = front-part r m x [] within e in inl (omega (arith, part.1))
stops r n m x (y ∷ ys) within parts some upto each e =
    let part = front-part r m x (dotted (y ∷ ys)) within e in
    let k : ℕ = length x in
    let dot : get_or r k 0 ≡ 46 = sym (get_or-take m r k 0 (omega (arith, part.1))) ∙ ap (λ s. get_or s k 0) e ∙ get_or_at x 46 (y ++ dotted ys) 0 k refl in
    ⊎_elim
    (λ (below : k < n). absurd (both_ways (is_identifier_part 46) refl (ap is_identifier_part (sym dot) ∙ parts k some below)))
    (λ (above : n ≤ k).
    let same : k ≡ n = omega arith in
    let past : n ≤ m = omega (arith, part.1) in
    let whole : m ≡ n + (m - n) = omega arith in
    let rest : take (m - n) (drop n r) ≡ dotted (y ∷ ys) = sym (drop-take n (m - n) r) ∙ ap (λ j. drop n (take j r)) (sym whole) ∙ ap (drop n) e ∙ drop_at x (dotted (y ∷ ys)) n same in
    inr (y, ys, past, All-head IsIdentifier y ys each, All-tail IsIdentifier y ys each, rest))
    (cases_lt k n)

-- the loop has come to `at`, over these names after the first
pub record IsJoined (text : List ℕ) (first at : ℕ) : Type 0 where
  pub names : List (List ℕ)
  pub each : All IsIdentifier names
  pub front : take at text ≡ take first text ++ dotted names
  pub within : at ≤ length text
  pub bound : (m : ℕ) (name : List ℕ) (more : List (List ℕ)) → m ≤ length text → IsIdentifier name → All IsIdentifier more → take m text ≡ name ++ dotted more → (m ≤ at) ⊎ GoesOn text at m

pub joined-start : (text : List ℕ) (first : ℕ) → IsLongest IsIdentifier text first → IsJoined text first first
joined-start text first name_is = record {
  names = [];
  each = All-nil IsIdentifier;
  front = sym (append-nil (take first text));
  within = name_is.within;
  bound = λ m name more within id each e.
      let part = front-part text m name (dotted more) within e in
      stops text first m name more within (λ k positive below. name-part text first name_is k below) (identifier-some name id) (name_is.longest (length name) (omega (arith, part.1)) (subst IsIdentifier (sym part.0) id)) each e;
}

module _ {text : List ℕ} {first at : ℕ} (joined : IsJoined text first at) where
  pub joined-more : (n : ℕ) → IsLongest IsDotted (drop at text) n → IsJoined text first (at + n)
  joined-more n name_is = record {
    names = joined.names ++ name_is.fits.0 ∷ [];
    each = All-push IsIdentifier joined.names name_is.fits.0 joined.each name_is.fits.1;
    front = take-add at n text ∙ (λ i. joined.front i ++ name_is.fits.2 i) ∙ flat_map_more (λ name. 46 ∷ name) (take first text) joined.names name_is.fits.0;
    within = omega (arith, name_is.within, length-drop at text, joined.within);
    bound = λ m name more within id each e. ⊎_elim (λ (upto : m ≤ at). inl (omega arith)) (λ (on : GoesOn text at m). further m within on) (joined.bound m name more within id each e);
  } where
    further : (m : ℕ) → m ≤ length text → GoesOn text at m → (m ≤ at + n) ⊎ GoesOn text (at + n) m
    further m within (x, xs, past, id, ids, e) =
        let inside : m - at ≤ length (drop at text) = omega (arith, length-drop at text) in
        let part = front-part (drop at text) (m - at) (46 ∷ x) (dotted xs) inside e in
        let upto : length (46 ∷ x) ≤ n = name_is.longest (length (46 ∷ x)) (omega (arith, part.1)) (x, id, part.0) in
        ⊎_elim
        (λ (short : m - at ≤ n). inl (omega arith))
        (λ (on : GoesOn (drop at text) n (m - at)).
        let next : m - at - n ≡ m - (at + n) = omega arith in
        inr (on.0, on.1, omega (arith, on.2), on.3, on.4, sym (λ i. take (next i) (drop-drop n at text i)) ∙ on.5))
        (stops (drop at text) n (m - at) (46 ∷ x) xs inside (dotted-part (drop at text) n name_is) (omega arith) upto ids e)

  -- no dotted name follows, so no front goes on
  no-more : HasNoFront IsDotted (drop at text) → (m : ℕ) → m ≤ length text → GoesOn text at m → ⊥
  no-more none m within (x, xs, past, id, ids, e) =
      let inside : m - at ≤ length (drop at text) = omega (arith, length-drop at text) in
      let part = front-part (drop at text) (m - at) (46 ∷ x) (dotted xs) inside e in
      none (length (46 ∷ x)) (omega (arith, part.1)) (x, id, part.0)

  pub long-some : IsLongest IsIdentifier text first → HasNoFront IsDotted (drop at text) → (at ≡ first → ⊥) → IsLongest IsLongIdent text at
  long-some name_is none further = record {
    within = joined.within;
    fits = (take first text, joined.names, name_is.fits, some joined.names joined.front, joined.each, joined.front);
    longest = λ m within long. ⊎_elim (λ (upto : m ≤ at). upto) (λ on. absurd (no-more none m within on)) (joined.bound m long.0 long.1 within long.2 long.4 long.5);
  } where
    some : (names : List (List ℕ)) → take at text ≡ take first text ++ dotted names → 0 < length names
    some [] front = absurd (further (sym (length-take-le at text joined.within) ∙ ap length front ∙ length-append (take first text) [] ∙ omega (arith, length-take-le first text name_is.within)))
    some (x ∷ xs) front = omega arith

  pub long-none : IsLongest IsIdentifier text first → HasNoFront IsDotted (drop at text) → at ≡ first → HasNoFront IsLongIdent text
  long-none name_is none same m within (name, [], id, some, each, e) = omega arith
  long-none name_is none same m within (name, x ∷ xs, id, some, each, e) =
      ⊎_elim
      (λ (upto : m ≤ at).
      let part = front-part text m name (dotted (x ∷ xs)) within e in
      let k : ℕ = length name in
      let dot : get_or text k 0 ≡ 46 = sym (get_or-take m text k 0 (omega (arith, part.1))) ∙ ap (λ s. get_or s k 0) e ∙ get_or_at name 46 (x ++ dotted xs) 0 k refl in
      both_ways (is_identifier_part 46) refl (ap is_identifier_part (sym dot) ∙ name-part text first name_is k (omega (arith, part.1))))
      (no-more none m within)
      (joined.bound m name (x ∷ xs) within id each e)

-- without an identifier at the front there is no long one
pub long-unbegun : (text : List ℕ) → HasNoFront IsIdentifier text → HasNoFront IsLongIdent text
long-unbegun text none m within (name, names, id, some, each, e) =
    let part = front-part text m name (dotted names) within e in
    none (length name) (omega (arith, part.1)) (subst IsIdentifier (sym part.0) id)

pub dotted-none : (rest : List ℕ) → HasNoFront IsIdentifier rest → HasNoFront IsDotted (46 ∷ rest)
dotted-none rest none zero within dot = cc (dot.2)
dotted-none rest none (suc m) within dot = let same : dot.0 ≡ take m rest = cc (dot.2) in none m (omega arith) (subst IsIdentifier same dot.1)
