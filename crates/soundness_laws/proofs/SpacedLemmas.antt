-- A row that fits a text fits it too where a space stands behind what it takes.
use Rattle.std.proofs.Common.{◌≡◌, inl, inr, ℕ, suc, ◌<◌, ◌≤◌, Bool, true, false, eqb, List, [], ◌∷◌, ◌++◌, length, get_or, take, drop, sym, refl, ap, ◌∙◌, subst, arith, length-append, length-drop}
use Rattle.std.specs.Prelude.{All, if◌then◌else◌}
use Rattle.std.proofs.lemmas.Bool.{and_parts, both_ways, eqb-true}
use Rattle.std.proofs.lemmas.List.{take-append-le, drop-append-le, drop_at, get_or_at, append-nil}
use Rattle.std.proofs.lemmas.List.Elements.{All-append}
use Rattle.std.proofs.Math.Seq.{take-append_seam}
use Rattle.text_words.specs.Identifier.{IsIdentifier}
use Rattle.outer_syntax.specs.Names.{IsMarkedName, IsNamedSymbol}
use Rattle.outer_syntax.specs.Brackets.{opening, closing, begins, piece, Reads, closed, after, Closes, IsEnclosed}
use Rattle.outer_syntax.specs.Forms.{dotted, IsLongIdent}
use Rattle.outer_syntax.specs.declared.bracket.Bracket.{Bracket}
use Rattle.outer_syntax.specs.declared.bracket.Bracket.TheVariants.{Comment, String, Cartouche}
use Rattle.outer_syntax.specs.declared.bracket.Mark.{Mark}
use Rattle.outer_syntax.specs.declared.bracket.Mark.TheVariants.{Open, Close, Other}
use Rattle.outer_syntax.proofs.KnownWords.{is_word, identifier-word, dotted-word}

-- the last scalar
last_of : List ℕ → ℕ
last_of [] = 0
last_of (c ∷ []) = c
last_of (c ∷ d ∷ s) = last_of (d ∷ s)

last_over : (u : List ℕ) (c : ℕ) (v : List ℕ) → last_of (u ++ c ∷ v) ≡ last_of (c ∷ v)
unfolding last_of
last_over [] c v = refl
last_over (a ∷ []) c v = refl
last_over (a ∷ b ∷ u) c v = last_over (b ∷ u) c v

last_push : (u : List ℕ) (c : ℕ) → last_of (u ++ c ∷ []) ≡ c
unfolding last_of
last_push u c = last_over u c []

-- a text of which all has been read by its beginning
begun_whole : (front s : List ℕ) → begins front s ≡ true → drop (length front) s ≡ [] → s ≡ front
begun_whole [] s fits none = none
begun_whole (c ∷ front) [] fits none = absurd (both_ways false refl fits)
begun_whole (c ∷ front) (d ∷ s) fits none =
    let parts = and_parts (eqb c d) (begins front s) fits in
    let head : d ≡ c = sym (eqb-true c d parts.0) in
    let tail : s ≡ front = begun_whole front s parts.1 none in
    λ i. head i ∷ tail i

-- a piece by two tests
abbrev chosen : Bool → Bool → Mark × ℕ → Mark × ℕ → Mark × ℕ
chosen p q a b = if p then a else (if q then b else (Other, 1))

-- a piece that closes, where nothing follows it, is the closing
chosen_whole : (front s : List ℕ) (a : Mark × ℕ) (p q : Bool) → (a.0 ≡ Close → ⊥) → begins front s ≡ q
    → (chosen p q a (Close, length front)).0 ≡ Close → drop (chosen p q a (Close, length front)).1 s ≡ [] → s ≡ front
chosen_whole front s a true q other is e none = absurd (other e)
chosen_whole front s a false true other is e none = begun_whole front s is none
chosen_whole front s a false false other is e none = cc

closes_whole : (b : Bracket) (s : List ℕ) → (piece b s).0 ≡ Close → drop (piece b s).1 s ≡ [] → s ≡ closing b
closes_whole Comment s = chosen_whole (closing Comment) s (Open, 2) (begins (opening Comment) s) (begins (closing Comment) s) (λ e. cc) refl
closes_whole String s = chosen_whole (closing String) s (Other, 2) (begins (92 ∷ []) s) (begins (closing String) s) (λ e. cc) refl
closes_whole Cartouche s = chosen_whole (closing Cartouche) s (Open, 7) (begins (opening Cartouche) s) (begins (closing Cartouche) s) (λ e. cc) refl

closing_last : (b : Bracket) → last_of (closing b) ≡ 32 → ⊥
unfolding last_of
closing_last Comment e = omega (arith, e)
closing_last String e = omega (arith, e)
closing_last Cartouche e = omega (arith, e)

opening_last : (b : Bracket) → last_of (opening b) ≡ 32 → ⊥
unfolding last_of
opening_last Comment e = omega (arith, e)
opening_last String e = omega (arith, e)
opening_last Cartouche e = omega (arith, e)

closes_rest : (depth : ℕ) (m k : Mark) (ms : List Mark) → 0 < depth → Closes depth (m ∷ k ∷ ms) → Closes (after m depth) (k ∷ ms) × (0 < after m depth)
closes_rest depth Open k ms some c = (record { all = omega (arith, c.all); last = λ j below. omega (arith, c.last (suc j) (omega (arith, below))) }, omega arith)
closes_rest depth Close k ms some c =
    (record { all = omega (arith, c.all, c.last 1 (omega arith)); last = λ j below. omega (arith, c.last (suc j) (omega (arith, below))) }, omega (arith, c.last 1 (omega arith)))
closes_rest depth Other k ms some c = (record { all = omega (arith, c.all); last = λ j below. omega (arith, c.last (suc j) (omega (arith, below))) }, some)

-- what ends with a space closes nothing at its end
unclosed : (b : Bracket) (u : List ℕ) (ms : List Mark) (depth : ℕ) → 0 < depth → Reads b (u ++ 32 ∷ []) ms → Closes depth ms → ⊥
unclosed b u [] depth some reads c = omega (arith, ap length reads, length-append u (32 ∷ []))
unclosed b u (Open ∷ []) depth some reads c = omega (arith, c.all)
unclosed b u (Other ∷ []) depth some reads c = omega (arith, c.all, some)
unclosed b u (Close ∷ []) depth some reads c =
    closing_last b (ap last_of (sym (closes_whole b (u ++ 32 ∷ []) reads.1 reads.2)) ∙ last_push u 32)
unclosed b u (m ∷ k ∷ ms) depth some reads c =
    let size : ℕ = (piece b (u ++ 32 ∷ [])).1 in
    let low : size ≤ length u = omega (arith, reads.2.0, length-drop size (u ++ 32 ∷ []), length-append u (32 ∷ [])) in
    let rest = closes_rest depth m k ms some c in
    unclosed b (drop size u) (k ∷ ms) (after m depth) rest.1
    (subst (λ s. Reads b s (k ∷ ms)) (drop-append-le size u (32 ∷ []) low) reads.2) rest.0

pub unenclosed : (b : Bracket) (u : List ℕ) → IsEnclosed b (u ++ 32 ∷ []) → ⊥
unenclosed b u ([], e, closes) = opening_last b (ap last_of (sym (append-nil (opening b)) ∙ sym e) ∙ last_push u 32)
unenclosed b u (d ∷ inside, e, (ms, reads, closes)) =
    let a : ℕ = length (opening b) in
    let low : a ≤ length u = omega (arith, ap length e, length-append u (32 ∷ []), length-append (opening b) (d ∷ inside)) in
    let rest : d ∷ inside ≡ drop a u ++ 32 ∷ [] = sym (drop_at (opening b) (d ∷ inside) a refl) ∙ ap (drop a) (sym e) ∙ drop-append-le a u (32 ∷ []) low in
    unclosed b (drop a u) ms 1 (omega arith) (subst (λ s. Reads b s ms) rest reads) closes

-- what opens such a text stands before the space
pub opened_before : (b : Bracket) (u inside : List ℕ) → u ++ 32 ∷ [] ≡ opening b ++ inside → (length (opening b) ≤ length u) × (take (length (opening b)) u ≡ opening b)
opened_before b u [] e = absurd (opening_last b (ap last_of (sym (append-nil (opening b)) ∙ sym e) ∙ last_push u 32))
opened_before b u (d ∷ inside) e =
    let a : ℕ = length (opening b) in
    let low : a ≤ length u = omega (arith, ap length e, length-append u (32 ∷ []), length-append (opening b) (d ∷ inside)) in
    (low, sym (take-append-le a u (32 ∷ []) low) ∙ ap (take a) e ∙ take-append_seam (opening b) (d ∷ inside))

marked_last : (s : List ℕ) → IsMarkedName s → last_of s ≡ 62
unfolding last_of
marked_last s (inl (name, id, e)) = ap last_of e ∙ last_push name 62
marked_last s (inr (closed, (name, id, e), f)) = ap last_of (f ∙ ap (λ r. 94 ∷ r) e) ∙ last_push (94 ∷ name) 62

pub unnamed : (u : List ℕ) → IsNamedSymbol (u ++ 32 ∷ []) → ⊥
unfolding last_of
unnamed u ([], is, e) = omega (arith, sym (marked_last [] is))
unnamed u (m ∷ marked, is, e) =
    omega (arith, sym (last_push u 32) ∙ ap last_of e ∙ last_over (92 ∷ 60 ∷ []) m marked ∙ marked_last (m ∷ marked) is)

-- a space is neither
unworded : (u : List ℕ) → All (λ c. is_word c ≡ true) (u ++ 32 ∷ []) → ⊥
unworded u each =
    let there : get_or (u ++ 32 ∷ []) (length u) 0 ≡ 32 = get_or_at u 32 [] 0 (length u) refl in
    both_ways (is_word 32) refl (ap is_word (sym there) ∙ each (length u) 0 (omega (arith, length-append u (32 ∷ []))))

pub unnamed_word : (u : List ℕ) → IsIdentifier (u ++ 32 ∷ []) → ⊥
unnamed_word u id = unworded u (identifier-word (u ++ 32 ∷ []) id)

pub unlong : (u : List ℕ) → IsLongIdent (u ++ 32 ∷ []) → ⊥
unlong u (name, names, id, some, each, e) =
    unworded u (subst (All (λ c. is_word c ≡ true)) (sym e) (All-append (λ c. is_word c ≡ true) name (dotted names) (identifier-word name id) (dotted-word names each)))
