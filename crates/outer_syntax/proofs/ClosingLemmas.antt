-- What closes a bracket ends with its closing.
use Rattle.std.proofs.Common.{◌≡◌, ℕ, ◌<◌, true, false, eqb, List, [], ◌∷◌, ◌++◌, length, take, drop, sym, refl, ap, ◌∙◌, arith, append_assoc}
use Rattle.std.proofs.lemmas.Bool.{and_parts, both_ways, eqb-true}
use Rattle.std.proofs.lemmas.List.{take-append-drop, append-nil}
use Rattle.outer_syntax.specs.Brackets.{opening, closing, begins, piece, Reads, after, Closes}
use Rattle.outer_syntax.specs.declared.bracket.Bracket.{Bracket}
use Rattle.outer_syntax.specs.declared.bracket.Bracket.TheVariants.{Comment, String, Cartouche}
use Rattle.outer_syntax.specs.declared.bracket.Mark.{Mark}
use Rattle.outer_syntax.specs.declared.bracket.Mark.TheVariants.{Open, Close, Other}
use Rattle.outer_syntax.proofs.BracketLemmas.{close-case, close-fits, closes-rest}

pub equal-front : (front s : List ℕ) → begins front s ≡ true → take (length front) s ≡ front
equal-front [] s fits = refl
equal-front (c ∷ front) [] fits = absurd (both_ways false refl fits)
equal-front (c ∷ front) (x ∷ s) fits =
    let parts = and_parts (eqb c x) (begins front s) fits in
    let head : x ≡ c = sym (eqb-true c x parts.0) in
    let tail : take (length front) s ≡ front = equal-front front s parts.1 in
    λ i. head i ∷ tail i

-- the scalars of a closing piece
close-front : (b : Bracket) (s : List ℕ) → (piece b s).0 ≡ Close → take (length (closing b)) s ≡ closing b
close-front Comment s close = equal-front (closing Comment) s (close-case (begins (opening Comment) s) (begins (closing Comment) s) (Open, 2) 2 (λ e. cc) close).1
close-front String s close = equal-front (closing String) s (close-case (begins (92 ∷ []) s) (begins (closing String) s) (Other, 2) 1 (λ e. cc) close).1
close-front Cartouche s close = equal-front (closing Cartouche) s (close-case (begins (opening Cartouche) s) (begins (closing Cartouche) s) (Open, 7) 8 (λ e. cc) close).1

-- what closes a bracket ends with its closing
pub closes-end : (b : Bracket) (s : List ℕ) (ms : List Mark) (depth : ℕ) → 0 < depth → Reads b s ms → Closes depth ms → (front : List ℕ) × (s ≡ front ++ closing b)
closes-end b s [] depth positive reads c = absurd (omega (arith, c.all))
closes-end b s (Open ∷ []) depth positive reads c = absurd (omega (arith, c.all))
closes-end b s (Other ∷ []) depth positive reads c = absurd (omega (arith, c.all))
closes-end b s (Close ∷ []) depth positive reads c =
    let fits = close-fits b s reads.1 in
    let rest : drop (length (closing b)) s ≡ [] = ap (λ n. drop n s) (sym fits.0) ∙ reads.2 in
    ([], sym (take-append-drop (length (closing b)) s) ∙ (λ i. close-front b s reads.1 i ++ rest i) ∙ append-nil (closing b))
closes-end b s (m ∷ k ∷ ms) depth positive reads c =
    let further = closes-rest depth m (k ∷ ms) c in
    let size : ℕ = (piece b s).1 in
    let end = closes-end b (drop size s) (k ∷ ms) (after m depth) (omega (arith, further.last 0 (omega arith))) reads.2 further in
    (take size s ++ end.0, sym (take-append-drop size s) ∙ ap (λ r. take size s ++ r) end.1 ∙ sym (append_assoc (take size s) end.0 (closing b)))
