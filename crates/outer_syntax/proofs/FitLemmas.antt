-- The functions give the first row of a text, and the list of its tokens.
use Rattle.std.proofs.Common.{◌≡◌, ℕ, zero, suc, ◌+◌, ◌-◌, ◌<◌, ◌≤◌, ◌==◌, Bool, true, false, Option, None, Some, List, [], ◌∷◌, length, take, drop, sym, refl, ap, ◌∙◌, subst, arith, length-drop}
use Rattle.std.specs.Prelude.{IsTrue}
use Rattle.std.proofs.lemmas.Bool.{both_ways, eqb-true}
use Rattle.std.proofs.lemmas.List.{drop-drop}
use Rattle.std.proofs.lemmas.List.Sums.{AllPass-from_list_all, list_all-from_AllPass}
use Rattle.text_words.specs.Blanks.{is_blank}
use Rattle.text_words.specs.Longest.{FindsLongest, longest_front}
use Rattle.text_words.proofs.KnownFronts.{found-front}
use Rattle.text_words.proofs.KnownIdentifiers.{identifier-tested, tested-identifier}
use Rattle.outer_syntax.proofs.KnownFinds.{finds-as}
use Rattle.outer_syntax.proofs.KnownTests.{named-tested, tested-named}
use Rattle.outer_syntax.specs.Rows.{HasForm, rank, IsFirstRow}
use Rattle.outer_syntax.specs.Words.{kind_of}
use Rattle.outer_syntax.specs.Tokens.{IsToken, AreTokensBetween, AreTokensUnder}
use Rattle.outer_syntax.specs.Lexing.{has_form, first_found, first_fit, token_here, tokens_from, tokens_under}
use Rattle.outer_syntax.specs.declared.bracket.Bracket.TheVariants.{Comment, String, Cartouche}
use Rattle.outer_syntax.specs.declared.row.Row.{Row}
use Rattle.outer_syntax.specs.declared.row.Row.TheVariants.{Space, Enclosed, Error, Symbol, LongIdent, Word, Sym}
use Rattle.outer_syntax.proofs.RowLemmas.{NoneBefore, none-yet, none-more, single}
use Rattle.outer_syntax.proofs.TokenLemmas.{row-some, token-of}
use Rattle.outer_syntax.proofs.ClosingTests.{enclosed-tested, tested-enclosed, opened-tested, tested-opened}
use Rattle.outer_syntax.proofs.LongTests.{long-tested, tested-long}

form-tested : (r : Row) (s : List ℕ) → has_form r s ≡ true → HasForm r s
form-tested Space [] e = absurd (both_ways false refl e)
form-tested Space (c ∷ s) e = (omega arith, AllPass-from_list_all is_blank (c ∷ s) e)
form-tested (Enclosed b) s e = enclosed-tested b s e
form-tested Error s e = opened-tested s e
form-tested Symbol s e = named-tested s e
form-tested LongIdent s e = long-tested s e
form-tested Word s e = identifier-tested s e
form-tested Sym s e = eqb-true (length s) 1 e

tested-form : (r : Row) (s : List ℕ) → HasForm r s → has_form r s ≡ true
tested-form Space [] form = absurd (omega (arith, form.0))
tested-form Space (c ∷ s) form = list_all-from_AllPass is_blank (c ∷ s) form.1
tested-form (Enclosed b) s form = tested-enclosed b s form
tested-form Error s form = tested-opened s form
tested-form Symbol s form = tested-named s form
tested-form LongIdent s form = tested-long s form
tested-form Word s form = tested-identifier s form
tested-form Sym s form = ap (λ n. n == 1) form

found : (r : Row) (text : List ℕ) → FindsLongest (HasForm r) text (longest_front (has_form r) text)
found r text = finds-as (λ s. IsTrue (has_form r s)) (HasForm r) text _ (form-tested r) (tested-form r) (found-front (has_form r) text)

pick : (text : List ℕ) (r : Row) (o : Option ℕ) (later : Row × ℕ) → FindsLongest (HasForm r) text o → NoneBefore text (rank r) → (NoneBefore text (rank r + 1) → IsFirstRow text later.0 later.1) → IsFirstRow text (first_found r o later).0 (first_found r o later).1
pick text r None later none before on = on (none-more text r before none)
pick text r (Some n) later is before on = record { longest = is; first = before.before }

pub first-fits : (text : List ℕ) → 0 < length text → IsFirstRow text (first_fit text).0 (first_fit text).1
first-fits text some =
    pick text Space _ _ (found Space text) (none-yet text)
    (λ b. pick text (Enclosed Comment) _ _ (found (Enclosed Comment) text) b
    (λ b. pick text (Enclosed String) _ _ (found (Enclosed String) text) b
    (λ b. pick text (Enclosed Cartouche) _ _ (found (Enclosed Cartouche) text) b
    (λ b. pick text Error _ _ (found Error text) b
    (λ b. pick text Symbol _ _ (found Symbol text) b
    (λ b. pick text LongIdent _ _ (found LongIdent text) b
    (λ b. pick text Word _ _ (found Word text) b
    (λ b. record { longest = single text some; first = b.before }))))))))

here-token : (is_command : List ℕ → Bool) (text rest : List ℕ) (place : ℕ) (fit : Row × ℕ) → rest ≡ drop place text → IsFirstRow rest fit.0 fit.1 → IsToken is_command text (token_here is_command place rest fit)
here-token is_command text rest place fit e first =
    let size : place + fit.1 - place ≡ fit.1 = omega arith in
    token-of is_command text fit.0 (token_here is_command place rest fit) fit.1 refl (subst (λ r. IsFirstRow r fit.0 fit.1) e first)
    (λ i. kind_of is_command fit.0 (take (sym size i) (e i)))

pub are-from : (names : ℕ → List ℕ → Bool) (text : List ℕ) (k place at : ℕ) (rest : List ℕ) → rest ≡ drop place text → at ≡ place + k → place ≤ length text → at ≤ length text → AreTokensBetween names text at (length text) (tokens_from names k place rest)
are-from names text k place at [] e here before within = omega (arith, ap length e, length-drop place text)
are-from names text (suc k) place at (c ∷ cs) e here before within =
    let next : cs ≡ drop (place + 1) text = ap (drop 1) e ∙ drop-drop 1 place text in
    are-from names text k (place + 1) at cs next (omega arith) (omega (arith, ap length e, length-drop place text)) within
are-from names text zero place at (c ∷ cs) e here before within =
    let n : ℕ = (first_fit (c ∷ cs)).1 in
    let same : place ≡ at = omega arith in
    let first : IsFirstRow (c ∷ cs) (first_fit (c ∷ cs)).0 n = first-fits (c ∷ cs) (omega arith) in
    let some : 0 < n = row-some (first_fit (c ∷ cs)).0 (c ∷ cs) n first in
    let fits : n ≤ length (c ∷ cs) = first.longest.within in
    let next : cs ≡ drop (place + 1) text = ap (drop 1) e ∙ drop-drop 1 place text in
    let inside : place + n ≤ length text = omega (arith, fits, ap length e, length-drop place text) in (
      same,
      subst (λ p. IsToken (names p) text (token_here (names place) place (c ∷ cs) (first_fit (c ∷ cs)))) same (here-token (names place) text (c ∷ cs) place (first_fit (c ∷ cs)) e first),
      are-from names text (n - 1) (place + 1) (place + n) cs next (omega arith) (omega (arith, ap length e, length-drop place text)) inside,
    )

pub are-under : (names : ℕ → List ℕ → Bool) (text : List ℕ) → AreTokensUnder names text (tokens_under names text)
are-under names text = are-from names text 0 0 0 text refl refl (omega arith) (omega arith)
