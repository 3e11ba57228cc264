-- A text that is a formula by the grammar has no other answer, unless it is too deep.
use Rattle.std.proofs.Common.{◌≡◌, ℕ, Bool, true, false, List, [], ◌∷◌, ◌++◌, length, map, take, drop, Result, Ok, Err, refl, ap, sym, subst, ◌∙◌, append_assoc}
use Rattle.std.proofs.lemmas.List.{take-append-drop, take-map}
use Rattle.std.proofs.Math.Seq.{take-append_seam}
use Rattle.nj_formula.specs.declared.formula.Formula.{Formula}
use Rattle.nj_formula.specs.Meaning.{meaning}
use Rattle.nj_syntax.specs.declared.token.Placed.{Placed}
use Rattle.nj_syntax.proofs.KnownTokens.{one_reading}
use Rattle.nj_syntax.specs.declared.fault.FaultKind.{FaultKind}
use Rattle.nj_syntax.specs.declared.fault.FormulaFault.{FormulaFault}
use Rattle.nj_syntax.specs.Terms.{Deep}
use Rattle.nj_syntax.specs.Answers.{AreAt, Begins, IsFormula, IsFault, Answers, expected, symbol, ends}
use Rattle.nj_syntax.proofs.KnownAnswers.{one_formula}
use Rattle.nj_syntax.specs.ReadBack.{IsTextOf, IsReadBack, IsParsed}

no_token : (b : Bool) → b ≡ true → b ≡ false → ⊥
no_token b holds fails = cc

-- the first of the tokens of a formula go on to it
first_begin : (front back : List Placed) (tokens : List Placed) (deep : List Deep) (b : Formula) → front ++ back ≡ tokens
    → AreAt tokens deep → IsFormula deep b → AreAt front (take (length front) deep) × Begins IsFormula (take (length front) deep)
first_begin front back tokens deep b are at is =
    let n = length front in
    let first : front ≡ take n tokens = sym (take-append_seam front back) ∙ ap (take n) are in
    let depths : AreAt front (take n deep) =
    ap (map (λ t. t.token)) first ∙ (sym (take-map (λ t. t.token) n tokens) ∙ (ap (take n) at ∙ take-map (λ t. t.0) n deep)) in
    (depths, (drop n deep, b, subst (λ d. IsFormula d b) (sym (take-append-drop n deep)) is))

no_fault : {tokens : List Placed} {stop : ℕ} {whole : Bool} {pos : ℕ} {kind : FaultKind} → IsFault IsFormula tokens stop whole pos kind
    → (deep : List Deep) (b : Formula) → whole ≡ true → AreAt tokens deep → IsFormula deep b → ⊥
no_fault (expected front t back goes none) deep b whole at is =
    let begins = first_begin (front ++ t ∷ []) back (front ++ t ∷ back) deep b (append_assoc front (t ∷ []) back) at is in
    none (take (length (front ++ t ∷ [])) deep) begins.0 begins.1
no_fault (symbol goes) deep b whole at is = no_token false whole refl
no_fault (ends goes none) deep b whole at is = none deep b at is

pub parsed : (a b : Formula) (text : List ℕ) (r : Result Formula FormulaFault) → IsTextOf IsFormula text b → meaning b ≡ meaning a
    → Answers IsFormula text r → IsParsed a r
parsed a b text (Ok g) t same h =
    let one = one_reading h.cut t.cut in
    let tokens : map (λ p. p.0) h.deep ≡ map (λ p. p.0) t.deep = sym h.tokens_are ∙ (ap (map (λ p. p.token)) one.0 ∙ t.tokens_are) in
    let is = one_formula h.deep t.deep g b tokens h.is t.is in
    ap meaning is.1 ∙ same
parsed a b text (Err (FormulaFault.At pos kind)) t same h =
    let one = one_reading h.cut t.cut in
    no_fault h.fault t.deep b one.2 (ap (map (λ p. p.token)) one.0 ∙ t.tokens_are) t.is
parsed a b text (Err FormulaFault.TooDeep) t same h = tt
parsed a b text (Err FormulaFault.NoMemory) t same h = tt

pub print_parsed : (a : Formula) (text : List ℕ) (r : Result Formula FormulaFault) → IsReadBack a text → Answers IsFormula text r → IsParsed a r
print_parsed a text r back h = parsed a back.0 text r back.1 back.2 h
