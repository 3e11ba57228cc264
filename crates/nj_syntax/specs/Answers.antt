-- What a text is, or where it is at fault: the first token that is too deep or with which nothing
-- goes on (this project's own).
use Rattle.std.specs.Prelude.{◌≡◌, ◌≤◌, ◌<◌, ℕ, Bool, true, false, List, [], ◌∷◌, ◌++◌, map, All, Result, Ok, Err, ⊤}
use Rattle.nj_formula.specs.declared.argument.Argument.{Argument}
use Rattle.nj_formula.specs.declared.formula.Formula.{Formula}
use Rattle.nj_syntax.specs.declared.token.Placed.{Placed}
use Rattle.nj_syntax.specs.Tokens.{AreTokens}
use Rattle.nj_syntax.specs.declared.fault.FaultKind.{FaultKind}
use Rattle.nj_syntax.specs.declared.fault.FormulaFault.{FormulaFault}
use Rattle.nj_syntax.specs.Deepest.{deepest}
use Rattle.nj_syntax.specs.Terms.{Deep, AreArguments}
use Rattle.nj_syntax.specs.Grammar.{Reads}

-- a formula by itself
abbrev pub IsFormula : List Deep → Formula → Type 0
IsFormula deep a = Reads 10 0 [] deep a

-- a term by itself
abbrev pub IsTerm : List Deep → Argument → Type 0
IsTerm deep t = AreArguments [] 0 deep (t ∷ [])

-- the tokens with these depths
abbrev pub AreAt : List Placed → List Deep → Type 0
AreAt tokens deep = map (λ t. t.token) tokens ≡ map (λ t. t.0) deep

-- no token is too deep
abbrev pub IsShallow : List Deep → Type 0
IsShallow deep = All (λ t. t.1 ≤ deepest) deep

-- of either of the two, formulas and terms
module _ {A : Type 0} (Is : List Deep → A → Type 0) where
  -- with these tokens something begins
  abbrev pub Begins : List Deep → Type 0
  Begins front = (more : List Deep) × (a : A) × Is (front ++ more) a

  -- something goes on with the tokens, and none of them is too deep
  pub record GoesOn (tokens : List Placed) : Type 0 where
    pub deep : List Deep
    pub tokens_are : AreAt tokens deep
    pub begins : Begins deep
    pub shallow : IsShallow deep

  -- the text is a, and no token of it is too deep
  pub record SaysWhole (text : List ℕ) (a : A) : Type 0 where
    pub tokens : List Placed
    pub stop : ℕ
    pub cut : AreTokens 0 text tokens stop true
    pub deep : List Deep
    pub tokens_are : AreAt tokens deep
    pub is : Is deep a
    pub shallow : IsShallow deep

  -- something goes on with the first tokens of the text, and the last of these is too deep
  pub record IsTooDeep (text : List ℕ) : Type 0 where
    pub front : List Placed
    pub last : Placed
    pub back : List Placed
    pub stop : ℕ
    pub whole : Bool
    pub cut : AreTokens 0 text (front ++ last ∷ back) stop whole
    pub before : GoesOn front
    pub deep : List Deep
    pub depth : ℕ
    pub tokens_are : AreAt front deep
    pub begins : Begins (deep ++ (last.token, depth) ∷ [])
    pub too_deep : deepest < depth

  -- of the tokens up to the end of the text or to a scalar that begins none: the first place at
  -- fault, and why
  pub data IsFault : List Placed → ℕ → Bool → ℕ → FaultKind → Type 0 where
    -- nothing goes on with this token
    expected : (front : List Placed) (t : Placed) (back : List Placed) {stop : ℕ} {whole : Bool}
        → GoesOn front
        → ((deep : List Deep) → AreAt (front ++ t ∷ []) deep → Begins deep → ⊥)
        → IsFault (front ++ t ∷ back) stop whole t.at FaultKind.Expected
    -- no token begins there
    symbol : {tokens : List Placed} {stop : ℕ} → GoesOn tokens
        → IsFault tokens stop false stop FaultKind.Symbol
    -- the text ends too early
    ends : {tokens : List Placed} {stop : ℕ} → GoesOn tokens
        → ((deep : List Deep) (a : A) → AreAt tokens deep → Is deep a → ⊥)
        → IsFault tokens stop true stop FaultKind.End

  -- of a text: the first place at fault, and why
  pub record HasFault (text : List ℕ) (pos : ℕ) (kind : FaultKind) : Type 0 where
    pub tokens : List Placed
    pub stop : ℕ
    pub whole : Bool
    pub cut : AreTokens 0 text tokens stop whole
    pub fault : IsFault tokens stop whole pos kind

  -- the answer to a text
  abbrev pub Answers : List ℕ → Result A FormulaFault → Type 0
  Answers text (Ok a) = SaysWhole text a
  Answers text (Err (FormulaFault.At pos kind)) = HasFault text pos kind
  Answers text (Err FormulaFault.TooDeep) = IsTooDeep text
  Answers text (Err FormulaFault.NoMemory) = ⊤
