use Rattle.std.proofs.Common.{◌≡◌, ℕ, List, ◌++◌}
use Rattle.outer_syntax.specs.Brackets.{opening}
use Rattle.outer_syntax.specs.declared.bracket.Bracket.{Bracket}
use Rattle.outer_syntax.specs.declared.bracket.Bracket.TheVariants.{Comment, String, Cartouche}
use Rattle.outer_syntax.proofs.FirstLemmas.{symbol-first, sym-first}
use Rattle.outer_syntax.proofs.row.other_row.Goals as goal
use Rattle.outer_syntax.proofs.row.other_row.Goals.{In_default-bracket_row-2}

-- the text begins with no opening
unopened : (c : In_default-bracket_row-2) (b : Bracket) (inside : List ℕ) → c.args.text.now ≡ opening b ++ inside → ⊥
unopened c Comment = c.in_default.ensures
unopened c String = c.in_default-bracket_row.ensures
unopened c Cartouche = c.in_default-bracket_row-2.ensures

pub returns-in-Some-named_symbol : goal.returns-in-Some-named_symbol
returns-in-Some-named_symbol c =
    symbol-first c.args.text.now c.requires (unopened (goal.at.returns-in-Some-named_symbol c).In_default-bracket_row-2) c.in-Some-named_symbol.n c.in-Some-named_symbol.ensures

pub returns-in-None : goal.returns-in-None
returns-in-None c =
    sym-first c.args.text.now c.requires (unopened (goal.at.returns-in-None c).In_default-bracket_row-2) c.in-None.ensures
