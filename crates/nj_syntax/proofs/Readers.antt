-- The steps read formulas, and terms.
use Rattle.std.proofs.Common.{[]}
use Rattle.nj_syntax.specs.declared.state.Mode.{Mode}
use Rattle.nj_syntax.specs.Answers.{IsFormula, IsTerm}
use Rattle.nj_syntax.specs.Steps.{formula_at, term_at}
use Rattle.nj_syntax.proofs.Reader.{IsReader}
use Rattle.nj_syntax.proofs.Complete.{formula_complete}
use Rattle.nj_syntax.proofs.CompleteTerms.{term_complete}
use Rattle.nj_syntax.proofs.Sound.{formula_begins, formula_sound, term_begins, term_sound}

pub formula_reader : IsReader IsFormula (Mode.Operand, []) formula_at
formula_reader = record { begins = formula_begins; sound = formula_sound; complete = formula_complete }

pub term_reader : IsReader IsTerm (Mode.Argument, []) term_at
term_reader = record { begins = term_begins; sound = term_sound; complete = term_complete }
