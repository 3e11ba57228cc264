-- Which commands fork, computed (this project's own).
use Rattle.std.specs.Prelude.{◌≡◌, true, false, [], ◌∷◌, codes, Some, None}
use Rattle.doc_nodes.specs.Needs.{AliasList}
use Rattle.report_markup.specs.declared.kind.ReportKind.{ReportKind}
use Rattle.report_markup.specs.declared.kind.ReportKind.TheVariants.{Command, Error}
use Rattle.report_markup.specs.declared.report.Report.{Report}
use Rattle.mirror_rules.specs.Forking.{may_fork, forks_by}

-- `done` stands for `by`, `end_proof` for `qed`
abbrev pub renamed : AliasList
renamed = (codes "done", codes "by") ∷ (codes "end_proof", codes "qed") ∷ []

-- a report of two scalars
abbrev pub said : ReportKind → Report
said kind =
    record { range = record { start = 0; stop = 2 }; kind = kind; properties = []; text = [] }

-- sources that may fork, and others
pub record MayFork : Type 0 where
  pub proof : may_fork [] (codes "by h") ≡ true
  pub misshapen : may_fork [] (codes "by") ≡ true
  pub comment : may_fork [] (codes "(* qed *) by h") ≡ true
  pub alias : may_fork renamed (codes "done h") ≡ true
  pub itself : may_fork renamed (codes "by h") ≡ true
  pub not_in_force : may_fork [] (codes "done h") ≡ false
  pub other_alias : may_fork renamed (codes "end_proof") ≡ false
  pub other : may_fork [] (codes "qed") ≡ false
  pub quoted : may_fork [] (codes "\"by\"") ≡ false
  pub behind : may_fork [] (codes "x by h") ≡ false
  pub empty : may_fork [] [] ≡ false

-- those whose evaluation is told without an error fork
pub record ForksBy : Type 0 where
  pub accepted : forks_by true (Some (said Command ∷ [])) ≡ true
  pub refused : forks_by true (Some (said Command ∷ said Error ∷ [])) ≡ false
  pub not_yet : forks_by true None ≡ false
  pub other : forks_by false (Some (said Command ∷ [])) ≡ false
