-- Whether a command forks, as its words and its reports tell: the proof behind `by` is checked
-- apart (after the forked proofs of Wenzel, ITP 2014; this project's own).
use Rattle.std.specs.Prelude.{ℕ, ◌&&◌, Bool, true, false, not, List, [], ◌∷◌, codes}
use Rattle.std.specs.Prelude.{Option, Some, None}
use Rattle.std.specs.List.{list_all}
use Rattle.outer_syntax.specs.Kinds.{is_command}
use Rattle.outer_syntax.specs.Tokens.{text_of}
use Rattle.outer_syntax.specs.declared.token.Token.{Token}
use Rattle.doc_nodes.specs.Names.{equal}
use Rattle.doc_nodes.specs.Needs.{AliasList, meant, source_tokens}
use Rattle.report_markup.specs.declared.kind.ReportKind.{ReportKind}
use Rattle.report_markup.specs.declared.kind.ReportKind.TheVariants.{Error}
use Rattle.report_markup.specs.declared.report.Report.{Report}

-- the token is a name that stands for `by`
abbrev pub is_by : AliasList → List ℕ → Token → Bool
is_by aliases source name =
    is_command name.kind && equal (meant aliases (text_of source name)) (codes "by")

-- the first of these tokens is
abbrev pub says_by : AliasList → List ℕ → List Token → Bool
says_by aliases source [] = false
says_by aliases source (first ∷ others) = is_by aliases source first

-- a command's source says `by` under the aliases in force, so that a proof may be forked
abbrev pub may_fork : AliasList → List ℕ → Bool
may_fork aliases source = says_by aliases source (source_tokens aliases source)

-- a report of this kind is an error
abbrev pub is_error : ReportKind → Bool
is_error Error = true
is_error _ = false

-- none of the reports is
abbrev pub is_quiet : List Report → Bool
is_quiet reports = list_all (λ r. not (is_error r.kind)) reports

-- a command that may fork does so once its evaluation is told, and has no error
abbrev pub forks_by : Bool → Option (List Report) → Bool
forks_by may None = false
forks_by may (Some reports) = may && is_quiet reports
