-- What the names that a proof term cites mean, as reports (kinds after the markup of Isabelle/PIDE;
-- this project's own).
use Rattle.std.specs.Prelude.{ℕ, if◌then◌else◌, List, [], ◌∷◌, ◌++◌, Option, Some, None}
use Rattle.std.specs.List.{list_any}
use Rattle.report_markup.specs.declared.kind.ReportKind.TheVariants as kind
use Rattle.report_markup.specs.declared.property.Property.{Property}
use Rattle.report_markup.specs.declared.report.Report.{Report}
use Rattle.theory_ctx.specs.Answers.{Answer, found, unknown, ambiguous}
use Rattle.theory_ctx.specs.Locals.{Scoped, looked_in}
use Rattle.proof_terms.specs.declared.term.Cite.{Cite}
use Rattle.proof_terms.specs.declared.term.Term.{Term, fold-Term}
use Rattle.proof_terms.specs.declared.term.Term.TheOpen.{Term-F}
use Rattle.doc_nodes.specs.Names.{equal}
use Rattle.isar_rules.specs.Reports.{report, theory_is, name_is}

-- a fact by its theory and its name, a local one by its name
abbrev pub meant_by : Option (List ℕ) → List ℕ → List Property
meant_by (Some theory) name = theory_is theory ∷ name_is name ∷ []
meant_by None name = name_is name ∷ []

-- the report of a name that means this
abbrev pub refers : Cite → Answer → List Report
refers c (found theory name f) = report kind.Ref c.range (meant_by theory name) [] ∷ []
refers c unknown = []
refers c (ambiguous one other) = []

-- the same under the names of the term's own assumptions, which come before those of the scope
abbrev pub cited : Scoped → Cite → List (List ℕ) → List Report
cited scope c own = if list_any (equal c.name) own
    then report kind.Ref c.range (name_is c.name ∷ []) [] ∷ []
    else refers c (looked_in scope c.name)

-- the reports of a term, under the names of the assumptions that it stands in
abbrev pub Cited : Type 0
Cited = List (List ℕ) → List Report

-- those of two parts
abbrev pub both : Cited → Cited → Cited
both t u own = t own ++ u own

-- those of a part that has an assumption of its own
abbrev pub under : List ℕ → Cited → Cited
under x t own = t (x ∷ own)

-- one layer, with the reports of each part
abbrev pub cited_layer : Scoped → Term-F Cited → Cited
cited_layer scope (Term-F.Fact c) = cited scope c
cited_layer scope (Term-F.ConjI t u) = both t u
cited_layer scope (Term-F.ConjE1 b t) = t
cited_layer scope (Term-F.ConjE2 a t) = t
cited_layer scope (Term-F.DisjI1 t) = t
cited_layer scope (Term-F.DisjI2 t) = t
cited_layer scope (Term-F.DisjE a b t x u y v) = both t (both (under x u) (under y v))
cited_layer scope (Term-F.ImpI x t) = under x t
cited_layer scope (Term-F.ImpE a t u) = both t u
cited_layer scope (Term-F.NotI x t) = under x t
cited_layer scope (Term-F.NotE a t u) = both t u
cited_layer scope (Term-F.FalseE t) = t
cited_layer scope (Term-F.AllI x t) = t
cited_layer scope (Term-F.AllE quoted s t) = t
cited_layer scope (Term-F.ExI s t) = t
cited_layer scope (Term-F.ExE quoted x h t u) = both t (under h u)

-- the reports of all names that a term cites
abbrev pub refs : Scoped → Term → List Report
refs scope t = fold-Term Cited (cited_layer scope) t []
