-- The reports of the names that a term cites are no errors.
use Rattle.std.proofs.Common.{ℕ, Bool, true, false, cond, List, [], ◌∷◌, ◌++◌, refl}
use Rattle.std.specs.List.{AllByRecursion, list_any}
use Rattle.text_words.proofs.KnownLists.{each-both}
use Rattle.theory_ctx.specs.Answers.{Answer, found, unknown, ambiguous}
use Rattle.theory_ctx.specs.Locals.{Scoped, looked_in}
use Rattle.proof_terms.specs.declared.term.Cite.{Cite}
use Rattle.proof_terms.specs.declared.term.Term.{Term, map-Term}
use Rattle.proof_terms.specs.declared.term.Term.TheOpen.{Term-F}
use Rattle.proof_terms.proofs.KnownTerms.{folds_agree}
use Rattle.report_markup.specs.declared.kind.ReportKind.TheVariants as kind
use Rattle.doc_nodes.specs.Names.{equal}
use Rattle.isar_rules.specs.Cites.{refers, cited, Cited, cited_layer, refs}
use Rattle.isar_rules.specs.Reports.{report, name_is}
use Rattle.isar_rules.proofs.KnownQuiet.{IsQuiet}

-- a name that is cited
refers_quiet : (c : Cite) (answer : Answer) → AllByRecursion IsQuiet (refers c answer)
refers_quiet c (found theory name f) = (refl, tt)
refers_quiet c unknown = tt
refers_quiet c (ambiguous one other) = tt

cited_quiet : (scope : Scoped) (c : Cite) (own : List (List ℕ)) → AllByRecursion IsQuiet (cited scope c own)
cited_quiet scope c own = go (list_any (equal c.name) own)
  where
    go : (b : Bool) → AllByRecursion IsQuiet (cond b (report kind.Ref c.range (name_is c.name ∷ []) [] ∷ []) (refers c (looked_in scope c.name)))
    go true = (refl, tt)
    go false = refers_quiet c (looked_in scope c.name)

-- under all names of own assumptions
abbrev Quiet : Cited → Unit {0} → Type 0
Quiet t u = (own : List (List ℕ)) → AllByRecursion IsQuiet (t own)

abbrev Known : Type 0
Known = (t : Cited) × (u : Unit {0}) × Quiet t u

both_quiet : (t u : Known) (one other : List (List ℕ)) → AllByRecursion IsQuiet (t.0 one ++ u.0 other)
both_quiet t u one other = each-both IsQuiet (t.0 one) (u.0 other) (t.2 one) (u.2 other)

layer_quiet : (scope : Scoped) (y : Term-F Known) → Quiet (cited_layer scope (map-Term Known Cited (λ z. z.0) y)) tt
layer_quiet scope (Term-F.Fact c) = cited_quiet scope c
layer_quiet scope (Term-F.ConjI t u) = λ own. both_quiet t u own own
layer_quiet scope (Term-F.ConjE1 b t) = t.2
layer_quiet scope (Term-F.ConjE2 a t) = t.2
layer_quiet scope (Term-F.DisjI1 t) = t.2
layer_quiet scope (Term-F.DisjI2 t) = t.2
layer_quiet scope (Term-F.DisjE a b t x u y v) = λ own. each-both IsQuiet (t.0 own) (u.0 (x ∷ own) ++ v.0 (y ∷ own)) (t.2 own) (both_quiet u v (x ∷ own) (y ∷ own))
layer_quiet scope (Term-F.ImpI x t) = λ own. t.2 (x ∷ own)
layer_quiet scope (Term-F.ImpE a t u) = λ own. both_quiet t u own own
layer_quiet scope (Term-F.NotI x t) = λ own. t.2 (x ∷ own)
layer_quiet scope (Term-F.NotE a t u) = λ own. both_quiet t u own own
layer_quiet scope (Term-F.FalseE t) = t.2
layer_quiet scope (Term-F.AllI x t) = t.2
layer_quiet scope (Term-F.AllE q s t) = t.2
layer_quiet scope (Term-F.ExI s t) = t.2
layer_quiet scope (Term-F.ExE q x h t u) = λ own. both_quiet t u own (h ∷ own)

pub refs_quiet : (scope : Scoped) (t : Term) → AllByRecursion IsQuiet (refs scope t)
refs_quiet scope t = folds_agree (cited_layer scope) (λ _. tt) Quiet (layer_quiet scope) t []
