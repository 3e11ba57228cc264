-- The reports of the names that a term cites are plain.
use Rattle.std.proofs.Common.{ℕ, Bool, true, false, cond, List, [], ◌∷◌, ◌++◌, Some, None, refl}
use Rattle.std.specs.List.{AllByRecursion, list_any}
use Rattle.text_words.proofs.KnownLists.{each-both, each-part}
use Rattle.theory_ctx.specs.Answers.{Answer, found, unknown, ambiguous}
use Rattle.theory_ctx.specs.Locals.{Scoped, looked_in}
use Rattle.proof_terms.specs.declared.term.Cite.{Cite}
use Rattle.proof_terms.specs.declared.term.Term.{Term, map-Term}
use Rattle.proof_terms.specs.declared.term.Term.TheOpen.{Term-F}
use Rattle.proof_terms.proofs.KnownTerms.{folds_agree}
use Rattle.report_markup.specs.declared.kind.ReportKind.TheVariants as kind
use Rattle.doc_nodes.specs.Names.{equal}
use Rattle.isar_rules.specs.Cites.{Cited, cited, cited_layer, refers, both, under, refs}
use Rattle.isar_rules.specs.Reports.{report, name_is}
use Rattle.editor_laws.proofs.PlainTexts.{Plain, spelled}
use Rattle.editor_laws.proofs.PlainFacts.{IsPlainScope, AnswerPlain, answer_plain}
use Rattle.editor_laws.proofs.PlainStates.{ReportPlain}
use Rattle.editor_laws.proofs.TermNames.{Names, names_layer, AllPlain, TermPlain}

module _ (scope : Scoped) (plain : IsPlainScope scope) where
  refers_plain : (c : Cite) (a : Answer) → AnswerPlain a → AllByRecursion ReportPlain (refers c a)
  refers_plain c (found (Some theory) name f) is = (((is.0, (is.1, tt)), spelled refl), tt)
  refers_plain c (found None name f) is = (((is, tt), spelled refl), tt)
  refers_plain c unknown is = tt
  refers_plain c (ambiguous one other) is = tt

  cited_plain : (c : Cite) (own : List (List ℕ)) → Plain c.name
      → AllByRecursion ReportPlain (cited scope c own)
  cited_plain c own is = go (list_any (equal c.name) own)
    where
      go : (b : Bool)
          → AllByRecursion ReportPlain
          (cond b (report kind.Ref c.range (name_is c.name ∷ []) [] ∷ [])
          (refers c (looked_in scope c.name)))
      go true = (((is, tt), spelled refl), tt)
      go false = refers_plain c (looked_in scope c.name) (answer_plain scope plain c.name)

  -- the reports of a term of plain names, under all names of own assumptions
  abbrev Told : Names → Cited → Type 0
  Told names told = AllPlain names → (own : List (List ℕ)) → AllByRecursion ReportPlain (told own)

  of_both : (xs ys : Names) (t u : Cited) → Told xs t → Told ys u → Told (xs ++ ys) (both t u)
  of_both xs ys t u g h all own =
      let parts = each-part Plain xs ys all in
      each-both ReportPlain (t own) (u own) (g parts.0 own) (h parts.1 own)

  of_under : (x : List ℕ) (xs : Names) (t : Cited) → Told xs t → Told xs (under x t)
  of_under x xs t g all own = g all (x ∷ own)

  abbrev Parts : Type 0
  Parts = (names : Names) × (t : Cited) × Told names t

  layer : (y : Term-F Parts)
      → Told (names_layer (map-Term Parts Names (λ z. z.0) y))
      (cited_layer scope (map-Term Parts Cited (λ z. z.1) y))
  layer (Term-F.Fact c) = λ all own. cited_plain c own all.0
  layer (Term-F.ConjI t u) = of_both t.0 u.0 t.1 u.1 t.2 u.2
  layer (Term-F.ConjE1 b t) = t.2
  layer (Term-F.ConjE2 a t) = t.2
  layer (Term-F.DisjI1 t) = t.2
  layer (Term-F.DisjI2 t) = t.2
  layer (Term-F.DisjE a b t x u y v) =
      of_both t.0 (u.0 ++ v.0) t.1 (both (under x u.1) (under y v.1)) t.2
      (of_both u.0 v.0 (under x u.1) (under y v.1) (of_under x u.0 u.1 u.2)
      (of_under y v.0 v.1 v.2))
  layer (Term-F.ImpI x t) = of_under x t.0 t.1 t.2
  layer (Term-F.ImpE a t u) = of_both t.0 u.0 t.1 u.1 t.2 u.2
  layer (Term-F.NotI x t) = of_under x t.0 t.1 t.2
  layer (Term-F.NotE a t u) = of_both t.0 u.0 t.1 u.1 t.2 u.2
  layer (Term-F.FalseE t) = t.2
  layer (Term-F.AllI x t) = λ all own. t.2 all.1 own
  layer (Term-F.AllE q s t) = t.2
  layer (Term-F.ExI s t) = t.2
  layer (Term-F.ExE q x h t u) =
      λ all own. of_both t.0 u.0 t.1 (under h u.1) t.2 (of_under h u.0 u.1 u.2) all.1 own

  pub refs_plain : (t : Term) → TermPlain t → AllByRecursion ReportPlain (refs scope t)
  refs_plain t all = folds_agree names_layer (cited_layer scope) Told layer t all []
