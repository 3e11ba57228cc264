-- What is reported of a fork stands on the command's tokens, or is of the whole command.
use Rattle.std.proofs.Common.{◌≡◌, ℕ, Bool, true, false, if◌then◌else◌, List, [], ◌∷◌, ◌++◌, drop, Result, Ok, Err, refl, inl, inr}
use Rattle.std.specs.List.{AllByRecursion, list_any}
use Rattle.text_words.proofs.KnownLists.{each-both, each-part}
use Rattle.pide_base.specs.declared.range.Range.{Range}
use Rattle.outer_syntax.specs.declared.token.Token.{Token}
use Rattle.nj_formula.specs.declared.formula.Formula.{Formula}
use Rattle.nj_formula.specs.Statement.{Statement}
use Rattle.theory_ctx.specs.Answers.{Answer, found, unknown, ambiguous}
use Rattle.theory_ctx.specs.Locals.{Scoped, looked_in}
use Rattle.doc_nodes.specs.Names.{equal}
use Rattle.proof_state.specs.declared.levels.Levels.TheVariants.{Closed, Prove, State}
use Rattle.proof_terms.specs.declared.fault.TermFault.{TermFault}
use Rattle.proof_terms.specs.declared.term.Cite.{Cite}
use Rattle.proof_terms.specs.declared.term.Term.{Term, map-Term}
use Rattle.proof_terms.specs.declared.term.Term.TheOpen.{Term-F}
use Rattle.proof_terms.specs.Cited.{cites_layer, cites_of, IsPlaceOf}
use Rattle.proof_terms.specs.Marks.{marks}
use Rattle.proof_terms.specs.Reading.{proof_of}
use Rattle.proof_terms.proofs.KnownCiting.{cited_on_tokens}
use Rattle.proof_terms.proofs.KnownTerms.{folds_agree}
use Rattle.suggest_rules.specs.proof_checks_below.Checks.{checked}
use Rattle.report_markup.specs.declared.kind.ReportKind.TheVariants as kind
use Rattle.report_markup.specs.declared.report.Report.{Report}
use Rattle.isar_rules.specs.declared.state.Place.{Place}
use Rattle.isar_rules.specs.declared.state.Place.TheVariants as place
use Rattle.isar_rules.specs.Cites.{Cited, cited, cited_layer, refers, both, under, refs}
use Rattle.isar_rules.specs.Reports.{report, name_is, whole}
use Rattle.isar_rules.specs.Forks.{scope_at, verdict, judged_reports, forked_at}
use Rattle.isar_rules.proofs.Good.{IsPlaced}
use Rattle.isar_rules.proofs.KnownQuiet.{sorted}

module _ (P : Range → Type 0) (scope : Scoped) where
  abbrev Each : List Report → Type 0
  Each = AllByRecursion (λ r. P r.range)

  -- the reports of a term stand where its names do
  abbrev StandThere : List Cite → Cited → Type 0
  StandThere cites reports = AllByRecursion (λ c. P c.range) cites → (own : List (List ℕ)) → Each (reports own)

  referred : (c : Cite) (a : Answer) → P c.range → Each (refers c a)
  referred c (found theory n f) p = (p, tt)
  referred c unknown p = tt
  referred c (ambiguous one other) p = tt

  of_cite : (c : Cite) → StandThere (c ∷ []) (cited scope c)
  of_cite c all own = go (list_any (equal c.name) own)
    where
      go : (b : Bool) → Each (if b then report kind.Ref c.range (name_is c.name ∷ []) [] ∷ [] else refers c (looked_in scope c.name))
      go true = (all.0, tt)
      go false = referred c (looked_in scope c.name) all.0

  of_both : (cs ds : List Cite) (t u : Cited) → StandThere cs t → StandThere ds u → StandThere (cs ++ ds) (both t u)
  of_both cs ds t u g h all own =
      let parts = each-part (λ (c : Cite). P c.range) cs ds all in
      each-both (λ (r : Report). P r.range) (t own) (u own) (g parts.0 own) (h parts.1 own)

  of_under : (x : List ℕ) (cs : List Cite) (t : Cited) → StandThere cs t → StandThere cs (under x t)
  of_under x cs t g all own = g all (x ∷ own)

  abbrev Parts : Type 0
  Parts = (cs : List Cite) × (t : Cited) × StandThere cs t

  layer : (y : Term-F Parts) → StandThere (cites_layer (map-Term Parts (List Cite) (λ z. z.0) y)) (cited_layer scope (map-Term Parts Cited (λ z. z.1) y))
  layer (Term-F.Fact c) = of_cite c
  layer (Term-F.ConjI t u) = of_both t.0 u.0 t.1 u.1 t.2 u.2
  layer (Term-F.ConjE1 b t) = t.2
  layer (Term-F.ConjE2 a t) = t.2
  layer (Term-F.DisjI1 t) = t.2
  layer (Term-F.DisjI2 t) = t.2
  layer (Term-F.DisjE a b t x u y v) =
      of_both t.0 (u.0 ++ v.0) t.1 (both (under x u.1) (under y v.1)) t.2
      (of_both u.0 v.0 (under x u.1) (under y v.1) (of_under x u.0 u.1 u.2) (of_under y v.0 v.1 v.2))
  layer (Term-F.ImpI x t) = of_under x t.0 t.1 t.2
  layer (Term-F.ImpE a t u) = of_both t.0 u.0 t.1 u.1 t.2 u.2
  layer (Term-F.NotI x t) = of_under x t.0 t.1 t.2
  layer (Term-F.NotE a t u) = of_both t.0 u.0 t.1 u.1 t.2 u.2
  layer (Term-F.FalseE t) = t.2
  layer (Term-F.AllI x t) = t.2
  layer (Term-F.AllE q s t) = t.2
  layer (Term-F.ExI s t) = t.2
  layer (Term-F.ExE q x h t u) = of_both t.0 u.0 t.1 (under h u.1) t.2 (of_under h u.0 u.1 u.2)

  pub of_refs : (t : Term) → AllByRecursion (λ c. P c.range) (cites_of t) → Each (refs scope t)
  of_refs t all = folds_agree cites_layer (cited_layer scope) StandThere layer t all []

module _ (source : List ℕ) (tokens : List Token) where
  abbrev Placed : Report → Type 0
  Placed r = IsPlaced source tokens r.range

  later : (ts : List Token) (r : Range) → IsPlaceOf (drop 1 ts) r → IsPlaceOf ts r
  later [] r here = here
  later (t ∷ ts) r here = inr here

  placed : (cs : List Cite) → AllByRecursion (λ c. IsPlaceOf (drop 1 tokens) c.range) cs → AllByRecursion (λ c. IsPlaced source tokens c.range) cs
  placed [] all = tt
  placed (c ∷ cs) all = (inr (later tokens c.range all.0), placed cs all.1)

  of_verdict : (cites : List Report) (v : Result (List Statement) TermFault) → AllByRecursion Placed cites → AllByRecursion Placed (verdict source cites v)
  of_verdict cites (Ok assumed) all = sorted Placed (report kind.Proved (whole source) [] [] ∷ cites) (inl refl, all)
  of_verdict cites (Err fault) all = (inl refl, tt)

  of_term : (goal : Formula) (scope : Scoped) (read : Result Term TermFault)
      → ((t : Term) → read ≡ Ok t → AllByRecursion (λ c. IsPlaced source tokens c.range) (cites_of t))
      → AllByRecursion Placed (judged_reports source goal scope read)
  of_term goal scope (Ok t) each = of_verdict (refs scope t) (checked t goal scope) (of_refs (IsPlaced source tokens) scope t (each t refl))
  of_term goal scope (Err fault) each = (inl refl, tt)

  pub fork-placed : (p : Place) → AllByRecursion Placed (forked_at source tokens p)
  fork-placed (place.Proof theory name start (Prove goal around)) =
      of_term goal (scope_at theory (Prove goal around)) (proof_of (marks source (drop 1 tokens))) (λ t e. placed (cites_of t) (cited_on_tokens source (drop 1 tokens) t e))
  fork-placed (place.Proof theory name start Closed) = tt
  fork-placed (place.Proof theory name start (State block around)) = tt
  fork-placed (place.Start node given keyword) = tt
  fork-placed place.Outside = tt
  fork-placed (place.Theory theory) = tt
  fork-placed (place.End theory) = tt
