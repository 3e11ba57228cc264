-- What a term cites stands where what its parts cite does.
use Rattle.std.proofs.Common.{◌≡◌, List, [], ◌∷◌, ◌++◌, Option, Some, None, sym, subst}
use Rattle.std.specs.Prelude.{⊤}
use Rattle.std.specs.List.{AllByRecursion}
use Rattle.pide_base.specs.declared.range.Range.{Range}
use Rattle.nj_kernel.specs.declared.rule.Rule.{Rule}
use Rattle.nj_kernel.specs.declared.rule.Rule.TheVariants as R
use Rattle.proof_terms.specs.declared.term.Cite.{Cite}
use Rattle.proof_terms.specs.declared.term.Term.{Term, fold-roll-Term, roll-Term, map-Term}
use Rattle.proof_terms.specs.declared.term.Term.TheOpen.{Term-F}
use Rattle.proof_terms.specs.declared.term.Term.TheVariants as T
use Rattle.proof_terms.specs.Cited.{cites_layer, cites_of}
use Rattle.proof_terms.specs.Slots.{Part, a_formula, an_object, a_name, a_proof, built_term}

module _ (P : Range → Type 0) where
  abbrev pub AllStand : List Cite → Type 0
  AllStand = AllByRecursion (λ c. P c.range)

  abbrev pub TermGood : Term → Type 0
  TermGood t = AllStand (cites_of t)

  pub rolled : (y : Term-F Term) (t : Term) → roll-Term y ≡ t → AllStand (cites_layer (map-Term Term (List Cite) cites_of y)) → TermGood t
  rolled y t e good = subst TermGood e (subst AllStand (sym (fold-roll-Term (List Cite) cites_layer y)) good)

  good-both : (cs ds : List Cite) → AllStand cs → AllStand ds → AllStand (cs ++ ds)
  good-both [] ds g h = h
  good-both (c ∷ cs) ds g h = (g.0, good-both cs ds g.1 h)

  abbrev pub PartGood : Part → Type 0
  PartGood (a_proof t) = TermGood t
  PartGood _ = ⊤

  abbrev pub IfBuilt : Option Term → Type 0
  IfBuilt None = ⊤
  IfBuilt (Some t) = TermGood t

  pub built-good : (r : Rule) (ps : List Part) → AllByRecursion PartGood ps
      → IfBuilt (built_term r ps)
  built-good R.ConjI (a_proof t ∷ a_proof u ∷ []) g = rolled (Term-F.ConjI t u) (T.ConjI t u) (T.rolls-ConjI t u) (good-both (cites_of t) (cites_of u) g.0 g.1.0)
  built-good R.ConjE1 (a_formula b ∷ a_proof t ∷ []) g = rolled (Term-F.ConjE1 b t) (T.ConjE1 b t) (T.rolls-ConjE1 b t) g.1.0
  built-good R.ConjE2 (a_formula a ∷ a_proof t ∷ []) g = rolled (Term-F.ConjE2 a t) (T.ConjE2 a t) (T.rolls-ConjE2 a t) g.1.0
  built-good R.DisjI1 (a_proof t ∷ []) g = rolled (Term-F.DisjI1 t) (T.DisjI1 t) (T.rolls-DisjI1 t) g.0
  built-good R.DisjI2 (a_proof t ∷ []) g = rolled (Term-F.DisjI2 t) (T.DisjI2 t) (T.rolls-DisjI2 t) g.0
  built-good R.DisjE (a_formula a ∷ a_formula b ∷ a_proof t ∷ a_name x ∷ a_proof u ∷ a_name y ∷ a_proof v ∷ []) g =
      rolled (Term-F.DisjE a b t x u y v) (T.DisjE a b t x u y v) (T.rolls-DisjE a b t x u y v)
      (good-both (cites_of t) (cites_of u ++ cites_of v) g.1.1.0 (good-both (cites_of u) (cites_of v) g.1.1.1.1.0 g.1.1.1.1.1.1.0))
  built-good R.ImpI (a_name x ∷ a_proof t ∷ []) g = rolled (Term-F.ImpI x t) (T.ImpI x t) (T.rolls-ImpI x t) (g.1.0)
  built-good R.ImpE (a_formula a ∷ a_proof t ∷ a_proof u ∷ []) g = rolled (Term-F.ImpE a t u) (T.ImpE a t u) (T.rolls-ImpE a t u) (good-both (cites_of t) (cites_of u) g.1.0 g.1.1.0)
  built-good R.NotI (a_name x ∷ a_proof t ∷ []) g = rolled (Term-F.NotI x t) (T.NotI x t) (T.rolls-NotI x t) (g.1.0)
  built-good R.NotE (a_formula a ∷ a_proof t ∷ a_proof u ∷ []) g = rolled (Term-F.NotE a t u) (T.NotE a t u) (T.rolls-NotE a t u) (good-both (cites_of t) (cites_of u) g.1.0 g.1.1.0)
  built-good R.FalseE (a_proof t ∷ []) g = rolled (Term-F.FalseE t) (T.FalseE t) (T.rolls-FalseE t) g.0
  built-good R.AllI (a_name x ∷ a_proof t ∷ []) g = rolled (Term-F.AllI x t) (T.AllI x t) (T.rolls-AllI x t) g.1.0
  built-good R.AllE (a_formula q ∷ an_object s ∷ a_proof t ∷ []) g = rolled (Term-F.AllE q s t) (T.AllE q s t) (T.rolls-AllE q s t) g.1.1.0
  built-good R.ExI (an_object s ∷ a_proof t ∷ []) g = rolled (Term-F.ExI s t) (T.ExI s t) (T.rolls-ExI s t) g.1.0
  built-good R.ExE (a_formula q ∷ a_name x ∷ a_name h ∷ a_proof t ∷ a_proof u ∷ []) g =
      rolled (Term-F.ExE q x h t u) (T.ExE q x h t u) (T.rolls-ExE q x h t u) (good-both (cites_of t) (cites_of u) g.1.1.1.0 g.1.1.1.1.0)
  built-good _ _ g = tt
