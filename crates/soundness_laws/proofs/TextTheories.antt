-- A text whose markup has no error comes to a theory of just what its commands state.
use Rattle.std.proofs.Common.{◌≡◌, ℕ, zero, suc, ◌<◌, List, [], ◌∷◌, length, slice_get, Some, refl, sym, ap, subst}
use Rattle.std.specs.List.{AllByRecursion}
use Rattle.std.proofs.lemmas.Option.{none-some, same_Some}
use Rattle.nj_formula.specs.declared.formula.Formula.{Formula}
use Rattle.theory_ctx.specs.declared.fact_name.FactName.{FactName}
use Rattle.doc_nodes.specs.declared.node.Node.{Node}
use Rattle.doc_nodes.specs.Imports.{NodeList}
use Rattle.exec_rules.specs.Kept.{BlobList}
use Rattle.core_rules.specs.Scratch.{Run, final, scratch, scratch_at}
use Rattle.isar_rules.specs.declared.state.State.{State}
use Rattle.isar_rules.specs.Isar.{isar}
use Rattle.isar_rules.specs.Kept.{errors_in}
use Rattle.text_check.specs.OneText.{markup_of, text_name}
use Rattle.soundness_laws.specs.Clean.{AreClean}
use Rattle.soundness_laws.specs.Imports.{AreCleanFrom, Needs, itself}
use Rattle.soundness_laws.specs.Theories.{IsStatedFrom, IsStatedIn, IsTheoryOf}
use Rattle.soundness_laws.specs.Sound.{IsTheory}
use Rattle.soundness_laws.proofs.Sounding.{clean, commands_are, node_of, only, run, text_fine}

abbrev pub IsJust : NodeList → BlobList → ℕ × Run State → Type 0
IsJust nodes blobs one = AreCleanFrom nodes blobs one.0 → 0 < length one.1.commands → IsTheoryOf (IsStatedFrom nodes blobs one.0) (final isar one.1)

-- the nodes of each document come to theories of what they and their imports state
abbrev pub Just : Type 0
Just = (nodes : NodeList) (blobs : BlobList) → AllByRecursion (IsJust nodes blobs) (scratch isar nodes blobs)

module _ (just : Just) (name : List ℕ) (node : Node) where
  abbrev nodes : NodeList
  nodes = (name, node) ∷ []

  abbrev only_run : Run State
  only_run = run name node

  -- what the only node needs is itself
  to : (fact : FactName) (f : Formula) → IsStatedFrom nodes [] 0 fact f → IsStatedIn name only_run.commands fact f
  to fact f s = go s.place s.pair s.stands s.stated
    where
      go : (p : ℕ) (pair : List ℕ × Node) → slice_get nodes p ≡ Some pair → IsStatedIn pair.0 (scratch_at isar nodes [] p) fact f → IsStatedIn name only_run.commands fact f
      go zero pair stands stated =
          subst (λ cs. IsStatedIn name cs fact f) (commands_are name node)
          (subst (λ n. IsStatedIn n (scratch_at isar nodes [] 0) fact f) (ap (λ (x : List ℕ × Node). x.0) (sym (same_Some (name, node) pair stands))) stated)
      go (suc p) pair stands stated = absurd (none-some pair stands)

  from : (fact : FactName) (f : Formula) → IsStatedIn name only_run.commands fact f → IsStatedFrom nodes [] 0 fact f
  from fact f stated = record {
    place = 0;
    pair = (name, node);
    needed = itself;
    stands = refl;
    stated = subst (λ cs. IsStatedIn name cs fact f) (sym (commands_are name node)) stated;
  }

  pub node_theory : AreClean only_run.commands → 0 < length only_run.commands → IsTheoryOf (IsStatedIn name only_run.commands) (final isar only_run)
  node_theory quiet some =
      let clean_from : AreCleanFrom nodes [] 0 = subst (AllByRecursion (λ (one : ℕ × Run State). Needs nodes 0 one.0 → AreClean one.1.commands)) (sym (only name node)) (λ n. quiet, tt) in
      let theory = (subst (AllByRecursion (IsJust nodes [])) (only name node) (just nodes [])).0 clean_from some in
      record {
        facts = theory.facts;
        has_them = theory.has_them;
        just = λ fact f. (λ h. to fact f ((theory.just fact f).0 h), λ s. (theory.just fact f).1 (from fact f s));
      }

pub text_theory : Just → (text : List ℕ) → errors_in (markup_of isar text) ≡ [] → IsTheory text
text_theory just text e = (
  run (text_name text) (node_of text),
  only (text_name text) (node_of text),
  λ some. node_theory just (text_name text) (node_of text)
      (clean (text_name text) (node_of text) (text_fine text e)) some,
)
