-- Where a proof is suggested, a goal is open, and what may be cited can be written.
use Rattle.std.proofs.Common.{◌≡◌, ℕ, List, [], ◌∷◌, Option, Some, None, IfSome, option_map}
use Rattle.std.specs.List.{AllByRecursion, cons_option}
use Rattle.text_words.proofs.KnownLists.{each-both}
use Rattle.nj_formula.specs.declared.formula.Formula.{Formula}
use Rattle.nj_syntax.specs.Readable.{IsReadable}
use Rattle.theory_ctx.specs.declared.local.Local.{Local}
use Rattle.proof_state.specs.declared.frame.Frame.{Frame}
use Rattle.proof_state.specs.declared.levels.Levels.TheVariants as levels
use Rattle.proof_state.specs.declared.local_fact.LocalFact.{LocalFact}
use Rattle.proof_state.specs.Named.{named_facts}
use Rattle.proof_state.specs.Locals.{around_locals}
use Rattle.proof_terms.specs.declared.term.Term.{Term}
use Rattle.suggest_rules.specs.Search.{suggested}
use Rattle.isar_rules.specs.declared.state.Place.{Place}
use Rattle.isar_rules.specs.declared.state.Place.TheVariants as place
use Rattle.isar_rules.specs.Shown.{suggested_at}
use Rattle.soundness_laws.specs.Citable.{IsFree, IsCitable}
use Rattle.soundness_laws.specs.CitableStates.{CitableFact, CitableFrame, CitablePlace}

module _ (names : List (List ℕ)) where
  named_citable : (facts : List LocalFact) → AllByRecursion (CitableFact names) facts → AllByRecursion (IsCitable names) (named_facts facts)
  named_citable [] all = tt
  named_citable (fact ∷ facts) all = go fact.name all.0.0 (named_citable facts all.1)
    where
      go : (name : Option (List ℕ)) → IfSome name (IsFree names)
          → AllByRecursion (IsCitable names) (named_facts facts)
          → AllByRecursion (IsCitable names) (cons_option (option_map (λ n. record { name = n; formula = fact.formula }) name) (named_facts facts))
      go None free more = more
      go (Some n) free more = ((free, all.0.1), more)

  pub around_citable : (around : List Frame) → AllByRecursion (CitableFrame names) around → AllByRecursion (IsCitable names) (around_locals around)
  around_citable [] all = tt
  around_citable (frame ∷ around) all =
      each-both (IsCitable names) (named_facts frame.block.facts) (around_locals around) (named_citable frame.block.facts all.0.0.1) (around_citable around all.1)

-- the open goal and the facts for which a proof is suggested
pub record IsOpen (names : List (List ℕ)) (t : Term) : Type 0 where
  pub goal : Formula
  pub locals : List Local
  pub readable : IsReadable goal
  pub citable : AllByRecursion (IsCitable names) locals
  pub found : suggested goal locals names ≡ Some t

pub open_goal : (p : Place) (names : List (List ℕ)) (t : Term) → CitablePlace names p → suggested_at names p ≡ Some t → IsOpen names t
open_goal (place.Proof theory name start (levels.Prove goal around)) names t citable e =
    record { goal = goal; locals = around_locals around; readable = citable.0; citable = around_citable names around citable.1; found = e }
open_goal (place.Proof theory name start levels.Closed) names t citable e = cc
open_goal (place.Proof theory name start (levels.State block around)) names t citable e = cc
open_goal (place.Start node given keyword) names t citable e = cc
open_goal place.Outside names t citable e = cc
open_goal (place.Theory theory) names t citable e = cc
open_goal (place.End theory) names t citable e = cc
