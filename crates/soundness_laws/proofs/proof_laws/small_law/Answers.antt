use Rattle.std.proofs.Common.{[], ◌∷◌, codes}
use Rattle.proof_terms.specs.declared.fault.TermFault.TheVariants.{ProofTooDeep, UnknownName}
use Rattle.proof_terms.specs.declared.fault.TermFault.TheVariants.{NotFresh}
use Rattle.proof_terms.specs.declared.term.Term.TheVariants.{AllI}
use Rattle.soundness_laws.specs.Small.{prop, swap, holds_of_all, fact, swapping, scope_of, says_x}
use Rattle.soundness_laws.proofs.Cases.{none, swaps, nested, unknown, not_fresh}
use Rattle.soundness_laws.proofs.proof_laws.small_law.Goals as goal

pub returns : goal.returns
returns c = record {
  swaps = swaps;
  nested = none 2 swapping swap (scope_of []) ProofTooDeep nested;
  unknown = none 0 fact (prop (codes "P")) (scope_of []) (UnknownName (codes "h")) unknown;
  not_fresh = none 1 (AllI (codes "x") fact) holds_of_all (scope_of (says_x ∷ []))
      (NotFresh (codes "x")) not_fresh;
}
