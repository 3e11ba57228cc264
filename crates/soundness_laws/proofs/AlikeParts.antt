-- Parts that say the same make terms that say the same.
use Rattle.std.proofs.Common.{◌≡◌, List, [], ◌∷◌}
use Rattle.std.specs.Prelude.{⊤}
use Rattle.nj_formula.specs.Meaning.{meaning}
use Rattle.nj_kernel.specs.declared.rule.Rule.{Rule}
use Rattle.nj_kernel.specs.declared.rule.Rule.TheVariants as R
use Rattle.proof_terms.specs.Slots.{Slot, formula, object, named, proof, slots}
use Rattle.soundness_laws.specs.Alike.{IsAlike, conj_i, conj_e1, conj_e2, disj_i1, disj_i2, disj_e, imp_i, imp_e, not_i, not_e, false_e}
use Rattle.soundness_laws.proofs.RuleParts.{Parts, term_of}
use Rattle.soundness_laws.proofs.Written.{IsPropositional}

abbrev pub AreAlike : (places : List Slot) → Parts places → Parts places → Type 0
AreAlike [] p q = ⊤
AreAlike (formula ∷ places) p q = (meaning p.0 ≡ meaning q.0) × AreAlike places p.1 q.1
AreAlike (object ∷ places) p q = ⊥
AreAlike (named ∷ places) p q = (p.0 ≡ q.0) × AreAlike places p.1 q.1
AreAlike (proof ∷ places) p q = IsAlike p.0 q.0 × AreAlike places p.1 q.1

pub made_alike : (r : Rule) → IsPropositional r → (p q : Parts (slots r)) → AreAlike (slots r) p q → IsAlike (term_of r p) (term_of r q)
made_alike R.ConjI kind p q a = conj_i a.0 a.1.0
made_alike R.ConjE1 kind p q a = conj_e1 a.0 a.1.0
made_alike R.ConjE2 kind p q a = conj_e2 a.0 a.1.0
made_alike R.DisjI1 kind p q a = disj_i1 a.0
made_alike R.DisjI2 kind p q a = disj_i2 a.0
made_alike R.DisjE kind p q a = disj_e a.0 a.1.0 a.1.1.0 a.1.1.1.0 a.1.1.1.1.0 a.1.1.1.1.1.0 a.1.1.1.1.1.1.0
made_alike R.ImpI kind p q a = imp_i a.0 a.1.0
made_alike R.ImpE kind p q a = imp_e a.0 a.1.0 a.1.1.0
made_alike R.NotI kind p q a = not_i a.0 a.1.0
made_alike R.NotE kind p q a = not_e a.0 a.1.0 a.1.1.0
made_alike R.FalseE kind p q a = false_e a.0
made_alike R.AllI kind p q a = absurd kind
made_alike R.AllE kind p q a = absurd kind
made_alike R.ExI kind p q a = absurd kind
made_alike R.ExE kind p q a = absurd kind
