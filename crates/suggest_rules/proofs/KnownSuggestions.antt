-- The suggestions of small goals, computed.
use Rattle.std.proofs.Common.{◌≡◌, [], ◌∷◌, codes, Some, None}
use Rattle.std.specs.Fmt.{digits}
use Rattle.nj_formula.proofs.KnownMeaning.{meaning-Atom, meaning-And, meaning-Implies}
use Rattle.nj_formula.proofs.KnownFormulas.{out-Implies}
use Rattle.proof_terms.proofs.KnownTerms.{fold-Fact, fold-ImpI, fold-ConjI, fold-ConjE1, fold-ConjE2}
use Rattle.nj_syntax.specs.Printed.{formula_text}
use Rattle.nj_syntax.proofs.KnownSpoken.{says_atom}
use Rattle.suggest_rules.specs.Search.{found_by, found_within, suggested}
use Rattle.suggest_rules.specs.TermText.{by_text}
use Rattle.suggest_rules.specs.Worked.{prop, swap, peirce, swapped_by}
use Rattle.suggest_rules.proofs.FormLemmas.{out-Atom, out-And}
use Rattle.suggest_rules.proofs.TestLemmas.{itself, conj_atom, atom_conj, implies_atom, atom_implies, p_q, swapped, nested}

pub swaps : suggested swap [] [] ≡ Some (swapped_by (codes "h1"))
unfolding found_by found_within digits
swaps = simp (out-Atom, out-And, out-Implies, meaning-Atom, meaning-And, itself, conj_atom, atom_conj, p_q, swapped)

pub without_rule : suggested swap [] (codes "conjI" ∷ []) ≡ None
unfolding found_by found_within digits
without_rule = simp (out-And, out-Implies, meaning-Atom, meaning-And, atom_conj, swapped)

pub renamed : suggested swap [] (codes "h1" ∷ []) ≡ Some (swapped_by (codes "h1'"))
unfolding found_by found_within digits
renamed = simp (out-Atom, out-And, out-Implies, meaning-Atom, meaning-And, itself, conj_atom, atom_conj, p_q, swapped)

pub none : suggested peirce [] [] ≡ None
unfolding found_by found_within digits
none = simp (out-Atom, out-Implies, meaning-Atom, meaning-Implies, itself, implies_atom, atom_implies, p_q, nested)

pub no_fact : suggested (prop (codes "P")) [] [] ≡ None
unfolding found_by found_within digits
no_fact = simp out-Atom

p_text : formula_text (prop (codes "P")) ≡ codes "P"
p_text = says_atom 10 [] (codes "P")

q_text : formula_text (prop (codes "Q")) ≡ codes "Q"
q_text = says_atom 10 [] (codes "Q")

pub swaps_text : by_text (swapped_by (codes "h1")) ≡ codes "by (impI h1 (conjI (conjE2 \"P\" h1) (conjE1 \"Q\" h1)))"
swaps_text = simp (fold-Fact, fold-ImpI, fold-ConjI, fold-ConjE1, fold-ConjE2, p_text, q_text)
