use Rattle.std.proofs.Common.{refl, ap, ◌∷◌, ◌++◌}
use Rattle.std.specs.Fmt.{digits}
use Rattle.nj_formula.proofs.KnownFormulas.{out-Implies}
use Rattle.proof_terms.specs.Reading.{deepest}
use Rattle.isar_rules.specs.Places.{refused, accepted, no_subgoal}
use Rattle.isar_rules.specs.WorkedProofs.{not_p}
use Rattle.suggest_rules.proofs.KnownSuggestions.{swaps, swaps_text, none, no_fact}
use Rattle.isar_rules.proofs.Printing.{p_text, implies_text, not_p_text, itself_text, swapped_text, swap_text, peirce_text, ab_text, ba_text}
use Rattle.isar_rules.proofs.Showing.{fix_accepted, show_state, show_reports}
use Rattle.isar_rules.proofs.Quantified.{quantified_text}
use Rattle.isar_rules.proofs.Forking.{unknown, theory_fact, local_fact, own_fact}
use Rattle.isar_rules.proofs.WorkedSources.{headers, an_alias, a_missing_alias, a_load, blob_lines}
use Rattle.isar_rules.proofs.laws.worked_examples.Goals as goal

pub returns-clause-each_place : goal.returns-clause-each_place
returns-clause-each_place c = record {
  start = refl;
  outside = refl;
  theory = refl;
  prove = refl;
  block = ap (λ e. refused 6 ++ (e ∷ (accepted 2 ++ (no_subgoal ++ (accepted 2 ++ refused 1))))) fix_accepted;
  end = refl;
}

pub returns-clause-first_errors : goal.returns-clause-first_errors
returns-clause-first_errors c = record {
  shape = refl;
  axiom_place = refl;
  lemma_place = refl;
  assume_place = refl;
  have_place = refl;
  show_place = refl;
  theory_place = refl;
}

pub returns-clause-theory : goal.returns-clause-theory
returns-clause-theory c = record {
  begins = refl;
  header = refl;
  inside = refl;
  fact_added = refl;
  goal_opened = refl;
  end = refl;
  ended = refl;
}

pub returns-clause-stated_facts : goal.returns-clause-stated_facts
returns-clause-stated_facts c = record {
  axiom_reports = rw p_text refl;
  lemma_reports = rw implies_text refl;
  quantified_reports = rw quantified_text refl;
}

pub returns-clause-headers : goal.returns-clause-headers
returns-clause-headers c = headers

pub returns-clause-taken_names : goal.returns-clause-taken_names
unfolding digits
returns-clause-taken_names c = record {
  formula_first = refl;
  name_next = refl;
  lemma_too = refl;
  kept = refl;
  imported_free = refl;
}

pub returns-clause-proof : goal.returns-clause-proof
returns-clause-proof c = record {
  lemma_state = refl;
  proof_state = rw (out-Implies not_p not_p) refl;
  assume_state = refl;
  show_state = show_state;
  by_state = refl;
  qed_state = refl;
}

pub returns-clause-proof_reports : goal.returns-clause-proof_reports
returns-clause-proof_reports c = record {
  lemma_reports = rw itself_text refl;
  proof_reports = refl;
  assume_reports = rw not_p_text refl;
  show_reports = show_reports;
  by_reports = refl;
  by_forks = refl;
  qed_reports = refl;
}

pub returns-clause-proof_errors : goal.returns-clause-proof_errors
unfolding digits
returns-clause-proof_errors c = record {
  formula_first = refl;
  pending = refl;
  pending_kept = refl;
  symbol = refl;
  not_fresh = refl;
  refused_forks = refl;
}

pub returns-clause-alias : goal.returns-clause-alias
returns-clause-alias c = an_alias

pub returns-clause-missing_alias : goal.returns-clause-missing_alias
returns-clause-missing_alias c = a_missing_alias

pub returns-clause-load : goal.returns-clause-load
returns-clause-load c = a_load

pub returns-clause-blob_lines : goal.returns-clause-blob_lines
returns-clause-blob_lines c = blob_lines

pub returns-clause-prints : goal.returns-clause-prints
returns-clause-prints c = record {
  start = refl;
  outside = refl;
  theory = refl;
  end = refl;
  prove = rw (p_text, no_fact) refl;
  block = rw (swapped_text, ab_text, ba_text) refl;
}

pub returns-clause-suggesting_prints : goal.returns-clause-suggesting_prints
returns-clause-suggesting_prints c = record {
  found = rw (swap_text, swaps, swaps_text) refl;
  none = rw (peirce_text, none) refl;
}

pub returns-clause-forks : goal.returns-clause-forks
unfolding digits deepest
returns-clause-forks c = record {
  unknown = unknown;
  no_term = refl;
  behind_term = refl;
  quoted = refl;
  elsewhere = refl;
  theory_fact = theory_fact;
  local_fact = local_fact;
  own_fact = own_fact;
}
