use Rattle.std.proofs.Common.{[]}
use Rattle.language.specs.declared.made.Imports.TheVariants.{Ordered}
use Rattle.isar_rules.specs.Starts.{start_state}
use Rattle.soundness_laws.specs.Axioms.{IsAxiomOf}
use Rattle.core_rules.specs.Scratch.{final, run_node}
use Rattle.isar_rules.specs.Isar.{isar}
use Rattle.soundness_laws.proofs.Places.{facts_follow}
use Rattle.soundness_laws.proofs.Judged.{Laws}
use Rattle.soundness_laws.proofs.Running.{run_sound}
use Rattle.soundness_laws.proofs.theory_laws.node_law.Goals as goal

pub returns : goal.returns
returns c name aliases node blobs clean =
    let laws : Laws = record {
      begins = c.kept_law.ensures.begins;
      kept = c.kept_law.ensures.kept;
      ends = c.kept_law.ensures.ends;
      derives = c.checks_law.ensures.derives;
      stands = c.checks_law.ensures.stands;
    } in
    let begins = start_state name (Ordered []) aliases in
    let P = IsAxiomOf (run_node isar node blobs begins).commands in
    facts_follow P (final isar (run_node isar node blobs begins)) (run_sound laws P node blobs node.entries begins tt clean (λ g m. m))
