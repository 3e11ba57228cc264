-- What a text without errors says (natural deduction, Gentzen 1935).
use Rattle.std.specs.Prelude.{◌≡◌, ℕ, ◌<◌, List, [], ◌∷◌, length}
use Rattle.core_rules.specs.Scratch.{Run, final, scratch}
use Rattle.isar_rules.specs.declared.state.State.{State}
use Rattle.isar_rules.specs.Isar.{isar}
use Rattle.text_check.specs.OneText.{text_name, one_node}
use Rattle.soundness_laws.specs.Axioms.{IsAxiomOf}
use Rattle.soundness_laws.specs.Facts.{FactsFollow}
use Rattle.soundness_laws.specs.Theories.{IsStatedIn, IsTheoryOf}

-- the text comes to this when it is checked from nothing, as the only node of a document
abbrev pub ComesTo : List ℕ → Run State → Type 0
ComesTo text run = scratch isar (one_node text) [] ≡ (0, run) ∷ []

-- each fact of the text's theory is derived from finitely many of its axioms
abbrev pub IsSound : List ℕ → Type 0
IsSound text = (run : Run State) × ComesTo text run
    × FactsFollow (IsAxiomOf run.commands) (final isar run)

-- where the text has a command, it is a theory of its node's name, and the facts of this are just
-- those that the commands state
abbrev pub IsTheory : List ℕ → Type 0
IsTheory text = (run : Run State) × ComesTo text run × (0 < length run.commands
    → IsTheoryOf (IsStatedIn (text_name text) run.commands) (final isar run))
