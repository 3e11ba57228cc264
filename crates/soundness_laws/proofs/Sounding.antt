-- The commands of a text whose markup has no error have none, so its facts follow.
use Rattle.std.proofs.Common.{◌≡◌, ℕ, ◌==◌, true, List, [], ◌∷◌, find, ap, subst}
use Rattle.std.specs.List.{AllByRecursion, flat_map, zip}
use Rattle.std.specs.Option.{option_map_or}
use Rattle.doc_nodes.specs.declared.node.Entry.{Entry}
use Rattle.doc_nodes.specs.declared.node.Node.{Node}
use Rattle.doc_nodes.specs.Aliases.{aliases_at}
use Rattle.doc_nodes.specs.Imports.{NodeList}
use Rattle.buffer_rules.specs.Nodes.{before_in, cut, uncut_all}
use Rattle.exec_rules.specs.Kept.{BlobList}
use Rattle.core_rules.specs.Settings.{Setting, state_behind}
use Rattle.core_rules.specs.Scratch.{Run, Runs, begins_at, final, run_all, run_from, run_node, scratch, scratch_at, set_in}
use Rattle.isar_rules.specs.declared.state.State.{State}
use Rattle.isar_rules.specs.Isar.{isar}
use Rattle.isar_rules.specs.Kept.{errors_in}
use Rattle.text_check.specs.OneText.{entries_of, markup_of, text_name, one_node, one_sheet, reported}
use Rattle.soundness_laws.specs.Axioms.{IsAxiomOf}
use Rattle.soundness_laws.specs.Clean.{AreClean, told_reports}
use Rattle.soundness_laws.specs.Facts.{FactsFollow}
use Rattle.text_check.proofs.KnownOneNode.{order_one}
use Rattle.soundness_laws.specs.Sound.{IsSound}
use Rattle.soundness_laws.proofs.KnownFine.{AreFine, behind, fine, front, unmoved, unordered, without_errors}

-- a node alone rests on its own axioms
abbrev pub RestsOnItself : ℕ × Run State → Type 0
RestsOnItself one = AreClean one.1.commands → FactsFollow (IsAxiomOf one.1.commands) (final isar one.1)

abbrev pub Alone : Type 0
Alone = (name : List ℕ) (node : Node) (blobs : BlobList)
    → AllByRecursion RestsOnItself (scratch isar ((name, node) ∷ []) blobs)

-- where commands tell no error, none of them does
commands_clean : (node : Node) (es : List Entry) (state : State)
    → AreFine (flat_map (reported isar) (zip es (run_from isar node [] es state)))
    → AreClean (run_from isar node [] es state)
commands_clean node [] state f = tt
commands_clean node (e ∷ es) state f =
    let s = set_in node [] e state in
    let others = flat_map (reported isar) (zip es (run_from isar node [] es (state_behind isar s))) in (
      without_errors (told_reports s) (unmoved e.range.start (told_reports s) (front (reported
          isar (e, s)) others f)),
      commands_clean node es (state_behind isar s) (behind (reported isar (e, s)) others f),
    )

module _ (name : List ℕ) (node : Node) where
  abbrev nodes : NodeList
  nodes = (name, node) ∷ []

  -- the only run
  abbrev pub run : Run State
  run = run_node isar node [] (begins_at isar nodes [] 0 (name, node))

  pub only : scratch isar nodes [] ≡ (0, run) ∷ []
  only = ap (λ ps. run_all isar nodes [] ps []) (order_one name node)

  abbrev commands_in : Runs State → List (Setting State)
  commands_in runs = option_map_or (λ one. one.1.commands) (find (λ one. one.0 == 0) runs) []

  pub commands_are : scratch_at isar nodes [] 0 ≡ run.commands
  commands_are = ap commands_in only

  pub clean : AreFine (flat_map (reported isar) (zip node.entries (commands_in (scratch isar nodes [])))) → AreClean run.commands
  clean f = commands_clean node node.entries run.begins
      (subst (λ runs. AreFine (flat_map (reported isar) (zip node.entries (commands_in runs)))) only f)

  module _ (alone : Alone) where
    follows : AreFine (flat_map (reported isar) (zip node.entries (commands_in (scratch isar nodes []))))
        → FactsFollow (IsAxiomOf run.commands) (final isar run)
    follows f = (subst (AllByRecursion RestsOnItself) only (alone name node [])).0 (clean f)

    pub sound : AreFine (flat_map (reported isar) (zip node.entries (commands_in (scratch isar nodes []))))
        → (r : Run State) × (scratch isar nodes [] ≡ (0, r) ∷ []) × FactsFollow (IsAxiomOf r.commands) (final isar r)
    sound f = (run, only, follows f)

-- the only node of a text
abbrev pub node_of : List ℕ → Node
node_of text = cut (record { text = text; required = true; ranges = [] })
    (aliases_at (uncut_all (one_sheet text)) 0).pairs (before_in [] (text_name text)) 1

-- its commands report no error
pub text_fine : (text : List ℕ) → errors_in (markup_of isar text) ≡ []
    → AreFine (flat_map (reported isar) (zip (entries_of (one_node text)) (scratch_at isar (one_node text) [] 0)))
text_fine text e = unordered (flat_map (reported isar) (zip (entries_of (one_node text)) (scratch_at isar (one_node text) [] 0)))
    (fine (markup_of isar text) e)

pub sound_text : Alone → (text : List ℕ) → errors_in (markup_of isar text) ≡ [] → IsSound text
sound_text alone text e = sound (text_name text) (node_of text) alone (text_fine text e)
