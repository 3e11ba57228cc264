-- What an image has of a part at a command, once the part was reported.
use Rattle.std.proofs.Common.{◌≡◌, ℕ, zero, suc, Bool, true, false, cond, List, [], ◌∷◌, Some, None, refl, ap, sym, subst, ◌∙◌}
use Rattle.std.proofs.lemmas.Bool.{or_parts}
use Rattle.std.specs.Prelude.{find, slice_get, flat_map, ◌==◌, ◌&&◌, if◌then◌else◌}
use Rattle.std.specs.Option.{option_map, option_or}
use Rattle.text_words.specs.Members.{has}
use Rattle.text_words.proofs.KnownMembers.{apart, has_both, has_itself, has_tail, has_left, has_right}
use Rattle.text_words.proofs.KnownLists.{differ_turned}
use Rattle.text_words.proofs.KnownFinds.{find_behind}
use Rattle.std.proofs.lemmas.List.Folds.{find-append}
use Rattle.pide_base.specs.declared.part.Part.{Part}
use Rattle.doc_nodes.specs.declared.node.Entry.{Entry}
use Rattle.doc_nodes.specs.declared.node.Node.{Node}
use Rattle.doc_nodes.specs.Imports.{NodeList}
use Rattle.exec_rules.specs.Listed.{Told}
use Rattle.core_rules.specs.Assigned.{command_ids}
use Rattle.core_rules.specs.Parts.{same_part}
use Rattle.core_rules.specs.Updates.{AllDiffer}
use Rattle.core_rules.proofs.KnownCommands.{ids, id_there, command_there, differ_apart, differ_back, differ_front}
use Rattle.mirror_rules.specs.Images.{FinishedPart, Image}
use Rattle.mirror_rules.specs.Parts.{is_at, reports_at}
use Rattle.mirror_rules.specs.Reports.{PartReport, belongs_to, finished_at, finished_by, with_report}
use Rattle.mirror_rules.specs.Rows.{rows_of}
use Rattle.pide_mirror.specs.Places.{StandsAt}
use Rattle.pide_mirror.proofs.Finding.{find_before, differ_behind}

module _ (told : PartReport) (c : ℕ) (p : Part) where
  module _ (node : Node) (rows : List Told) where
    -- what is finished at one command is found for no other
    other_one : (e : Entry) → (e.command == c) ≡ false → find (is_at c p) (finished_by told node rows e) ≡ None
    other_one e other = go (belongs_to told node rows e)
      where
        go : (b : Bool) → find (is_at c p) (if b then finished_at told node e ∷ [] else []) ≡ None
        go true = ap (λ b. cond (b && same_part told.part p) (Some (finished_at told node e)) None) other
        go false = refl

    pub others : (es : List Entry) → has (ids es) c ≡ false → find (is_at c p) (flat_map (finished_by told node rows) es) ≡ None
    others [] out = refl
    others (e ∷ es) out =
        let parts = or_parts (c == e.command) (has (ids es) c) out in
        find_behind (is_at c p) (finished_by told node rows e) (flat_map (finished_by told node rows) es) (other_one e (differ_turned c e.command parts.0))
        ∙ others es parts.1

    pub own_one : (i : ℕ) (e : Entry) (es : List Entry) → AllDiffer (ids es) → slice_get es i ≡ Some e → e.command ≡ c
        → find (is_at c p) (flat_map (finished_by told node rows) es) ≡ find (is_at c p) (finished_by told node rows e)
    own_one i e [] differ at is = absurd (cc)
    own_one zero e (x ∷ es) differ at is =
        let same : x ≡ e = cc in
        find_before (is_at c p) (finished_by told node rows x) (flat_map (finished_by told node rows) es)
        (others es (ap (λ d. has (ids es) d) (sym is ∙ ap (λ (y : Entry). y.command) (sym same)) ∙ differ.0))
        ∙ ap (λ y. find (is_at c p) (finished_by told node rows y)) same
    own_one (suc i) e (x ∷ es) differ at is =
        find_behind (is_at c p) (finished_by told node rows x) (flat_map (finished_by told node rows) es)
        (other_one x (apart (ids es) x.command c differ.0 (ap (λ d. has (ids es) d) (sym is) ∙ id_there es i e at)))
        ∙ own_one i e es differ.1 at is

  module _ (im : Image) where
    abbrev node_finished : List ℕ × Node → List FinishedPart
    node_finished pair = flat_map (finished_by told pair.1 (rows_of im pair.0)) pair.1.entries

    other_nodes : (nodes : NodeList) → has (command_ids nodes) c ≡ false → find (is_at c p) (flat_map node_finished nodes) ≡ None
    other_nodes [] out = refl
    other_nodes (n ∷ ns) out =
        let parts = or_parts (has (ids n.1.entries) c) (has (command_ids ns) c) (sym (has_both (ids n.1.entries) (command_ids ns) c) ∙ out) in
        find_behind (is_at c p) (node_finished n) (flat_map node_finished ns) (others n.1 (rows_of im n.0) n.1.entries parts.0)
        ∙ other_nodes ns parts.1

    own_node : (nodes : NodeList) (q i : ℕ) (pair : List ℕ × Node) (e : Entry) → AllDiffer (command_ids nodes)
        → slice_get nodes q ≡ Some pair → slice_get pair.1.entries i ≡ Some e → e.command ≡ c
        → find (is_at c p) (flat_map node_finished nodes) ≡ find (is_at c p) (finished_by told pair.1 (rows_of im pair.0) e)
    own_node [] q i pair e differ at there is = absurd (cc)
    own_node (n ∷ ns) zero i pair e differ at there is =
        let same : n ≡ pair = cc in
        let here : has (ids n.1.entries) c ≡ true
        = subst (λ (x : List ℕ × Node). has (ids x.1.entries) c ≡ true) (sym same) (ap (λ d. has (ids pair.1.entries) d) (sym is) ∙ id_there pair.1.entries i e there) in
        find_before (is_at c p) (node_finished n) (flat_map node_finished ns)
        (other_nodes ns (differ_behind (ids n.1.entries) (command_ids ns) c differ here))
        ∙ ap (λ x. find (is_at c p) (node_finished x)) same
        ∙ own_one pair.1 (rows_of im pair.0) i e pair.1.entries
        (subst (λ (x : List ℕ × Node). AllDiffer (ids x.1.entries)) same (differ_front (ids n.1.entries) (command_ids ns) differ)) there is
    own_node (n ∷ ns) (suc q) i pair e differ at there is =
        find_behind (is_at c p) (node_finished n) (flat_map node_finished ns)
        (others n.1 (rows_of im n.0) n.1.entries
        (differ_apart (ids n.1.entries) (command_ids ns) c differ (ap (λ d. has (command_ids ns) d) (sym is) ∙ command_there ns q i pair e at there)))
        ∙ own_node ns q i pair e (differ_back (ids n.1.entries) (command_ids ns) differ) at there is

    -- a command's part has what is finished at the command by the report, or what it had
    pub reports_then : (pair : List ℕ × Node) (e : Entry) → AllDiffer (command_ids im.nodes) → StandsAt im.nodes pair e → e.command ≡ c
        → reports_at (with_report told im) c p
        ≡ option_map (λ (f : FinishedPart). f.reports) (option_or (find (is_at c p) (finished_by told pair.1 (rows_of im pair.0) e)) (find (is_at c p) im.finished))
    reports_then pair e differ s is = ap (λ o. option_map (λ (f : FinishedPart). f.reports) o)
        (find-append (is_at c p) (flat_map node_finished im.nodes) im.finished
        ∙ ap (λ o. option_or o (find (is_at c p) im.finished)) (own_node im.nodes s.node s.at pair e differ s.node_is s.entry_is is))
