-- What an editor has of a part at a command, once the part was reported.
use Rattle.std.proofs.Common.{◌≡◌, ℕ, zero, suc, Bool, true, false, cond, List, [], ◌∷◌, ◌++◌, Some, None, refl, ap, sym, subst, ◌∙◌}
use Rattle.std.proofs.lemmas.Bool.{eq-eqb, or_parts}
use Rattle.std.specs.Prelude.{find, slice_get, flat_map, ◌==◌, ◌&&◌, ◌||◌, if◌then◌else◌}
use Rattle.std.specs.Option.{option_map}
use Rattle.text_words.specs.Members.{has}
use Rattle.text_words.proofs.KnownMembers.{has_both, has_left, has_right, apart}
use Rattle.text_words.proofs.KnownLists.{differ_turned}
use Rattle.std.proofs.Math.Bool.{and-false}
use Rattle.pide_base.specs.declared.part.Part.{Part}
use Rattle.doc_nodes.specs.declared.node.Entry.{Entry}
use Rattle.doc_nodes.specs.declared.node.Node.{Node}
use Rattle.doc_nodes.specs.Imports.{NodeList}
use Rattle.exec_rules.specs.Listed.{Told}
use Rattle.core_rules.specs.Assigned.{command_ids}
use Rattle.core_rules.specs.Parts.{same_part}
use Rattle.core_rules.specs.Updates.{AllDiffer}
use Rattle.core_rules.proofs.KnownCommands.{ids, command_there, differ_apart, differ_back, differ_front, id_there}
use Rattle.core_rules.proofs.KnownParts.{part_itself}
use Rattle.mirror_rules.specs.Images.{FinishedPart, Image}
use Rattle.mirror_rules.specs.Parts.{is_at, reports_at}
use Rattle.mirror_rules.specs.Reports.{PartReport, belongs_to, finished_at, finished_by, with_report}
use Rattle.mirror_rules.specs.Rows.{rows_of}
use Rattle.text_words.proofs.KnownFinds.{find_behind}
use Rattle.editor_laws.proofs.Lists.{find_before}

module _ (told : PartReport) where
  -- what is finished by a report is found for its own part alone
  pub other_part : (node : Node) (rows : List Told) (c : ℕ) (p : Part) (es : List Entry) → same_part told.part p ≡ false
      → find (is_at c p) (flat_map (finished_by told node rows) es) ≡ None
  other_part node rows c p [] other = refl
  other_part node rows c p (e ∷ es) other = go (belongs_to told node rows e) (other_part node rows c p es other)
    where
      go : (b : Bool) → find (is_at c p) (flat_map (finished_by told node rows) es) ≡ None
          → find (is_at c p) ((if b then finished_at told node e ∷ [] else []) ++ flat_map (finished_by told node rows) es) ≡ None
      go true rest = ap (λ b. cond ((e.command == c) && b) (Some (finished_at told node e)) (find (is_at c p) (flat_map (finished_by told node rows) es))) other
          ∙ ap (λ b. cond b (Some (finished_at told node e)) (find (is_at c p) (flat_map (finished_by told node rows) es))) (and-false (e.command == c)) ∙ rest
      go false rest = rest

  -- and for commands that are there
  pub other_command : (node : Node) (rows : List Told) (c : ℕ) (p : Part) (es : List Entry) → has (ids es) c ≡ false
      → find (is_at c p) (flat_map (finished_by told node rows) es) ≡ None
  other_command node rows c p [] out = refl
  other_command node rows c p (e ∷ es) out =
      let parts = or_parts (c == e.command) (has (ids es) c) out in
      go (belongs_to told node rows e) (differ_turned c e.command parts.0) (other_command node rows c p es parts.1)
    where
      go : (b : Bool) → (e.command == c) ≡ false → find (is_at c p) (flat_map (finished_by told node rows) es) ≡ None
          → find (is_at c p) ((if b then finished_at told node e ∷ [] else []) ++ flat_map (finished_by told node rows) es) ≡ None
      go true other rest = ap (λ b. cond (b && same_part told.part p) (Some (finished_at told node e)) (find (is_at c p) (flat_map (finished_by told node rows) es))) other ∙ rest
      go false other rest = rest

  -- at a command to which it belongs
  pub own_command : (node : Node) (rows : List Told) (i : ℕ) (e : Entry) (es : List Entry) → AllDiffer (ids es)
      → slice_get es i ≡ Some e → belongs_to told node rows e ≡ true
      → find (is_at e.command told.part) (flat_map (finished_by told node rows) es) ≡ Some (finished_at told node e)
  own_command node rows i e [] differ at is = absurd (cc)
  own_command node rows zero e (x ∷ es) differ at is =
      let same : x ≡ e = cc in
      subst (λ (y : Entry). find (is_at e.command told.part) ((if belongs_to told node rows y then finished_at told node y ∷ [] else [])
      ++ flat_map (finished_by told node rows) es) ≡ Some (finished_at told node e)) (sym same)
      (ap (λ b. find (is_at e.command told.part) ((if b then finished_at told node e ∷ [] else []) ++ flat_map (finished_by told node rows) es)) is
      ∙ ap (λ b. cond (b && same_part told.part told.part) (Some (finished_at told node e)) (find (is_at e.command told.part) (flat_map (finished_by told node rows) es))) (eq-eqb e.command e.command refl)
      ∙ ap (λ b. cond b (Some (finished_at told node e)) (find (is_at e.command told.part) (flat_map (finished_by told node rows) es))) (part_itself told.part))
  own_command node rows (suc i) e (x ∷ es) differ at is =
      go (belongs_to told node rows x) (apart (ids es) x.command e.command differ.0 (id_there es i e at))
      (own_command node rows i e es differ.1 at is)
    where
      go : (b : Bool) → (x.command == e.command) ≡ false
          → find (is_at e.command told.part) (flat_map (finished_by told node rows) es) ≡ Some (finished_at told node e)
          → find (is_at e.command told.part) ((if b then finished_at told node x ∷ [] else []) ++ flat_map (finished_by told node rows) es)
          ≡ Some (finished_at told node e)
      go true other rest = ap (λ b. cond (b && same_part told.part told.part) (Some (finished_at told node x)) (find (is_at e.command told.part) (flat_map (finished_by told node rows) es))) other ∙ rest
      go false other rest = rest

  module _ (im : Image) where
    abbrev node_parts : List ℕ × Node → List FinishedPart
    node_parts pair = flat_map (finished_by told pair.1 (rows_of im pair.0)) pair.1.entries

    others : (c : ℕ) (p : Part) (nodes : NodeList) → same_part told.part p ≡ false → find (is_at c p) (flat_map node_parts nodes) ≡ None
    others c p [] other = refl
    others c p (n ∷ ns) other =
        find_behind (is_at c p) (node_parts n) (flat_map node_parts ns) (other_part n.1 (rows_of im n.0) c p n.1.entries other)
        ∙ others c p ns other

    -- other parts stay as they were
    pub other_stays : (c : ℕ) (p : Part) → same_part told.part p ≡ false → reports_at (with_report told im) c p ≡ reports_at im c p
    other_stays c p other = ap (λ o. option_map (λ (f : FinishedPart). f.reports) o)
        (find_behind (is_at c p) (flat_map node_parts im.nodes) im.finished (others c p im.nodes other))

    own : (nodes : NodeList) (q i : ℕ) (pair : List ℕ × Node) (e : Entry) → AllDiffer (command_ids nodes)
        → slice_get nodes q ≡ Some pair → slice_get pair.1.entries i ≡ Some e → belongs_to told pair.1 (rows_of im pair.0) e ≡ true
        → find (is_at e.command told.part) (flat_map node_parts nodes) ≡ Some (finished_at told pair.1 e)
    own [] q i pair e differ at there is = absurd (cc)
    own (n ∷ ns) zero i pair e differ at there is =
        let same : n ≡ pair = cc in
        find_before (is_at e.command told.part) (node_parts n) (flat_map node_parts ns) (finished_at told pair.1 e)
        (subst (λ (x : List ℕ × Node). find (is_at e.command told.part) (node_parts x) ≡ Some (finished_at told pair.1 e)) (sym same)
        (own_command pair.1 (rows_of im pair.0) i e pair.1.entries
        (subst (λ (x : List ℕ × Node). AllDiffer (ids x.1.entries)) same (differ_front (ids n.1.entries) (command_ids ns) differ)) there is))
    own (n ∷ ns) (suc q) i pair e differ at there is =
        find_behind (is_at e.command told.part) (node_parts n) (flat_map node_parts ns)
        (other_command n.1 (rows_of im n.0) e.command told.part n.1.entries
        (differ_apart (ids n.1.entries) (command_ids ns) e.command differ (command_there ns q i pair e at there)))
        ∙ own ns q i pair e (differ_back (ids n.1.entries) (command_ids ns) differ) at there is

    -- the part is known at each command to which it belongs
    pub own_known : (q i : ℕ) (pair : List ℕ × Node) (e : Entry) → AllDiffer (command_ids im.nodes)
        → slice_get im.nodes q ≡ Some pair → slice_get pair.1.entries i ≡ Some e → belongs_to told pair.1 (rows_of im pair.0) e ≡ true
        → reports_at (with_report told im) e.command told.part ≡ Some (finished_at told pair.1 e).reports
    own_known q i pair e differ at there is = ap (λ o. option_map (λ (f : FinishedPart). f.reports) o)
        (find_before (is_at e.command told.part) (flat_map node_parts im.nodes) im.finished (finished_at told pair.1 e)
        (own im.nodes q i pair e differ at there is))
