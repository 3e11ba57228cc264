-- What the nodes of a document come to from nothing, by its sheets: the ids of commands don't count.
use Rattle.std.proofs.Common.{◌≡◌, ℕ, ◌==◌, Bool, true, false, ◌||◌, cond, List, [], ◌∷◌, ◌++◌, length, find, slice_get, Option, Some, None, refl, sym, ap, ap₂, ◌∙◌}
use Rattle.std.specs.Option.{option_map_or}
use Rattle.std.proofs.lemmas.Bool.{eqb-true, eq-eqb, false≢true}
use Rattle.text_words.specs.Members.{has}
use Rattle.doc_nodes.specs.Needs.{AliasList}
use Rattle.doc_nodes.specs.declared.node.Node.{Node}
use Rattle.doc_nodes.specs.Imports.{NodeList, order}
use Rattle.exec_rules.specs.Kept.{BlobList}
use Rattle.core_rules.specs.Scratch.{Run, Runs, begins_at, run_all, run_node, run_one, scratch}
use Rattle.buffer_rules.specs.declared.sheet.Sheet.{Sheet}
use Rattle.buffer_rules.specs.Nodes.{cut, sources, uncut, uncut_all}
use Rattle.buffer_rules.specs.Numbers.{Command, ids_of}
use Rattle.buffer_rules.specs.Sheets.{SheetList}
use Rattle.isar_rules.specs.declared.state.State.{State}
use Rattle.isar_rules.specs.Isar.{isar}
use Rattle.isar_rules.specs.Starts.{start_state}
use Rattle.soundness_laws.proofs.CutNodes.{AreCut, Cuts, aliases_in, cut_heads, cuts_at}
use Rattle.soundness_laws.proofs.CutRuns.{commands_are}
use Rattle.soundness_laws.proofs.HeadRuns.{imports_same}
use Rattle.soundness_laws.proofs.SameAliases.{SameHeads, order_same, same_at}

abbrev pub One : Type 0
One = ℕ × Run State

-- how many ids commands have
abbrev pub Counted : Type 0
Counted = (before : List Command) (now : List (List ℕ)) (next : ℕ) → length (ids_of before now next) ≡ length now

module _ (counted : Counted) (blobs : BlobList) where
  -- ids don't count
  pub same_ids : (sheet : Sheet) (aliases : AliasList) (before : List Command) (next : ℕ) (state : State)
      → run_node isar (cut sheet aliases before next) blobs state ≡ run_node isar (cut sheet aliases [] 0) blobs state
  same_ids sheet aliases before next state = ap (λ commands. record { begins = state; commands = commands })
      (commands_are sheet aliases before next blobs state (counted before (sources sheet aliases) next)
      ∙ sym (commands_are sheet aliases [] 0 blobs state (counted [] (sources sheet aliases) 0)))

  module _ (sheets : SheetList) where
    -- how the sheet at a place begins, and what it comes to
    abbrev pub begins_in : Runs State → ℕ → List ℕ × Sheet → State
    begins_in runs q x = begins_at isar (uncut_all sheets) runs q (x.0, uncut x.1)

    abbrev pub run_in : Runs State → ℕ → List ℕ × Sheet → Run State
    run_in runs q x = run_node isar (cut x.1 (aliases_in sheets q) [] 0) blobs (begins_in runs q x)

    abbrev pub one_in : Runs State → ℕ → Option (List ℕ × Sheet) → Runs State
    one_in runs q o = option_map_or (λ x. (q, run_in runs q x) ∷ runs) o runs

    abbrev pub all_in : List ℕ → Runs State → Runs State
    all_in [] runs = runs
    all_in (q ∷ qs) runs = all_in qs (one_in runs q (slice_get sheets q))

    module _ (nodes : NodeList) (are_cut : AreCut (aliases_in sheets) 0 sheets nodes) where
      heads : SameHeads (uncut_all sheets) nodes
      heads = cut_heads (aliases_in sheets) 0 sheets nodes are_cut

      begins_same : (runs : Runs State) (q : ℕ) (x : List ℕ × Sheet) (before : List Command) (next : ℕ)
          → begins_at isar nodes runs q (x.0, cut x.1 (aliases_in sheets q) before next) ≡ begins_in runs q x
      begins_same runs q x before next = sym (ap₂ (start_state x.0) (imports_same (uncut_all sheets) nodes heads runs (uncut x.1).imports) (same_at (uncut_all sheets) nodes heads q))

      run_same : (runs : Runs State) (q : ℕ) (x : List ℕ × Sheet) (before : List Command) (next : ℕ)
          → run_node isar (cut x.1 (aliases_in sheets q) before next) blobs (begins_at isar nodes runs q (x.0, cut x.1 (aliases_in sheets q) before next)) ≡ run_in runs q x
      run_same runs q x before next =
          ap (run_node isar (cut x.1 (aliases_in sheets q) before next) blobs) (begins_same runs q x before next)
          ∙ same_ids x.1 (aliases_in sheets q) before next (begins_in runs q x)

      one_same : (runs : Runs State) (q : ℕ) → run_one isar nodes blobs runs q ≡ one_in runs q (slice_get sheets q)
      one_same runs q = go (slice_get sheets q) (slice_get nodes q) (cuts_at (aliases_in sheets) sheets nodes are_cut q)
        where
          go : (o : Option (List ℕ × Sheet)) (m : Option (List ℕ × Node)) → Cuts (aliases_in sheets q) o m
              → option_map_or (λ (pair : List ℕ × Node). (q, run_node isar pair.1 blobs (begins_at isar nodes runs q pair)) ∷ runs) m runs ≡ one_in runs q o
          go None None c = refl
          go None (Some n) c = absurd c
          go (Some x) None c = absurd c
          go (Some x) (Some n) c =
              ap₂ (λ (name : List ℕ) (node : Node). (q, run_node isar node blobs (begins_at isar nodes runs q (name, node))) ∷ runs) c.0 c.1.is
              ∙ ap (λ run. (q, run) ∷ runs) (run_same runs q x c.1.before c.1.next)

      all_same : (qs : List ℕ) (runs : Runs State) → run_all isar nodes blobs qs runs ≡ all_in qs runs
      all_same [] runs = refl
      all_same (q ∷ qs) runs = ap (run_all isar nodes blobs qs) (one_same runs q) ∙ all_same qs (one_in runs q (slice_get sheets q))

      -- all of the document
      pub scratch_is : scratch isar nodes blobs ≡ all_in (order (uncut_all sheets)) []
      scratch_is = ap (λ qs. run_all isar nodes blobs qs []) (sym (order_same (uncut_all sheets) nodes heads)) ∙ all_same (order (uncut_all sheets)) []

    pub all_both : (qs rs : List ℕ) (runs : Runs State) → all_in (qs ++ rs) runs ≡ all_in rs (all_in qs runs)
    all_both [] rs runs = refl
    all_both (q ∷ qs) rs runs = all_both qs rs (one_in runs q (slice_get sheets q))

    -- what is found at a place stays, once it is done
    stays : (p : ℕ) (qs : List ℕ) (runs : Runs State) → has qs p ≡ false → find (λ (o : One). o.0 == p) (all_in qs runs) ≡ find (λ (o : One). o.0 == p) runs
    stays p [] runs none = refl
    stays p (q ∷ qs) runs none = stays p qs (one_in runs q (slice_get sheets q)) (rest (p == q) refl none) ∙ one (slice_get sheets q)
      where
        rest : (b : Bool) → (p == q) ≡ b → (b || has qs p) ≡ false → has qs p ≡ false
        rest true e none = absurd (false≢true (sym none))
        rest false e none = none

        other : (b : Bool) → (q == p) ≡ b → (c : Bool) → (p == q) ≡ c → (c || has qs p) ≡ false → b ≡ false
        other false e c f none = refl
        other true e true f none = absurd (false≢true (sym none))
        other true e false f none = absurd (false≢true (sym f ∙ eq-eqb p q (sym (eqb-true q p e))))

        one : (o : Option (List ℕ × Sheet)) → find (λ (x : One). x.0 == p) (one_in runs q o) ≡ find (λ (x : One). x.0 == p) runs
        one None = refl
        one (Some x) = ap (λ b. cond b (Some (q, run_in runs q x)) (find (λ (y : One). y.0 == p) runs)) (other (q == p) refl (p == q) refl none)

    -- the run of the sheet at a place
    pub found_in : (front rest : List ℕ) (p : ℕ) (x : List ℕ × Sheet) → has rest p ≡ false → slice_get sheets p ≡ Some x
        → find (λ (o : One). o.0 == p) (all_in (front ++ p ∷ rest) []) ≡ Some (p, run_in (all_in front []) p x)
    found_in front rest p x none at =
        ap (find (λ (o : One). o.0 == p)) (all_both front (p ∷ rest) [])
        ∙ stays p rest (one_in (all_in front []) p (slice_get sheets p)) none
        ∙ ap (λ o. find (λ (y : One). y.0 == p) (one_in (all_in front []) p o)) at
        ∙ ap (λ b. cond b (Some (p, run_in (all_in front []) p x)) (find (λ (y : One). y.0 == p) (all_in front []))) (eq-eqb p p refl)
