-- Loops over nodes by their places.
use Rattle.std.proofs.Common.{◌≡◌, ℕ, zero, suc, ◌+◌, ◌<◌, ◌≤◌, List, [], ◌∷◌, ◌++◌, length, drop, map, Some, refl, ap, sym, subst, ◌∙◌, arith, append_assoc}
use Rattle.std.proofs.lemmas.List.{append-nil, length-append, drop_all}
use Rattle.std.specs.Prelude.{slice_get, flat_map}
use Rattle.report_markup.specs.declared.report.Report.{Report}
use Rattle.doc_nodes.specs.declared.node.Entry.{Entry}
use Rattle.doc_nodes.specs.declared.node.Node.{Node}
use Rattle.doc_nodes.specs.Imports.{NodeList}
use Rattle.core_rules.specs.Assigned.{command_ids}
use Rattle.made_document.specs.declared.tally.Tally.{Tally}
use Rattle.made_document.specs.Tallies.{IsTally}

-- a place within a list has an item, with which the rest begins
there : {A : Type 0} (xs : List A) (i : ℕ) → i < length xs → (x : A) × (slice_get xs i ≡ Some x) × (drop i xs ≡ x ∷ drop (i + 1) xs)
there [] i lt = absurd (omega arith)
there (x ∷ xs) zero lt = (x, refl, refl)
there (x ∷ xs) (suc i) lt =
    let rest = there xs i (omega (arith, lt)) in
    let one : suc (i + 1) ≡ suc i + 1 = omega arith in
    (rest.0, rest.1, rest.2 ∙ ap (λ n. rest.0 ∷ drop n (x ∷ xs)) one)

ids : (es : List Entry) → length (map (λ e. e.command) es) ≡ length es
ids [] = refl
ids (e ∷ es) = ap suc (ids es)

-- the commands of one node more
pub commands_next : (nodes : NodeList) (place count more total : ℕ) → place < length nodes
    → ((pair : List ℕ × Node) → slice_get nodes place ≡ Some pair → more ≡ count + length pair.1.entries)
    → count + length (command_ids (drop place nodes)) ≡ total
    → more + length (command_ids (drop (place + 1) nodes)) ≡ total
commands_next nodes place count more total lt more_is so =
    let at = there nodes place lt in
    let grown = more_is at.0 at.1 in
    let here : count + length (command_ids (at.0 ∷ drop (place + 1) nodes)) ≡ total = sym (ap (λ xs. count + length (command_ids xs)) at.2) ∙ so in
    omega (
      arith,
      grown,
      here,
      ids at.0.1.entries,
      length-append (map (λ (e : Entry). e.command) at.0.1.entries) (command_ids (drop (place + 1) nodes)),
    )

pub commands_over : (nodes : NodeList) (place count total : ℕ) → length nodes ≤ place
    → count + length (command_ids (drop place nodes)) ≡ total → count ≡ total
commands_over nodes place count total le so =
    let none : count + length (command_ids []) ≡ total = sym (ap (λ xs. count + length (command_ids xs)) (drop_all place nodes le)) ∙ so in
    omega (arith, none)

module _ (of : List ℕ × Node → List Report) (nodes : NodeList) where
  -- what was counted, with what is left, is all
  abbrev pub IsCountedTo : ℕ → Tally → Type 0
  IsCountedTo place tally = (so : List Report) × (so ++ flat_map of (drop place nodes) ≡ flat_map of nodes) × IsTally tally so

  pub tally_next : (place : ℕ) (old new : Tally) → place < length nodes
      → ((all : List Report) (pair : List ℕ × Node) → slice_get nodes place ≡ Some pair → IsTally old all → IsTally new (all ++ of pair))
      → IsCountedTo place old → IsCountedTo (place + 1) new
  tally_next place old new lt more so =
      let at = there nodes place lt in (
        so.0 ++ of at.0,
        append_assoc so.0 (of at.0) (flat_map of (drop (place + 1) nodes))
            ∙ sym (ap (λ xs. so.0 ++ flat_map of xs) at.2) ∙ so.1,
        more so.0 at.0 at.1 so.2,
      )

  pub tally_over : (place : ℕ) (tally : Tally) → length nodes ≤ place → IsCountedTo place tally → IsTally tally (flat_map of nodes)
  tally_over place tally le so = subst (IsTally tally) (sym (append-nil so.0)
      ∙ ap (λ xs. so.0 ++ flat_map of xs) (sym (drop_all place nodes le)) ∙ so.1) so.2
