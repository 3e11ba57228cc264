-- Batch after batch, until all nodes are done.
use Rattle.std.proofs.Common.{◌≡◌, ℕ, suc, ◌+◌, ◌<◌, ◌≤◌, true, List, [], ◌∷◌, ◌++◌, length, map, find, get_or, take, drop, All, Option, Some, None, IsPermutation, ap₂, append-nil, refl, sym, ap, subst, ◌∙◌, arith}
use Rattle.std.specs.Prelude.{◌↔◌, ◌==◌, option_and_then, slice_get}
use Rattle.std.specs.Option.{option_map, option_map_or}
use Rattle.std.specs.List.{concat, cons_option, filter_map}
use Rattle.std.proofs.Math.Seq.{drop-cons}
use Rattle.std.proofs.lemmas.List.{drop_all, take_all, take_more, take-append-drop}
use Rattle.std.proofs.lemmas.List.Folds.{concat-append}
use Rattle.text_words.specs.Members.{has}
use Rattle.text_words.proofs.KnownMembers.{has_at, has_itself, has_left, has_right, has_tail}
use Rattle.doc_nodes.specs.declared.node.Node.{Node}
use Rattle.doc_nodes.specs.Imports.{NodeList, order}
use Rattle.language.specs.Lang.{Lang}
use Rattle.core_rules.specs.Scratch.{Run, Runs, scratch}
use Rattle.pide_build.specs.declared.telling.BuiltNode.{BuiltNode}
use Rattle.report_markup.specs.Sorting.{ordered_reports}
use Rattle.node_check.specs.Nodes.{reports_of}
use Rattle.pide_build.specs.Running.{run_batch, run_batches}
use Rattle.pide_build.specs.declared.progress.Progress.{Progress}
use Rattle.pide_build.specs.Built.{built_at, built_of}
use Rattle.pide_build.specs.Standing.{Keeps, built_there}
use Rattle.pide_build.proofs.AllDone.{all_done}

-- the next batch stands before those that are left
next : (batches : List (List ℕ)) (i : ℕ) → i < length batches → drop i batches ≡ get_or batches i [] ∷ drop (i + 1) batches
next batches i lt = let one : suc i ≡ i + 1 = omega arith in drop-cons batches i [] lt ∙ ap (λ n. get_or batches i [] ∷ drop n batches) one

-- it is behind those before it
so_far : (batches : List (List ℕ)) (i : ℕ) → i < length batches
    → concat (take (i + 1) batches) ≡ concat (take i batches) ++ get_or batches i []
so_far batches i lt =
    ap concat (take_more batches i [] lt) ∙ concat-append (take i batches) (get_or batches i [] ∷ [])
    ∙ ap (λ xs. concat (take i batches) ++ xs) (append-nil (get_or batches i []))

-- its places are those of nodes
pub within_batch : (n : ℕ) (all : List ℕ) (batches : List (List ℕ)) (i : ℕ) → concat batches ≡ all
    → ((p : ℕ) → (has all p ≡ true) ↔ (p < n)) → i < length batches → All (λ p. p < n) (get_or batches i [])
within_batch n all batches i join every lt k d few =
    let batch = get_or batches i [] in let p = get_or batch k d in
    let parts : batches ≡ take i batches ++ batch ∷ drop (i + 1) batches =
    sym (take-append-drop i batches) ∙ ap (λ xs. take i batches ++ xs) (next batches i lt) in
    let whole : all ≡ concat (take i batches) ++ (batch ++ concat (drop (i + 1) batches)) =
    sym join ∙ ap concat parts ∙ concat-append (take i batches) (batch ∷ drop (i + 1) batches) in
    (every p).0 (ap (λ xs. has xs p) whole
    ∙ has_right (concat (take i batches)) (batch ++ concat (drop (i + 1) batches)) p
    (has_left batch (concat (drop (i + 1) batches)) p (has_at batch k d few)))

module _ {S M : Type 0} (l : Lang S) (told : BuiltNode → M) (nodes : NodeList) (batches : List (List ℕ)) where
  -- so many batches are done
  abbrev pub AreDone : ℕ → Progress M S → List ℕ → Type 0
  AreDone i kept taken = (runs : Runs S) × Keeps l told nodes runs kept
      × (run_batches l nodes [] (drop i batches) runs ≡ run_batches l nodes [] batches [])
      × IsPermutation (concat (take i batches)) taken

  pub one_batch : (i : ℕ) (batch : List ℕ) (kept kept' : Progress M S) (taken taken' : List ℕ) → i < length batches → batch ≡ get_or batches i []
      → ((runs : Runs S) → Keeps l told nodes runs kept → Keeps l told nodes (run_batch l nodes [] runs batch runs) kept')
      → ((done : List ℕ) → IsPermutation done taken → IsPermutation (done ++ batch) taken')
      → AreDone i kept taken → AreDone (i + 1) kept' taken'
  one_batch i batch kept kept' taken taken' lt is keeps once (runs, now, same, before) = (
    run_batch l nodes [] runs batch runs,
    keeps runs now,
    ap (λ b. run_batches l nodes [] (drop (i + 1) batches) (run_batch l nodes [] runs b runs)) is
        ∙ ap (λ bs. run_batches l nodes [] bs runs) (sym (next batches i lt)) ∙ same,
    subst (λ xs. IsPermutation xs taken') (ap (λ b. concat (take i batches) ++ b) is ∙ sym (so_far batches i lt)) (once (concat (take i batches)) before),
  )

  -- when all are, what is kept is that of the document checked from nothing
  pub all_kept : (i : ℕ) (kept : Progress M S) (taken : List ℕ) → length batches ≤ i → run_batches l nodes [] batches [] ≡ scratch l nodes []
      → AreDone i kept taken → Keeps l told nodes (scratch l nodes []) kept
  all_kept i kept taken past is (runs, now, same, once) =
      subst (λ rs. Keeps l told nodes rs kept) (ap (λ bs. run_batches l nodes [] bs runs) (sym (drop_all i batches past)) ∙ same ∙ is) now

  pub all_taken : (i : ℕ) (kept : Progress M S) (taken : List ℕ) → length batches ≤ i → concat batches ≡ order nodes
      → AreDone i kept taken → IsPermutation (order nodes) taken
  all_taken i kept taken past join (runs, now, same, once) =
      subst (λ xs. IsPermutation xs taken) (ap concat (take_all i batches past) ∙ join) once

  -- and so is what is gathered of it
  pub are_built : (kept : Progress M S) → Keeps l told nodes (scratch l nodes []) kept → ((p : ℕ) → has (order nodes) p ≡ true → p < length nodes)
      → filter_map (λ p. get_or kept.told.items p None) (order nodes) ≡ map told (built_of l nodes)
  are_built kept keeps within = each (order nodes) (λ p here. here)
    where
      reported : ℕ → Option (ℕ × Run S) → Option BuiltNode
      reported p o = option_map (λ pair. record {
        node = pair.0;
        reports = ordered_reports (reports_of l pair.1.entries (option_map_or (λ one.
            one.1.commands) o []));
      }) (slice_get nodes p)

      told_all : (o : Option BuiltNode) (all : List BuiltNode) → cons_option (option_map told o) (map told all) ≡ map told (cons_option o all)
      told_all None all = refl
      told_all (Some built) all = refl

      at : (p : ℕ) → has (order nodes) p ≡ true → get_or kept.told.items p None ≡ option_map told (built_at l nodes p)
      at p here =
          let done = all_done l nodes (order nodes) p [] here (within p here) in
          keeps.told_is p ∙ ap (λ o. option_map told (option_and_then (built_there l nodes) o)) done.1
          ∙ ap (λ o. option_map told (reported p o)) (sym done.1)

      each : (ps : List ℕ) → ((p : ℕ) → has ps p ≡ true → has (order nodes) p ≡ true)
          → filter_map (λ p. get_or kept.told.items p None) ps ≡ map told (filter_map (built_at l nodes) ps)
      each [] all = refl
      each (p ∷ ps) all =
          ap₂ cons_option (at p (all p (has_itself ps p))) (each ps (λ q h. all q (has_tail p q ps h)))
          ∙ told_all (built_at l nodes p) (filter_map (built_at l nodes) ps)
