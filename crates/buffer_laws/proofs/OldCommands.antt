-- Each command of a node is new, or one that the node had.
use Rattle.std.proofs.Common.{inl, inr, ℕ, zero, suc, ◌+◌, ◌-◌, ◌≤◌, List, [], ◌∷◌, ◌++◌, length, map, take, drop, sym, subst, ◌∙◌, arith}
use Rattle.std.proofs.lemmas.List.{take-append-drop}
use Rattle.std.specs.List.{zip, range_with_len, AllByRecursion}
use Rattle.text_words.proofs.KnownLists.{each-both, each-part, each-placed}
use Rattle.doc_nodes.specs.Imports.{NodeList}
use Rattle.doc_nodes.specs.Aliases.{aliases_at}
use Rattle.doc_nodes.specs.Needs.{AliasList}
use Rattle.buffer_rules.specs.declared.sheet.Sheet.{Sheet}
use Rattle.buffer_rules.specs.Cuts.{commands_of}
use Rattle.buffer_rules.specs.Numbers.{Command, kept_runs, ids_of, new_count, IsLongestKept}
use Rattle.buffer_rules.specs.Sheets.{SheetList}
use Rattle.buffer_rules.specs.Nodes.{ranges_in, sources, before_in, cut, nodes_from}
use Rattle.buffer_laws.specs.Known.{IsNewOr, AreKnown}
use Rattle.buffer_laws.proofs.CommandLists.{k, fresh, new, made}
use Rattle.buffer_laws.proofs.AllNodes.{commands_made}

-- numbers from one on are no smaller
new_each : (first n m : ℕ) (before : List Command) (now : List (List ℕ)) → first ≤ n
    → AllByRecursion (IsNewOr first before) (zip (range_with_len n m) now)
new_each first n zero before now le = tt
new_each first n (suc m) before [] le = tt
new_each first n (suc m) before (x ∷ now) le = (inl le, new_each first (n + 1) m before now (omega (arith, le)))

module _ (kept_so : (before now : List (List ℕ)) → IsLongestKept before now (kept_runs before now)) (tip all : NodeList) (first : ℕ) where
  known_node : (sheet : Sheet) (aliases : AliasList) (before : List Command) (next : ℕ) → first ≤ next
      → AllByRecursion (IsNewOr first before) (commands_of (cut sheet aliases before next))
  known_node sheet aliases before next le =
      let now = sources sheet aliases in
      let so = kept_so (map (λ c. c.1) before) now in
      let old : AllByRecursion (IsNewOr first before) before = each-placed (IsNewOr first before) before (λ i c at. inr (i, at)) in
      let front = k before now next so in
      let fronts : AllByRecursion (IsNewOr first before) (take front.front before) =
      (each-part (IsNewOr first before) (take front.front before) (drop front.front before)
      (subst (AllByRecursion (IsNewOr first before)) (sym (take-append-drop front.front before)) old)).0 in
      let place = length before - front.back in
      let backs : AllByRecursion (IsNewOr first before) (drop place before) =
      (each-part (IsNewOr first before) (take place before) (drop place before)
      (subst (AllByRecursion (IsNewOr first before)) (sym (take-append-drop place before)) old)).1 in
      let middles : AllByRecursion (IsNewOr first before) (new before now next so) =
      new_each first next (fresh before now next so) before (take (fresh before now next so) (drop front.front now)) le in
      subst (AllByRecursion (IsNewOr first before))
      (sym (commands_made sheet aliases (ids_of before now next) (ranges_in sheet aliases) ∙ made before now next so))
      (each-both (IsNewOr first before) (take front.front before ++ new before now next so) (drop place before)
      (each-both (IsNewOr first before) (take front.front before) (new before now next so) fronts middles) backs)

  -- each command is new, or one that the node had
  pub known : (p : ℕ) (pairs : SheetList) (next : ℕ) → first ≤ next → AreKnown tip first (nodes_from tip all p pairs next).nodes
  known p [] next le = tt
  known p (pair ∷ pairs) next le =
      let before = before_in tip pair.0 in
      let now = sources pair.1 (aliases_at all p).pairs in
      (known_node pair.1 (aliases_at all p).pairs before next le, known (p + 1) pairs (next + new_count before now) (omega (arith, le)))
