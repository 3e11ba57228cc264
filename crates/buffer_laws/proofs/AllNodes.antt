-- The commands of all nodes that an update makes.
use Rattle.std.proofs.Common.{◌≡◌, ◌⊎◌, inl, inr, ℕ, ◌+◌, ◌-◌, ◌<◌, ◌≤◌, true, List, [], ◌∷◌, length, map, refl, sym, ap, subst, ◌∙◌, ⊎_elim, arith}
use Rattle.std.proofs.lemmas.Bool.{false≢true}
use Rattle.std.proofs.lemmas.Slice.Zip.{firsts-zip}
use Rattle.std.specs.declared.cmp.Ordering.TheVariants.{Less}
use Rattle.std.specs.List.{zip}
use Rattle.text_words.specs.Members.{has}
use Rattle.pide_base.specs.declared.range.Range.{Range}
use Rattle.shared_map.specs.Pairs.{IsSorted, Each}
use Rattle.doc_nodes.specs.Names.{in_order}
use Rattle.doc_nodes.specs.Imports.{NodeList}
use Rattle.doc_nodes.specs.Aliases.{aliases_at}
use Rattle.doc_nodes.specs.Needs.{AliasList}
use Rattle.core_rules.specs.Assigned.{command_ids}
use Rattle.core_rules.specs.Updates.{AllDiffer}
use Rattle.buffer_rules.specs.declared.sheet.Sheet.{Sheet}
use Rattle.buffer_rules.specs.Cuts.{source}
use Rattle.buffer_rules.specs.Numbers.{Command, kept_runs, ids_of, new_count, IsLongestKept, IsNumbered}
use Rattle.buffer_rules.specs.Sheets.{SheetList}
use Rattle.buffer_rules.specs.Nodes.{entry, ranges_in, sources, before_in, cut, nodes_from}
use Rattle.buffer_laws.specs.Known.{AreBelow}
use Rattle.buffer_laws.proofs.CommandLists.{fresh, new}
use Rattle.buffer_laws.proofs.Members.{has_cases, differ_join, below_of, all_below}
use Rattle.buffer_laws.proofs.OneNode.{origin, once}
use Rattle.buffer_laws.proofs.Owners.{ids_before, ids_of_node, own_differ, among, Owns, smaller_apart}

-- the nodes have the sheets' names
pub names : (tip all : NodeList) (p : ℕ) (pairs : SheetList) (next : ℕ)
    → map (λ pair. pair.0) (nodes_from tip all p pairs next).nodes ≡ map (λ pair. pair.0) pairs
names tip all p [] next = refl
names tip all p (pair ∷ pairs) next = ap (λ xs. pair.0 ∷ xs)
    (names tip all (p + 1) pairs (next + new_count (before_in tip pair.0) (sources pair.1 (aliases_at all p).pairs)))

-- the commands of a node, as it is cut
pub commands_made : (sheet : Sheet) (aliases : AliasList) (ids : List ℕ) (ranges : List Range)
    → map (λ e. (e.command, source sheet.text e.range)) (map (entry sheet aliases) (zip ids ranges)) ≡ zip ids (map (source sheet.text) ranges)
commands_made sheet aliases [] ranges = refl
commands_made sheet aliases (i ∷ ids) [] = refl
commands_made sheet aliases (i ∷ ids) (r ∷ ranges) = ap (λ xs. (i, source sheet.text r) ∷ xs) (commands_made sheet aliases ids ranges)

module _ (kept_so : (before now : List (List ℕ)) → IsLongestKept before now (kept_runs before now))
    (ids_so : (before : List Command) (now : List (List ℕ)) (next : ℕ) → IsNumbered
    (kept_runs (map (λ c. c.1) before) now) (map (λ c. c.0) before) (length now) next
    (ids_of before now next)) where
  abbrev so : (before : List Command) (now : List (List ℕ)) → IsLongestKept (map (λ c. c.1) before) now (kept_runs (map (λ c. c.1) before) now)
  so before now = kept_so (map (λ c. c.1) before) now

  -- the ids of a node, as it is cut
  ids_made : (sheet : Sheet) (aliases : AliasList) (before : List Command) (next : ℕ)
      → map (λ e. e.command) (cut sheet aliases before next).entries ≡ ids_of before (sources sheet aliases) next
  ids_made sheet aliases before next =
      let now = sources sheet aliases in
      sym (ids_of_node (cut sheet aliases before next))
      ∙ ap (map (λ c. c.0)) (commands_made sheet aliases (ids_of before now next) (ranges_in sheet aliases))
      ∙ firsts-zip (ids_of before now next) now (sym (ids_so before now next).counted)

  module _ (tip all : NodeList) where
    -- where the ids of the nodes come from
    pub rises : (p : ℕ) (pairs : SheetList) (next : ℕ) → next ≤ (nodes_from tip all p pairs next).next
    rises p [] next = omega arith
    rises p (pair ∷ pairs) next =
        omega (arith, rises (p + 1) pairs (next + new_count (before_in tip pair.0) (sources pair.1 (aliases_at all p).pairs)))

    pub origins : (p : ℕ) (pairs : SheetList) (next z : ℕ) → has (command_ids (nodes_from tip all p pairs next).nodes) z ≡ true
        → Owns tip pairs z ⊎ ((next ≤ z) × (z < (nodes_from tip all p pairs next).next))
    origins p [] next z h = absurd (false≢true h)
    origins p (pair ∷ pairs) next z h =
        let before = before_in tip pair.0 in
        let aliases = (aliases_at all p).pairs in
        let now = sources pair.1 aliases in
        let later = next + new_count before now in
        let up = rises (p + 1) pairs later in
        ⊎_elim
        (λ here. ⊎_elim (λ old. inl (inl old)) (λ fresh. inr (fresh.0, omega (arith, fresh.1, up)))
        (origin before now next (so before now) z (sym (ap (λ xs. has xs z) (ids_made pair.1 aliases before next)) ∙ here)))
        (λ rest. ⊎_elim (λ old. inl (inr old)) (λ fresh. inr (omega (arith, fresh.0), fresh.1))
        (origins (p + 1) pairs later z rest))
        (has_cases (map (λ e. e.command) (cut pair.1 aliases before next).entries) (command_ids (nodes_from tip all (p + 1) pairs later).nodes) z h)

    -- what one of the names owned is among all
    owned : (pairs : SheetList) (z : ℕ) → Owns tip pairs z → has (command_ids tip) z ≡ true
    owned [] z owns = absurd owns
    owned (pair ∷ pairs) z owns = ⊎_elim (λ here. among tip pair.0 z here) (λ later. owned pairs z later) owns

    apart : (p : ℕ) (name : List ℕ) (pairs : SheetList) (next fresh later first z : ℕ) → first ≤ next → later ≡ next + fresh
        → AllDiffer (command_ids tip) → AreBelow first (command_ids tip) → Each (λ other. in_order name other.0 ≡ Less) pairs
        → (has (ids_before tip name) z ≡ true) ⊎ ((next ≤ z) × (z < next + fresh)) → Owns tip pairs z ⊎ ((later ≤ z) × (z < (nodes_from tip all p pairs later).next)) → ⊥
    apart p name pairs next fresh later first z le is differ below less (inl old) (inl owns) = smaller_apart tip name pairs z differ less old owns
    apart p name pairs next fresh later first z le is differ below less (inl old) (inr new) =
        let low = below_of first (command_ids tip) z below (among tip name z old) in omega (arith, low, new.0, le, is)
    apart p name pairs next fresh later first z le is differ below less (inr new) (inl owns) =
        let low = below_of first (command_ids tip) z below (owned pairs z owns) in omega (arith, low, new.0, le)
    apart p name pairs next fresh later first z le is differ below less (inr new) (inr other) = omega (arith, new.1, other.0, is)

    pub all_differ : (p : ℕ) (pairs : SheetList) (next first : ℕ) → first ≤ next → IsSorted in_order pairs
        → AllDiffer (command_ids tip) → AreBelow first (command_ids tip) → AllDiffer (command_ids (nodes_from tip all p pairs next).nodes)
    all_differ p [] next first le sorted differ below = tt
    all_differ p (pair ∷ pairs) next first le sorted differ below =
        let before = before_in tip pair.0 in
        let aliases = (aliases_at all p).pairs in
        let now = sources pair.1 aliases in
        let later = next + new_count before now in
        let own = map (λ e. e.command) (cut pair.1 aliases before next).entries in
        let rest = command_ids (nodes_from tip all (p + 1) pairs later).nodes in
        let old_below : AreBelow next (ids_before tip pair.0) =
        all_below next (ids_before tip pair.0) (λ z h. omega (arith, le, below_of first (command_ids tip) z below (among tip pair.0 z h))) in
        let olds : AllDiffer (ids_before tip pair.0) = own_differ tip pair.0 differ in
        differ_join own rest
        (subst AllDiffer (sym (ids_made pair.1 aliases before next)) (once before now next (so before now) olds old_below))
        (all_differ (p + 1) pairs later first (omega (arith, le)) sorted.1 differ below)
        (λ z h g. apart (p + 1) pair.0 pairs next (new_count before now) later first z le refl differ below sorted.0
        (origin before now next (so before now) z (sym (ap (λ xs. has xs z) (ids_made pair.1 aliases before next)) ∙ h))
        (origins (p + 1) pairs later z g))

    pub ids_below : (p : ℕ) (pairs : SheetList) (next : ℕ) → AreBelow next (command_ids tip)
        → AreBelow (nodes_from tip all p pairs next).next (command_ids (nodes_from tip all p pairs next).nodes)
    ids_below p pairs next below = all_below (nodes_from tip all p pairs next).next (command_ids (nodes_from tip all p pairs next).nodes)
        (λ z h. ⊎_elim (λ owns. let low = below_of next (command_ids tip) z below (owned pairs z owns) in omega (arith, low, rises p pairs next))
        (λ fresh. fresh.1) (origins p pairs next z h))
