-- Nodes that are cut from sheets.
use Rattle.std.proofs.Common.{◌≡◌, ℕ, suc, ◌-◌, true, cond, List, [], ◌∷◌, ◌++◌, length, map, take, drop, refl, sym, ap, subst, ◌∙◌, arith}
use Rattle.std.specs.List.{zip, range_with_len}
use Rattle.std.proofs.lemmas.List.{append-nil, drop_all, take_all, length-map}
use Rattle.std.proofs.lemmas.Slice.Eq.{bytes_eq-Decides}
use Rattle.std.proofs.lemmas.Map.Text.{is_eq-slice_cmp}
use Rattle.shared_map.specs.Pairs.{Each}
use Rattle.pide_base.specs.declared.range.Range.{Range}
use Rattle.doc_nodes.specs.Names.{equal}
use Rattle.doc_nodes.specs.declared.node.Entry.{Entry}
use Rattle.doc_nodes.specs.declared.node.Node.{Node}
use Rattle.doc_nodes.specs.Needs.{AliasList}
use Rattle.buffer_rules.specs.declared.sheet.Sheet.{Sheet}
use Rattle.buffer_rules.specs.Cuts.{source, commands_of}
use Rattle.buffer_rules.specs.Numbers.{Command, Kept, equal_front, equal_back, kept_runs, with_kept, ids_of, new_count}
use Rattle.buffer_rules.specs.Nodes.{entry, ranges_in, sources, cut}
use Rattle.editor_buffer.specs.Commands.{AsksFor, AskUnder}
use Rattle.editor_buffer.specs.Standing.{numbered, IsCutFrom}

equal_self : (xs : List ℕ) → equal xs xs ≡ true
equal_self xs = grind (arith, bytes_eq-Decides xs xs, is_eq-slice_cmp xs xs)

front_all : (xs : List (List ℕ)) → equal_front xs xs ≡ length xs
front_all [] = refl
front_all (x ∷ xs) = ap (λ b. cond b (suc (equal_front xs xs)) 0) (equal_self x) ∙ ap (λ n. suc n) (front_all xs)

-- of the same sources all are kept
kept_all : (xs : List (List ℕ)) → kept_runs xs xs ≡ record { front = length xs; back = 0 }
kept_all xs =
    ap (λ n. let k : Kept = record { front = n; back = equal_back (drop n xs) (drop n xs) } in k) (front_all xs)
    ∙ ap (λ ys. let k : Kept = record { front = length xs; back = equal_back ys ys } in k) (drop_all (length xs) xs (omega arith))

same_ids : (k : Kept) (ids : List ℕ) (count next : ℕ) → k ≡ record { front = count; back = 0 } → length ids ≡ count
    → (with_kept k ids count next ≡ ids) × (count - k.front - k.back ≡ 0)
same_ids k ids count next e len = (
  ap (λ (j : Kept). with_kept j ids count next) e
      ∙ ap (λ n. take count ids ++ range_with_len next n ++ drop (length ids - 0) ids) none
      ∙ ap (λ ys. ys ++ drop (length ids - 0) ids) (append-nil (take count ids))
      ∙ ap (λ ys. take count ids ++ ys) (drop_all (length ids - 0) ids (omega arith))
      ∙ append-nil (take count ids)
      ∙ take_all count ids (omega arith),
  ap (λ (j : Kept). count - j.front - j.back) e ∙ none,
) where
  none : count - count - 0 ≡ 0
  none = omega arith

module _ (sheet : Sheet) (aliases : AliasList) where
  ids_are : (ids : List ℕ) (rs : List Range) → length ids ≡ length rs → map (λ (e : Entry). e.command) (map (entry sheet aliases) (zip ids rs)) ≡ ids
  ids_are [] [] len = refl
  ids_are [] (r ∷ rs) len = refl
  ids_are (i ∷ ids) [] len = absurd (omega arith)
  ids_are (i ∷ ids) (r ∷ rs) len = ap (λ js. i ∷ js) (ids_are ids rs (omega arith))

  firsts_are : (ids : List ℕ) (rs : List Range) → length ids ≡ length rs
      → map (λ (c : Command). c.0) (map (λ (e : Entry). let c : Command = (e.command, source sheet.text e.range) in c) (map (entry sheet aliases) (zip ids rs))) ≡ ids
  firsts_are [] [] len = refl
  firsts_are [] (r ∷ rs) len = refl
  firsts_are (i ∷ ids) [] len = absurd (omega arith)
  firsts_are (i ∷ ids) (r ∷ rs) len = ap (λ js. i ∷ js) (firsts_are ids rs (omega arith))

  sources_are : (ids : List ℕ) (rs : List Range) → length ids ≡ length rs
      → map (λ (c : Command). c.1) (map (λ (e : Entry). let c : Command = (e.command, source sheet.text e.range) in c) (map (entry sheet aliases) (zip ids rs)))
      ≡ map (source sheet.text) rs
  sources_are [] [] len = refl
  sources_are [] (r ∷ rs) len = absurd (omega arith)
  sources_are (i ∷ ids) [] len = absurd (omega arith)
  sources_are (i ∷ ids) (r ∷ rs) len = ap (λ xs. source sheet.text r ∷ xs) (sources_are ids rs (omega arith))

  asked_are : (ids : List ℕ) (rs : List Range) → Each (λ (e : Entry). AsksFor aliases (source sheet.text e.range) e) (map (entry sheet aliases) (zip ids rs))
  asked_are [] rs = tt
  asked_are (i ∷ ids) [] = tt
  asked_are (i ∷ ids) (r ∷ rs) = (refl, asked_are ids rs)

  length_are : (ids : List ℕ) (rs : List Range) → length ids ≡ length rs → length (map (entry sheet aliases) (zip ids rs)) ≡ length rs
  length_are [] [] len = refl
  length_are [] (r ∷ rs) len = absurd (omega arith)
  length_are (i ∷ ids) [] len = absurd (omega arith)
  length_are (i ∷ ids) (r ∷ rs) len = ap (λ n. suc n) (length_are ids rs (omega arith))

  numbered_kept : (ids : List ℕ) (next : ℕ) → length ids ≡ length (ranges_in sheet aliases)
      → (cut sheet aliases (commands_of (numbered sheet aliases ids)) next ≡ numbered sheet aliases ids)
      × (new_count (commands_of (numbered sheet aliases ids)) (sources sheet aliases) ≡ 0)
  numbered_kept ids next len =
      let now = sources sheet aliases in
      let before = commands_of (numbered sheet aliases ids) in
      let olds : map (λ (c : Command). c.1) before ≡ now = sources_are ids (ranges_in sheet aliases) len in
      let firsts : map (λ (c : Command). c.0) before ≡ ids = firsts_are ids (ranges_in sheet aliases) len in
      let whole : kept_runs (map (λ (c : Command). c.1) before) now ≡ record
      { front = length now; back = 0 } =
      ap (λ xs. kept_runs xs now) olds ∙ kept_all now in
      let long : length ids ≡ length now = len ∙ sym (length-map (ranges_in sheet aliases) (source sheet.text)) in
      let so = same_ids (kept_runs (map (λ (c : Command). c.1) before) now) ids (length now) next
      whole long in (
        ap (numbered sheet aliases)
            (ap (λ js. with_kept (kept_runs (map (λ (c : Command). c.1) before) now) js
            (length now) next) firsts ∙ so.0),
        so.1,
      )

  -- a node that is cut from a sheet stays where it is cut again
  pub kept_cut : (node : Node) (next : ℕ) → IsCutFrom sheet aliases node
      → (cut sheet aliases (commands_of node) next ≡ node) × (new_count (commands_of node) (sources sheet aliases) ≡ 0)
  kept_cut node next is =
      let ids = map (λ (e : Entry). e.command) node.entries in
      let long : length ids ≡ length (ranges_in sheet aliases) =
      length-map node.entries (λ (e : Entry). e.command) ∙ is.counted in
      let P : Node → Type 0 = λ n. (cut sheet aliases (commands_of n) next ≡ n) × (new_count (commands_of n) (sources sheet aliases) ≡ 0) in
      subst P (sym is.made) (numbered_kept ids next long)

  -- its commands ask for the blobs that they ask for under the aliases
  pub asked_cut : (node : Node) → IsCutFrom sheet aliases node → AskUnder aliases node.text node.entries
  asked_cut node is =
      let P : Node → Type 0 = λ n. AskUnder aliases n.text n.entries in
      subst P (sym is.made) (asked_are (map (λ (e : Entry). e.command) node.entries) (ranges_in sheet aliases))

  -- what is cut from a sheet is
  pub cut_so : (before : List Command) (next : ℕ) → length (ids_of before (sources sheet aliases) next) ≡ length (sources sheet aliases)
      → IsCutFrom sheet aliases (cut sheet aliases before next)
  cut_so before next counted =
      let ids = ids_of before (sources sheet aliases) next in
      let long : length ids ≡ length (ranges_in sheet aliases) = counted ∙ length-map (ranges_in sheet aliases) (source sheet.text) in
      record {
        counted = length_are ids (ranges_in sheet aliases) long;
        made = ap (numbered sheet aliases) (sym (ids_are ids (ranges_in sheet aliases) long));
      }
