-- The commands of a front, of what is new and of a back.
use Rattle.std.proofs.Common.{◌≡◌, ℕ, ◌+◌, ◌-◌, ◌≤◌, List, ◌++◌, length, map, take, drop, sym, ap, ◌∙◌, arith}
use Rattle.std.specs.List.{zip, range_with_len}
use Rattle.std.proofs.lemmas.List.{map-append, length-append, length-take-le, length-drop, drop-drop, take-append-drop, append_assoc, take-map, drop-map, length-map}
use Rattle.std.proofs.lemmas.List.FromFn.{length-range_with_len}
use Rattle.text_words.proofs.KnownLists.{zip_append}
use Rattle.pide_base.specs.declared.range.Range.{Range}
use Rattle.doc_nodes.specs.declared.node.Entry.{Entry}
use Rattle.doc_nodes.specs.Needs.{AliasList}
use Rattle.buffer_rules.specs.declared.sheet.Sheet.{Sheet}
use Rattle.buffer_rules.specs.Cuts.{source}
use Rattle.buffer_rules.specs.Numbers.{Command, Kept, kept_runs, with_kept, ids_of}
use Rattle.buffer_rules.specs.Nodes.{entry}
use Rattle.editor_buffer.specs.Commands.{sources_in, commands_in}
use Rattle.editor_buffer.proofs.KnownCommands.{firsts, seconds}

-- a list cut at two places
three : {A : Type 0} (xs : List A) (f b : ℕ) → f + b ≤ length xs
    → xs ≡ take f xs ++ take (length xs - b - f) (drop f xs) ++ drop (length xs - b) xs
three xs f b le =
    let m = length xs - b - f in
    let n : f + m ≡ length xs - b = omega arith in
    sym (take-append-drop f xs)
    ∙ ap (λ ys. take f xs ++ ys) (sym (take-append-drop m (drop f xs)))
    ∙ ap (λ ys. take f xs ++ (take m (drop f xs) ++ ys)) (drop-drop m f xs ∙ ap (λ k. drop k xs) n)
    ∙ sym (append_assoc (take f xs) (take m (drop f xs)) (drop (length xs - b) xs))

module _ (sheet : Sheet) (aliases : AliasList) where
  entries-append : (ks ls : List ℕ) (vs ws : List Range) → length ks ≡ length vs
      → map (entry sheet aliases) (zip (ks ++ ls) (vs ++ ws)) ≡ map (entry sheet aliases) (zip ks vs) ++ map (entry sheet aliases) (zip ls ws)
  entries-append ks ls vs ws e =
      ap (map (entry sheet aliases)) (zip_append ks ls vs ws e) ∙ map-append (entry sheet aliases) (zip ks vs) (zip ls ws)

  -- at the places of the front, of the middle and of the back
  pub joined : (k : Kept) (ids : List ℕ) (rs : List Range) (next : ℕ) → k.front + k.back ≤ length ids → k.front + k.back ≤ length rs
      → map (entry sheet aliases) (zip (take k.front ids) (take k.front rs))
      ++ map (entry sheet aliases) (zip (range_with_len next (length (take (length rs - k.back - k.front) (drop k.front rs)))) (take (length rs - k.back - k.front) (drop k.front rs)))
      ++ map (entry sheet aliases) (zip (drop (length ids - k.back) ids) (drop (length rs - k.back) rs))
      ≡ map (entry sheet aliases) (zip (with_kept k ids (length rs) next) rs)
  joined k ids rs next old now =
      let f = k.front in
      let b = k.back in
      let mid = take (length rs - b - f) (drop f rs) in
      let new = range_with_len next (length mid) in
      let mids : length mid ≡ length rs - b - f = length-take-le (length rs - b - f) (drop f rs) (omega (arith, length-drop f rs)) in
      let same : length rs - b - f ≡ length rs - f - b = omega arith in
      let firsts : length (take f ids) ≡ length (take f rs) =
      length-take-le f ids (omega arith) ∙ sym (length-take-le f rs (omega arith)) in
      let both : length (take f ids ++ new) ≡ length (take f rs ++ mid) =
      length-append (take f ids) new ∙ omega (arith, firsts, length-range_with_len next (length mid), length-append (take f rs) mid) in
      ap (λ es. es ++ map (entry sheet aliases) (zip (drop (length ids - b) ids) (drop (length rs - b) rs)))
      (sym (entries-append (take f ids) new (take f rs) mid firsts))
      ∙ sym (entries-append (take f ids ++ new) (drop (length ids - b) ids) (take f rs ++ mid) (drop (length rs - b) rs) both)
      ∙ ap (λ ys. map (entry sheet aliases) (zip (take f ids ++ new ++ drop (length ids - b) ids) ys)) (sym (three rs f b now))
      ∙ ap (λ n. map (entry sheet aliases) (zip (take f ids ++ range_with_len next n ++ drop (length ids - b) ids) rs)) (mids ∙ same)

  -- the same of commands and places that are cut off
  pub joined_at : (k : Kept) (es : List Entry) (rs : List Range) (next f at stop : ℕ) → f ≡ k.front → at ≡ length es - k.back → stop ≡ length rs - k.back
      → k.front + k.back ≤ length es → k.front + k.back ≤ length rs
      → map (entry sheet aliases) (zip (map (λ (e : Entry). e.command) (take f es)) (take f rs))
      ++ map (entry sheet aliases) (zip (range_with_len next (length (take (stop - f) (drop f rs)))) (take (stop - f) (drop f rs)))
      ++ map (entry sheet aliases) (zip (map (λ (e : Entry). e.command) (drop at es)) (drop stop rs))
      ≡ map (entry sheet aliases) (zip (with_kept k (map (λ (e : Entry). e.command) es) (length rs) next) rs)
  joined_at k es rs next f at stop is_f is_at is_stop old now =
      let cmd = λ (e : Entry). e.command in
      let long : length (map cmd es) ≡ length es = length-map es cmd in
      let part : ℕ → ℕ → ℕ → List ℕ → List ℕ → List Entry = λ i j n xs ys.
      map (entry sheet aliases) (zip xs (take i rs))
      ++ map (entry sheet aliases) (zip (range_with_len next (length (take (n - i) (drop i rs)))) (take (n - i) (drop i rs)))
      ++ map (entry sheet aliases) (zip ys (drop n rs))
      in
      ap (λ xs. part f at stop xs (map cmd (drop at es))) (sym (take-map cmd f es))
      ∙ ap (λ ys. part f at stop (take f (map cmd es)) ys) (sym (drop-map cmd at es))
      ∙ ap (λ i. part i at stop (take i (map cmd es)) (drop at (map cmd es))) is_f
      ∙ ap (λ j. part k.front j stop (take k.front (map cmd es)) (drop j (map cmd es))) (is_at ∙ ap (λ n. n - k.back) (sym long))
      ∙ ap (λ n. part k.front 0 n (take k.front (map cmd es)) (drop (length (map cmd es) - k.back) (map cmd es))) is_stop
      ∙ joined k (map cmd es) rs next (omega arith) now

-- the ids by the sources
pub ids_by : (old new : List ℕ) (es : List Entry) (rs : List Range) (next : ℕ) (k : Kept) → k ≡ kept_runs (sources_in old es) (map (source new) rs)
    → with_kept k (map (λ (e : Entry). e.command) es) (length rs) next ≡ ids_of (commands_in old es) (map (source new) rs) next
ids_by old new es rs next k e =
    let ids = map (λ (x : Entry). x.command) es in
    ap (λ (j : Kept). with_kept j ids (length rs) next) e
    ∙ ap (λ n. with_kept (kept_runs (sources_in old es) (map (source new) rs)) ids n next)
    (sym (length-map rs (source new)))
    ∙ ap (λ js. with_kept (kept_runs (sources_in old es) (map (source new) rs)) js (length (map (source new) rs)) next) (sym (firsts old es))
    ∙ ap (λ xs. with_kept (kept_runs xs (map (source new) rs)) (map (λ (c : Command). c.0) (commands_in old es)) (length (map (source new) rs)) next) (sym (seconds old es))
