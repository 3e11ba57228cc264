-- The commands of a node are a front and a back of those before, and new ones between them.
use Rattle.std.proofs.Common.{◌≡◌, ℕ, ◌+◌, ◌-◌, ◌≤◌, List, [], ◌∷◌, ◌++◌, length, map, take, drop, reverse, refl, sym, ap, ◌∙◌, arith}
use Rattle.std.proofs.lemmas.List.{length-append, length-take-le, length-drop, length-map, length-reverse, take-append-drop, drop-drop, reverse-reverse, append_assoc}
use Rattle.std.proofs.lemmas.List.FromFn.{length-range_with_len}
use Rattle.std.specs.List.{zip, range_with_len, take-map, drop-map}
use Rattle.text_words.proofs.KnownLists.{zip_append, take_reverse}
use Rattle.buffer_rules.specs.Numbers.{Command, Kept, kept_runs, ids_of, IsLongestKept}

zip_parts : (cs : List Command) → zip (map (λ c. c.0) cs) (map (λ c. c.1) cs) ≡ cs
zip_parts [] = refl
zip_parts (c ∷ cs) = ap (λ ps. c ∷ ps) (zip_parts cs)

-- a list is its front, what stands behind it, and its back
pub in_three : {A : Type 0} (xs : List A) (f b : ℕ) → f + b ≤ length xs
    → take f xs ++ take (length xs - f - b) (drop f xs) ++ drop (length xs - b) xs ≡ xs
in_three xs f b le =
    let m = length xs - f - b in
    let last : drop (length xs - b) xs ≡ drop m (drop f xs) = ap (λ n. drop n xs) (omega arith) ∙ sym (drop-drop m f xs) in
    ap (λ ys. take f xs ++ take m (drop f xs) ++ ys) last
    ∙ append_assoc (take f xs) (take m (drop f xs)) (drop m (drop f xs))
    ∙ ap (λ ys. take f xs ++ ys) (take-append-drop m (drop f xs))
    ∙ take-append-drop f xs

-- lists behind a front have the same back
same_back : {A : Type 0} (xs ys : List A) (f b : ℕ) → b ≤ length (drop f xs) → b ≤ length (drop f ys)
    → take b (reverse (drop f xs)) ≡ take b (reverse (drop f ys)) → f + b ≤ length xs → f + b ≤ length ys
    → drop (length xs - b) xs ≡ drop (length ys - b) ys
same_back xs ys f b in_xs in_ys same le lf =
    let one : drop (length (drop f xs) - b) (drop f xs) ≡ drop (length xs - b) xs =
    drop-drop (length (drop f xs) - b) f xs ∙ ap (λ n. drop n xs) (omega (arith, length-drop f xs)) in
    let other : drop (length (drop f ys) - b) (drop f ys) ≡ drop (length ys - b) ys =
    drop-drop (length (drop f ys) - b) f ys ∙ ap (λ n. drop n ys) (omega (arith, length-drop f ys)) in
    let turned : reverse (drop (length (drop f xs) - b) (drop f xs)) ≡ reverse (drop (length (drop f ys) - b) (drop f ys)) =
    sym (take_reverse (drop f xs) b in_xs) ∙ same ∙ take_reverse (drop f ys) b in_ys in
    sym one ∙ sym (reverse-reverse (drop (length (drop f xs) - b) (drop f xs))) ∙ ap reverse turned
    ∙ reverse-reverse (drop (length (drop f ys) - b) (drop f ys)) ∙ other

module _ (before : List Command) (now : List (List ℕ)) (next : ℕ)
    (so : IsLongestKept (map (λ c. c.1) before) now (kept_runs (map (λ c. c.1) before) now)) where
  abbrev pub k : Kept
  k = kept_runs (map (λ c. c.1) before) now

  abbrev pub fresh : ℕ
  fresh = length now - k.front - k.back

  abbrev pub new : List Command
  new = zip (range_with_len next fresh) (take fresh (drop k.front now))

  sources_long : length (map (λ c. c.1) before) ≡ length before
  sources_long = length-map before (λ c. c.1)

  ids_long : length (map (λ c. c.0) before) ≡ length before
  ids_long = length-map before (λ c. c.0)

  back_old : k.back ≤ length (drop k.front (map (λ c. c.1) before))
  back_old = omega (arith, so.back.within.0, length-reverse (drop k.front (map (λ c. c.1) before)))

  back_new : k.back ≤ length (drop k.front now)
  back_new = omega (arith, so.back.within.1, length-reverse (drop k.front now))

  pub room_old : k.front + k.back ≤ length before
  room_old = omega (arith, sources_long, so.front.within.0, back_old, length-drop k.front (map (λ c. c.1) before))

  pub room_new : k.front + k.back ≤ length now
  room_new = omega (arith, so.front.within.1, back_new, length-drop k.front now)

  front_kept : zip (take k.front (map (λ c. c.0) before)) (take k.front now) ≡ take k.front before
  front_kept =
      ap (λ ys. zip (take k.front (map (λ c. c.0) before)) ys) (sym so.front.same ∙ take-map (λ c. c.1) k.front before)
      ∙ ap (λ xs. zip xs (map (λ c. c.1) (take k.front before))) (take-map (λ c. c.0) k.front before)
      ∙ zip_parts (take k.front before)

  back_kept : zip (drop (length (map (λ c. c.0) before) - k.back) (map (λ c. c.0) before)) (drop (length now - k.back) now)
      ≡ drop (length before - k.back) before
  back_kept =
      let same = same_back (map (λ c. c.1) before) now k.front k.back back_old back_new so.back.same
      (omega (arith, room_old, sources_long)) room_new in
      ap (λ ys. zip (drop (length (map (λ c. c.0) before) - k.back) (map (λ c. c.0) before)) ys) (sym same)
      ∙ ap (λ n. zip (drop (n - k.back) (map (λ c. c.0) before)) (drop (length (map (λ c. c.1) before) - k.back) (map (λ c. c.1) before))) ids_long
      ∙ ap (λ n. zip (drop (length before - k.back) (map (λ c. c.0) before)) (drop (n - k.back) (map (λ c. c.1) before))) sources_long
      ∙ ap (λ xs. zip xs (drop (length before - k.back) (map (λ c. c.1) before))) (drop-map (λ c. c.0) (length before - k.back) before)
      ∙ ap (λ ys. zip (map (λ c. c.0) (drop (length before - k.back) before)) ys) (drop-map (λ c. c.1) (length before - k.back) before)
      ∙ zip_parts (drop (length before - k.back) before)

  -- the commands now: those of the front, new ones, and those of the back
  pub made : zip (ids_of before now next) now ≡ take k.front before ++ new ++ drop (length before - k.back) before
  made =
      let front = take k.front (map (λ c. c.0) before) in
      let range = range_with_len next fresh in
      let back = drop (length (map (λ c. c.0) before) - k.back) (map (λ c. c.0) before) in
      let first = take k.front now in
      let middle = take fresh (drop k.front now) in
      let last = drop (length now - k.back) now in
      let fronts : length front ≡ k.front = length-take-le k.front (map (λ c. c.0) before) (omega (arith, ids_long, room_old)) in
      let firsts : length first ≡ k.front = length-take-le k.front now (omega (arith, room_new)) in
      let middles : length middle ≡ fresh = length-take-le fresh (drop k.front now) (omega (arith, room_new, length-drop k.front now)) in
      let ranges : length range ≡ fresh = length-range_with_len next fresh in
      let both : length (front ++ range) ≡ length (first ++ middle) = length-append front range ∙ omega (arith, fronts, firsts, middles, ranges, length-append first middle) in
      ap (λ ys. zip (front ++ range ++ back) ys) (sym (in_three now k.front k.back room_new))
      ∙ zip_append (front ++ range) back (first ++ middle) last both
      ∙ ap (λ ps. ps ++ zip back last) (zip_append front range first middle (omega (arith, fronts, firsts)))
      ∙ ap (λ ps. ps ++ new ++ zip back last) front_kept
      ∙ ap (λ ps. take k.front before ++ new ++ ps) back_kept
