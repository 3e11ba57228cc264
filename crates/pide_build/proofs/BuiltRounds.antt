-- What comes of a round of nodes.
use Rattle.std.proofs.Common.{◌≡◌, ℕ, ◌+◌, ◌<◌, List, [], ◌∷◌, ◌++◌, length, get_or, map, All, Option, IsPermutation, get_or-append-add, append_assoc, length-append, refl, sym, ap, subst, ◌∙◌, arith}
use Rattle.std.specs.Prelude.{slice_index}
use Rattle.std.specs.List.{range_with_len}
use Rattle.std.proofs.lemmas.List.FromFn.{fill_by_all, get_or-range_with_len, length-range_with_len}
use Rattle.std.proofs.lemmas.List.Sorted.{All-permutation, IsPermutation-append, IsPermutation-map}
use Rattle.doc_nodes.specs.Imports.{NodeList}
use Rattle.language.specs.Lang.{Lang}
use Rattle.pide_build.specs.declared.telling.BuiltNode.{BuiltNode}
use Rattle.pide_build.specs.declared.telling.Checked.{Checked}
use Rattle.pide_build.specs.Tasks.{MakesSo}
use Rattle.task_round.specs.Rounds.{AreMade}
use Rattle.pide_build.specs.Standing.{MakeSo}

-- numbers of tasks lie below their count
pub numbers_within : (n : ℕ) (numbers : List ℕ) → IsPermutation (range_with_len 0 n) numbers → All (λ number. number < n) numbers
numbers_within n numbers once = All-permutation (λ number. number < n) (range_with_len 0 n) numbers once
    (λ k d lt. let long = length-range_with_len 0 n in let at = get_or-range_with_len 0 n k d (omega arith) in omega arith)

-- the places with these numbers are all of them
pub places_taken : (places numbers done taken : List ℕ) → IsPermutation (range_with_len 0 (length places)) numbers → IsPermutation done taken
    → IsPermutation (done ++ places) (taken ++ map (slice_index places) numbers)
places_taken places numbers done taken once before =
    let all : places ≡ map (slice_index places) (range_with_len 0 (length places)) =
    fill_by_all (slice_index places) places (length places) 0 refl (λ k lt. refl) in
    let moved = IsPermutation-map (slice_index places) (range_with_len 0 (length places)) numbers once in
    IsPermutation-append done taken places (map (slice_index places) numbers) before
    (subst (λ xs. IsPermutation xs (map (slice_index places) numbers)) (sym all) moved)

module _ {S M : Type 0} (l : Lang S) (told : BuiltNode → M) (nodes : NodeList) (behind : List (Option S)) (places : List ℕ) where
  abbrev Makes : ℕ → Checked M S → Type 0
  Makes task made = MakesSo l told nodes behind (slice_index places task) made

  -- from a place on
  made_from : (front rest : List ℕ) (made : List (Checked M S)) → places ≡ front ++ rest → length made ≡ length rest
      → AreMade Makes (length front) made → MakeSo l told nodes behind rest made
  made_from front [] [] parts long are = refl
  made_from front [] (m ∷ made) parts long are = absurd (omega arith)
  made_from front (p ∷ rest) [] parts long are = absurd (omega arith)
  made_from front (p ∷ rest) (m ∷ made) parts long are =
      let here : slice_index places (length front) ≡ p =
      ap (λ xs. get_or xs (length front) 0) parts ∙ ap (λ n. get_or (front ++ p ∷ rest) n 0) (omega arith) ∙ get_or-append-add front (p ∷ rest) 0 0 in
      let next : length front + 1 ≡ length (front ++ p ∷ []) = sym (length-append front (p ∷ [])) in (
        subst (λ q. MakesSo l told nodes behind q m) here are.0,
        made_from (front ++ p ∷ []) rest made (parts ∙ sym (append_assoc front (p ∷ []) rest)) (omega arith)
            (subst (λ n. AreMade Makes n made) next are.1),
      )

  pub make_so : (made : List (Checked M S)) → length made ≡ length places → AreMade Makes 0 made → MakeSo l told nodes behind places made
  make_so made long are = made_from [] places made refl long are
