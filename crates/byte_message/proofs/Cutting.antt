-- Chunks are the bytes cut at their lengths.
use Rattle.std.proofs.Common.{◌≡◌, ℕ, ◌+◌, ◌≤◌, List, [], ◌∷◌, ◌++◌, length, take, drop, map, sum, refl, arith, append_assoc}
use Rattle.std.proofs.lemmas.List.{length-append, take-append-drop, length-take-le, length-drop}
use Rattle.std.specs.List.{concat}
use Rattle.std.proofs.Math.Seq.{drop-append_seam, take-append_seam}
use Rattle.text_words.proofs.KnownLists.{sum_cons}
use Rattle.byte_message.specs.Chunks.{cut}

pub lengths-cut : (lengths bytes : List ℕ) → sum lengths ≤ length bytes → map length (cut lengths bytes) ≡ lengths
lengths-cut [] bytes h = refl
lengths-cut (n ∷ lengths) bytes h =
    let d = length-drop n bytes in
    let s = sum_cons n lengths in
    let t : length (take n bytes) ≡ n = length-take-le n bytes (omega arith) in
    let ih = lengths-cut lengths (drop n bytes) (omega arith) in
    cc

pub concat-cut : (lengths bytes : List ℕ) → sum lengths ≡ length bytes → concat (cut lengths bytes) ≡ bytes
concat-cut [] [] h = refl
concat-cut [] (b ∷ bytes) h = absurd (omega arith)
concat-cut (n ∷ lengths) bytes h =
    let d = length-drop n bytes in
    let s = sum_cons n lengths in
    let ih = concat-cut lengths (drop n bytes) (omega arith) in
    let whole = take-append-drop n bytes in
    cc

pub cut-concat : (chunks : List (List ℕ)) (x : List ℕ) → cut (map length chunks) (concat chunks ++ x) ≡ chunks
cut-concat [] x = refl
cut-concat (chunk ∷ chunks) x =
    let a = append_assoc chunk (concat chunks) x in
    let t = take-append_seam chunk (concat chunks ++ x) in
    let d = drop-append_seam chunk (concat chunks ++ x) in
    let ih = cut-concat chunks x in
    cc

pub sum-lengths : (chunks : List (List ℕ)) → sum (map length chunks) ≡ length (concat chunks)
sum-lengths [] = refl
sum-lengths (chunk ∷ chunks) = let s = sum_cons (length chunk) (map length chunks) in let ih = sum-lengths chunks in let l = length-append chunk (concat chunks) in omega arith

pub length_cut : (lengths bytes : List ℕ) → length (cut lengths bytes) ≡ length lengths
length_cut [] bytes = refl
length_cut (n ∷ lengths) bytes = let ih = length_cut lengths (drop n bytes) in omega arith
