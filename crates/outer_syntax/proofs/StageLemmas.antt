-- Reading the words of a header one by one comes to its end.
use Rattle.std.proofs.Common.{◌≡◌, ℕ, ◌<◌, false, List, [], ◌∷◌, ◌++◌, length, map, refl, ap, ◌∙◌, arith, append_assoc}
use Rattle.std.specs.Prelude.{codes}
use Rattle.outer_syntax.specs.Headings.{Heading, Word, flat_pairs, import_words, pair_words, words_of}
use Rattle.outer_syntax.specs.Stages.{after_word, is_ended}
use Rattle.outer_syntax.specs.declared.kind.Kind.TheVariants.{Keyword, Ident}
use Rattle.outer_syntax.specs.declared.stage.Stage.{Stage}
use Rattle.outer_syntax.specs.declared.stage.Stage.TheVariants.{Start, Name, Import, Pair, Ended, Absent}

-- one word more, where nothing may follow the end
abbrev pub strict : Stage → Word → Stage
strict Ended w = Absent
strict s w = after_word s w

pub strict-is : (s : Stage) (w : Word) → is_ended s ≡ false → strict s w ≡ after_word s w
strict-is Ended w on = absurd (cc (on))
strict-is _ w on = refl

-- how far a header has been read after the words, where nothing may follow the end
abbrev pub after_words : Stage → List Word → Stage
after_words stage [] = stage
after_words stage (w ∷ ws) = after_words (strict stage w) ws

pub after-both : (s : Stage) (xs ys : List Word) → after_words s (xs ++ ys) ≡ after_words (after_words s xs) ys
after-both s [] ys = refl
after-both s (x ∷ xs) ys = after-both (strict s x) xs ys

absent-stays : (ws : List Word) → after_words Absent ws ≡ Absent
absent-stays [] = refl
absent-stays (w ∷ ws) = absent-stays ws

-- nothing that follows the end ends a header
pub past-end : (ws : List Word) → 0 < length ws → is_ended (after_words Ended ws) ≡ false
past-end [] some = absurd (omega arith)
past-end (w ∷ ws) some = ap is_ended (absent-stays ws)

run-import : (names : List (List ℕ)) (ws : List Word) → after_words Import (map (λ n. (Ident, n)) names ++ ws) ≡ after_words Import ws
run-import [] ws = refl
run-import (n ∷ ns) ws = run-import ns ws

run-pair : (pairs : List (List ℕ × List ℕ)) (ws : List Word) → after_words Pair (flat_pairs pairs ++ ws) ≡ after_words Pair ws
run-pair [] ws = refl
run-pair (p ∷ ps) ws = run-pair ps ws

run-name : (pairs : List (List ℕ × List ℕ)) → after_words Name (pair_words pairs ++ (Keyword, codes "begin") ∷ []) ≡ Ended
run-name [] = refl
run-name (p ∷ ps) = run-pair ps ((Keyword, codes "begin") ∷ [])

run-imported : (pairs : List (List ℕ × List ℕ)) → after_words Import (pair_words pairs ++ (Keyword, codes "begin") ∷ []) ≡ Ended
run-imported [] = refl
run-imported (p ∷ ps) = run-pair ps ((Keyword, codes "begin") ∷ [])

run-imports : (names : List (List ℕ)) (pairs : List (List ℕ × List ℕ)) → after_words Name ((import_words names ++ pair_words pairs) ++ (Keyword, codes "begin") ∷ []) ≡ Ended
run-imports [] pairs = run-name pairs
run-imports (n ∷ ns) pairs =
    ap (after_words Import) (append_assoc (map (λ n. (Ident, n)) ns) (pair_words pairs) ((Keyword, codes "begin") ∷ []))
    ∙ run-import ns (pair_words pairs ++ (Keyword, codes "begin") ∷ [])
    ∙ run-imported pairs

pub run-words : (h : Heading) → after_words Start (words_of h) ≡ Ended
run-words h = run-imports h.imports h.pairs
