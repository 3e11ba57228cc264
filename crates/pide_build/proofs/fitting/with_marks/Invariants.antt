use Rattle.std.proofs.Common.{◌≡◌, ℕ, ◌||◌, vec_len, take}
use Rattle.text_words.specs.Members.{has}
use Rattle.doc_nodes.specs.Looks.{marked}
use Rattle.pide_build.proofs.fitting.with_marks.Given as goal

-- the places so far are marked
abbrev pub invariant-places : goal.invariant-places
invariant-places l =
    (vec_len l.marks ≡ vec_len l.initial.marks)
    × ((p : ℕ) → marked l.marks.items p ≡ (marked l.initial.marks.items p || has (take l.place-index l.places) p))
