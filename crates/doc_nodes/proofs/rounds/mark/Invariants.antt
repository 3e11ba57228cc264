use Rattle.std.proofs.Common.{◌≡◌, ℕ, ◌||◌, take}
use Rattle.text_words.specs.Members.{has}
use Rattle.doc_nodes.specs.Looks.{marked}
use Rattle.doc_nodes.proofs.rounds.mark.Given as goal

abbrev pub invariant-places : goal.invariant-places
invariant-places l = (p : ℕ) → marked l.marks p ≡ (marked l.fn.marks p || has (take l.place-index l.places) p)
