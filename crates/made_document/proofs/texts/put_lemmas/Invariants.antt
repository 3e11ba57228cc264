-- The lemmas so far are written.
use Rattle.std.proofs.Common.{◌≡◌, ◌++◌, string_bytes}
use Rattle.std.specs.Prelude.{flat_map}
use Rattle.std.specs.List.{range_with_len}
use Rattle.made_document.specs.Texts.{lemma_line}
use Rattle.made_document.proofs.texts.put_lemmas.Given as goal

abbrev pub invariant-lemmas : goal.invariant-lemmas
invariant-lemmas l = string_bytes l.out ≡ string_bytes l.initial.out ++ flat_map lemma_line (range_with_len 1 l.before)
