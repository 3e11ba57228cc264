-- The texts so far, and the chunks that are left, are the arguments.
use Rattle.std.proofs.Common.{◌≡◌, ◌++◌, drop}
use Rattle.pide_messages.specs.Texts.{texts, all_utf8}
use Rattle.pide_messages.proofs.reading.texts_of.Given as goal

abbrev pub invariant-chunks : goal.invariant-chunks
invariant-chunks l = record {
  told : texts l.arguments.items ++ drop l.number l.message ≡ drop 1 l.message;
  same : all_utf8 (drop 1 l.message) ≡ all_utf8 (drop l.number l.message);
}
