use Rattle.text_words.proofs.KnownPieces.{tiles-rise, tiles-joined, tiles-whole}
use Rattle.text_words.proofs.laws.tiles_join.Goals as goal

pub returns : goal.returns
returns c = record {
  rises = tiles-rise;
  joins = tiles-joined;
  whole = tiles-whole;
}
