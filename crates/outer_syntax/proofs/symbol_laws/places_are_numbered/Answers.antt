use Rattle.outer_syntax.proofs.BoundaryLemmas.{at-boundary, boundary-at, between-inside, inside-between, last-ends}
use Rattle.outer_syntax.proofs.symbol_laws.places_are_numbered.Goals as goal

pub returns : goal.returns
returns c = record {
  at = λ text n place. (at-boundary text n place, boundary-at text n place);
  inside = λ text n place. (between-inside text n place, inside-between text n place);
  ends = last-ends;
}
