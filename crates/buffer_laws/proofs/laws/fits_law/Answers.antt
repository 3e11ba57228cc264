use Rattle.std.proofs.Common.{refl, arith}
use Rattle.buffer_laws.proofs.FitsLaw.{NodeLaws, fits, kept}
use Rattle.buffer_laws.proofs.laws.fits_law.Goals as goal
use Rattle.buffer_laws.proofs.laws.fits_law.Goals.{After-header_law}

laws : After-header_law → NodeLaws
laws c = record {
  names = c.names_law.ensures;
  differ = c.numbers_law.ensures.differ;
  below = c.numbers_law.ensures.below;
  rises = c.numbers_law.ensures.rises;
  known = c.known_law.ensures;
  rising = c.places_law.ensures;
  bare = c.bare_law.ensures;
  headers = c.header_law.ensures;
}

pub returns-clause-fits : goal.returns-clause-fits
returns-clause-fits c = λ b b' d live id asked agrees e newer numbers. fits (laws (goal.at.returns-clause-fits c).After-header_law) b b' d live id asked agrees e newer numbers

pub returns-clause-kept : goal.returns-clause-kept
returns-clause-kept c = λ b b' d live id asked opened agrees e. kept (laws (goal.at.returns-clause-kept c).After-header_law) b b' d live id asked agrees e opened

pub returns-clause-begins : goal.returns-clause-begins
returns-clause-begins c = record { names = tt; nodes = refl; differ = tt; below = tt; first = omega arith; headers = tt }
