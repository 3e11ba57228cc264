use Rattle.symbol_markup.proofs.ScalarRanges.{place-back, range-back, reports-back}
use Rattle.symbol_markup.proofs.laws.ranges_are_had_back.Goals as goal

pub returns : goal.returns
returns c =
    let at = c.places_are_numbered.ensures.at in
    let just = c.places_in_symbols.ensures.just in
    record {
      place = λ text n place is. place-back text (at text) (just text) n place is;
      range = λ text range stands. range-back text (at text) (just text) range stands;
      reports = λ text reports stand. reports-back text (at text) (just text) reports stand;
    }
