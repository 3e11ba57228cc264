use Rattle.prover_core.proofs.laws.plan_laws.Goals as goal

pub returns : goal.returns
returns g c = record {
  update = record {
    tip = c.homes_law.ensures.tip;
    made = c.homes_law.ensures.made;
    unmade = c.homes_law.ensures.unmade;
    not_again = c.cancelled_law.ensures.not_again;
    found = c.places_law.ensures.found;
    there = c.places_law.ensures.there;
    held = c.new_numbers_law.ensures.held;
    new = c.new_numbers_law.ensures.new;
    numbers = c.numbers_law.ensures;
  };
  once = c.places_law.ensures.once;
  same = c.cancelled_law-2.ensures.assignment;
}
