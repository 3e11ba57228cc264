use Rattle.std.proofs.Common.{refl}
use Rattle.std.specs.Char.{encode_utf8}
use Rattle.std.specs.Fmt.{digits}
use Rattle.text_check.proofs.laws.worked_examples.Goals as goal

pub returns-clause-small_theories : goal.returns-clause-small_theories
unfolding encode_utf8
returns-clause-small_theories c = record {
  nothing = refl;
  empty = refl;
  bad_import = refl;
  no_header = refl;
  malformed = refl;
}

pub returns-clause-small_lines : goal.returns-clause-small_lines
unfolding digits
returns-clause-small_lines c = record {
  property = refl;
  text = refl;
  neither = refl;
}

pub returns-clause-small_facts : goal.returns-clause-small_facts
unfolding encode_utf8
returns-clause-small_facts c = record {
  an_axiom = refl;
  a_lemma = refl;
}
