-- A number of children, or a child, stands against it.
use Rattle.std.proofs.Common.{refl}
use Rattle.xml_codec.specs.Faults.{any_number}
use Rattle.xml_codec.proofs.Single.{faulty_none, pair_none, option_none}
use Rattle.xml_codec.proofs.laws.a_faulty_body_encodes_no_value.Goals as goal

pub returns-clause-list : goal.returns-clause-list
returns-clause-list c = λ body f some fault items. faulty_none any_number body f some fault items refl

pub returns-clause-pair : goal.returns-clause-pair
returns-clause-pair c = pair_none

pub returns-clause-option : goal.returns-clause-option
returns-clause-option c = option_none
