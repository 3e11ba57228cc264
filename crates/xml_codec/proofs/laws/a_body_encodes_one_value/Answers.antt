-- By the marks of what stands in each element.
use Rattle.xml_codec.proofs.Single.{int_one, pair_one, list_one, option_one, variant_one}
use Rattle.xml_codec.proofs.laws.a_body_encodes_one_value.Goals as goal

pub returns-clause-int : goal.returns-clause-int
returns-clause-int c = int_one

pub returns-clause-pair : goal.returns-clause-pair
returns-clause-pair c = pair_one

pub returns-clause-list : goal.returns-clause-list
returns-clause-list c = list_one

pub returns-clause-option : goal.returns-clause-option
returns-clause-option c = option_one

pub returns-clause-variant : goal.returns-clause-variant
returns-clause-variant c = variant_one
