-- A node is one element around its body.
use Rattle.xml_codec.proofs.Bodies.{int_height, bool_height, string_height, pair_height, list_height, option_height, variant_height}
use Rattle.xml_codec.proofs.laws.bodies_nest.Goals as goal

pub returns-clause-int : goal.returns-clause-int
returns-clause-int c = int_height

pub returns-clause-bool : goal.returns-clause-bool
returns-clause-bool c = bool_height

pub returns-clause-string : goal.returns-clause-string
returns-clause-string c = string_height

pub returns-clause-pair : goal.returns-clause-pair
returns-clause-pair c = pair_height

pub returns-clause-list : goal.returns-clause-list
returns-clause-list c = list_height

pub returns-clause-option : goal.returns-clause-option
returns-clause-option c = option_height

pub returns-clause-variant : goal.returns-clause-variant
returns-clause-variant c = variant_height
