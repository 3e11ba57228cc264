-- Part by part.
use Rattle.std.proofs.Common.{[], ◌∷◌}
use Rattle.xml_codec.proofs.Bodies.{int_normal, bool_normal, string_normal, list_normal, variant_normal}
use Rattle.xml_codec.proofs.laws.bodies_are_normal.Goals as goal

pub returns-clause-int : goal.returns-clause-int
returns-clause-int c = int_normal

pub returns-clause-bool : goal.returns-clause-bool
returns-clause-bool c = bool_normal

pub returns-clause-string : goal.returns-clause-string
returns-clause-string c = string_normal

pub returns-clause-pair : goal.returns-clause-pair
returns-clause-pair c = λ first second p q. list_normal (first ∷ second ∷ []) (p, (q, tt))

pub returns-clause-list : goal.returns-clause-list
returns-clause-list c = list_normal

pub returns-clause-option : goal.returns-clause-option
returns-clause-option c = λ item p. list_normal (item ∷ []) (p, tt)

pub returns-clause-variant : goal.returns-clause-variant
returns-clause-variant c = variant_normal
