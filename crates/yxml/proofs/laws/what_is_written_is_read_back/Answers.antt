-- By the chunks of what is written.
use Rattle.yxml.proofs.Spelled.{normal_from_spells, one_body}
use Rattle.yxml.proofs.Written.{written}
use Rattle.yxml.proofs.laws.what_is_written_is_read_back.Goals as goal

pub returns-clause-written : goal.returns-clause-written
returns-clause-written c = written

pub returns-clause-normal : goal.returns-clause-normal
returns-clause-normal c = normal_from_spells

pub returns-clause-one : goal.returns-clause-one
returns-clause-one c = one_body
