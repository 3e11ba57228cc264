use Rattle.soundness_laws.proofs.AliasFolds.{aliases_named, aliases_unnamed}
use Rattle.soundness_laws.proofs.aliases.names_law.Goals as goal

pub returns-clause-names : goal.returns-clause-names
returns-clause-names c = aliases_named c.one_header.ensures.just

pub returns-clause-unnamed : goal.returns-clause-unnamed
returns-clause-unnamed c = aliases_unnamed c.one_header.ensures.just
