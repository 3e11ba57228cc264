use Rattle.session_rules.proofs.SameTexts.{texts_alike}
use Rattle.session_rules.proofs.Unnumbered.{checked_alike}
use Rattle.session_rules.proofs.history_laws.texts_law.Goals as goal

pub returns-clause-nodes : goal.returns-clause-nodes
returns-clause-nodes g c nodes others blobs same = checked_alike g.L.Language.lang blobs nodes others same

pub returns-clause-texts : goal.returns-clause-texts
returns-clause-texts g c sheets others tip old next last blobs same =
    texts_alike (λ before now n. (c.ids_law.ensures before now n).counted) g.L.Language.lang sheets others tip old next last blobs same
