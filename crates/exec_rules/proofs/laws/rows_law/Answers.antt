use Rattle.std.proofs.Common.{refl}
use Rattle.doc_nodes.specs.Prefix.{wanted_prefix}
use Rattle.exec_rules.specs.Assigning.{rows_in, kept_of}
use Rattle.exec_rules.proofs.RowLaws.{keeps_at, next_at, covers, none_at}
use Rattle.exec_rules.proofs.RowParts.{rows_print, rows_keep, live_front}
use Rattle.exec_rules.proofs.laws.rows_law.Goals as goal

pub returns-clause-keeps : goal.returns-clause-keeps
returns-clause-keeps c = λ u p pair key next i at.
    keeps_at (λ es. ((c.prefix_law.ensures es (wanted_prefix es)).1 refl).within) u p pair key next at i

pub returns-clause-next : goal.returns-clause-next
returns-clause-next c = λ u p pair key next i at.
    next_at (λ es. ((c.prefix_law.ensures es (wanted_prefix es)).1 refl).within) u p pair key next at i

pub returns-clause-covers : goal.returns-clause-covers
returns-clause-covers c = λ u p pair key next at.
    covers (λ es. ((c.prefix_law.ensures es (wanted_prefix es)).1 refl).within) u p pair key next at

pub returns-clause-within : goal.returns-clause-within
returns-clause-within c = λ u p pair key next i at.
    none_at (λ es. ((c.prefix_law.ensures es (wanted_prefix es)).1 refl).within) u p pair key next at i

pub returns-clause-kept_print : goal.returns-clause-kept_print
returns-clause-kept_print c = λ u p pair key next i old row print lt had live at some.
    rows_keep pair.1.entries _ _ _ i print row at
    (live_front u.cancelled (rows_in u.tip pair.0) (kept_of u pair key) i print old lt had live) some

pub returns-clause-prints : goal.returns-clause-prints
returns-clause-prints c = λ u p pair key next i row. rows_print pair.1.entries _ _ _ i row
