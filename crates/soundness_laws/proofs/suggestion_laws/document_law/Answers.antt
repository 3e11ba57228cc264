use Rattle.std.proofs.Common.{codes, refl, sym, subst}
use Rattle.soundness_laws.specs.Suggesting.{beginning_at, run_of, IsTaken}
use Rattle.soundness_laws.proofs.EditedSheets.{same_headers}
use Rattle.soundness_laws.proofs.suggestion_laws.document_law.Goals as goal

pub returns-clause-taken : goal.returns-clause-taken
returns-clause-taken c sheets others p name imports sheet before later next last blobs k e s text new edited entry_is command_is suggests unbroken applies =
    let begins = beginning_at sheets p name imports in
    let taken = c.suggest_law.ensures begins sheet before later next last blobs k e s text new (c.names_law.ensures.unnamed sheets p (codes "by") refl)
    entry_is command_is suggests unbroken applies in
    subst (λ a. IsTaken (run_of begins sheet before next blobs) (run_of (record { name = name; imports = imports; aliases = a }) (record sheet { text = new }) later last blobs) sheet.text new text k)
    (sym (c.headers_law.ensures others sheets p (same_headers sheets others p sheet new edited taken.header))) taken

pub returns-clause-aliases : goal.returns-clause-aliases
returns-clause-aliases c sheets others p sheet new edited header q = c.headers_law.ensures others sheets q (same_headers sheets others p sheet new edited header)
