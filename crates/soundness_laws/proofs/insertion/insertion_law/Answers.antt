use Rattle.std.proofs.Common.{◌≡◌, ◌+◌, ◌∷◌, ◌++◌, take, drop, sym, subst, ap, ◌∙◌}
use Rattle.std.specs.Prelude.{slice_get}
use Rattle.buffer_rules.specs.Cuts.{command_ranges}
use Rattle.outer_syntax.specs.Reading.{header_in}
use Rattle.soundness_laws.specs.Insertion.{IsUnbroken, sources_in}
use Rattle.soundness_laws.proofs.InsertedCommands.{inserted}
use Rattle.soundness_laws.proofs.InsertedTokens.{front-is}
use Rattle.soundness_laws.proofs.insertion.insertion_law.Goals as goal

pub returns-clause-commands : goal.returns-clause-commands
returns-clause-commands c text names k r w new found unbroken one bare (p, q, size, is, after) =
    let whole : new ≡ p ++ 32 ∷ (w ++ 32 ∷ q) = after ∙ front-is names p q w in
    subst (λ t. sources_in t names ≡ take (k + 1) (sources_in text names) ++ w ∷ drop (k + 1) (sources_in text names)) (sym whole)
    (subst (λ t. sources_in (p ++ 32 ∷ (w ++ 32 ∷ q)) names ≡ take (k + 1) (sources_in t names) ++ w ∷ drop (k + 1) (sources_in t names)) (sym is)
    (inserted names p q w k r (ap (λ t. slice_get (command_ranges t names) k) (sym is) ∙ found) size (subst (λ t. IsUnbroken t names r.stop) is unbroken) one bare).sources)

pub returns-clause-header : goal.returns-clause-header
returns-clause-header c text names k r w new found unbroken one bare (p, q, size, is, after) =
    ap header_in (after ∙ front-is names p q w)
    ∙ (inserted names p q w k r (ap (λ t. slice_get (command_ranges t names) k) (sym is) ∙ found) size (subst (λ t. IsUnbroken t names r.stop) is unbroken) one bare).header
    ∙ ap header_in (sym is)
