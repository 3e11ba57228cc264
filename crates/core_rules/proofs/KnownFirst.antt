-- The first ready part is wanted.
use Rattle.std.proofs.Common.{◌≡◌, true, List}
use Rattle.std.proofs.lemmas.Bool.{and_parts}
use Rattle.std.specs.Prelude.{◌&&◌}
use Rattle.pide_base.specs.declared.part.Part.{Part}
use Rattle.language.specs.Lang.{Lang}
use Rattle.core_rules.specs.declared.event.Event.{Event}
use Rattle.core_rules.specs.Doc.{doc}
use Rattle.core_rules.specs.Ready.{IsFirst, has_inputs, is_part, is_wanted}
use Rattle.core_rules.specs.Standing.{is_unclaimed, standing}

pub ready_wanted : {S : Type 0} (l : Lang S) (h : List Event) (p : Part) → IsFirst l h p → is_wanted (doc l h) p.exec ≡ true
ready_wanted l h p first = (and_parts (is_wanted (doc l h) p.exec) (is_unclaimed (standing h p) &&
    has_inputs h (doc l h).homes p)
    (and_parts (is_part l (doc l h).homes p) (is_wanted (doc l h) p.exec
    && (is_unclaimed (standing h p) && has_inputs h (doc l h).homes p)) first.ready).1).0
