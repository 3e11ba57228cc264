-- What one part worked on adds to a list (this project's own).
use Rattle.std.specs.Prelude.{◌≡◌, ◌⊎◌, List, ◌∷◌}
use Rattle.pide_base.specs.declared.part.Part.{Part}
use Rattle.reply_outbox.specs.declared.item.Item.TheVariants.{Made}
use Rattle.session_rules.specs.declared.entry.Entry.TheVariants as entry
use Rattle.document_session.specs.keeping_rules_below.Items.{SessionItem}

-- the reader took a part and finished it at once
abbrev pub IsWorked : List SessionItem → List SessionItem → Type 0
IsWorked old new = (part : Part)
    × (new ≡ Made (entry.Finished 0 part) ∷ Made (entry.Claimed 0 part) ∷ old)

-- it took none, or holds one
abbrev pub IsLeftOff : List SessionItem → List SessionItem → Type 0
IsLeftOff old new = (new ≡ old) ⊎ ((part : Part) × (new ≡ Made (entry.Claimed 0 part) ∷ old))
