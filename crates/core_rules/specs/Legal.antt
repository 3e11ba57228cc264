-- Which events may follow others (Wenzel, ITP 2014, for claims and cancellations; the rest is this
-- project's own).
use Rattle.std.specs.Prelude.{◌≡◌, true, false, List, [], ◌∷◌, ⊤, Some, None}
use Rattle.core_tables.specs.declared.versions.Removing.TheVariants as answer
use Rattle.core_tables.specs.Removal.{removing}
use Rattle.language.specs.Lang.{Lang}
use Rattle.core_rules.specs.declared.event.Event.{Event}
use Rattle.core_rules.specs.declared.event.Event.TheVariants as event
use Rattle.core_rules.specs.Assigned.{is_assigned}
use Rattle.core_rules.specs.Standing.{held, has_ended}
use Rattle.core_rules.specs.Doc.{doc}
use Rattle.core_rules.specs.Ready.{IsFirst, is_wanted}
use Rattle.core_rules.specs.Updates.{FitsUpdate}

-- the event may come next in the work: a part is taken where it is the first ready one, by a worker
-- that holds none; it is finished by that worker while its execution is wanted, and let go once it
-- is not; and work ends once
abbrev pub MayWork : {S : Type 0} → Lang S → List Event → Event → Type 0
MayWork l h (event.Claimed who p) = (has_ended h ≡ false) × (held h who ≡ None) × IsFirst l h p
MayWork l h (event.Finished who p) = (held h who ≡ Some p) × (is_wanted (doc l h) p.exec ≡ true)
MayWork l h (event.Dropped who p) = (held h who ≡ Some p) × (is_wanted (doc l h) p.exec ≡ false)
MayWork l h event.Ended = has_ended h ≡ false
MayWork l h call = ⊥

-- the event may come next: a call of the editor until work has ended, or a step of the work
abbrev pub MayFollow : {S : Type 0} → Lang S → List Event → Event → Type 0
MayFollow l h (event.Update id nodes blobs) =
    (has_ended h ≡ false) × FitsUpdate (doc l h) id nodes blobs
MayFollow l h (event.Cancel e) = (has_ended h ≡ false) × (is_assigned (doc l h).live e ≡ true)
MayFollow l h (event.Remove ids) =
    (has_ended h ≡ false) × (removing (doc l h).live ids ≡ answer.Removed)
MayFollow l h work = MayWork l h work

-- each event may follow those before it
abbrev pub IsLegal : {S : Type 0} → Lang S → List Event → Type 0
IsLegal l [] = ⊤
IsLegal l (e ∷ h) = IsLegal l h × MayFollow l h e
