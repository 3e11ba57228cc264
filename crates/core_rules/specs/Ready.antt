-- Which parts can be worked on, and which of them is taken (this project's own).
use Rattle.std.specs.Prelude.{◌≡◌, ℕ, Bool, true, false, not, ◌&&◌, if◌then◌else◌, List, [], ◌∷◌, length, filter, Option, Some, None}
use Rattle.std.specs.List.{list_any, list_all, flat_map, range_with_len}
use Rattle.text_words.specs.Members.{has}
use Rattle.pide_base.specs.declared.part.Part.{Part}
use Rattle.pide_base.specs.declared.part.PartKind.{PartKind}
use Rattle.pide_base.specs.declared.part.PartKind.TheVariants as kind
use Rattle.core_tables.specs.declared.priority.Priority.{Priority}
use Rattle.core_tables.specs.declared.priority.Priority.TheVariants as priority
use Rattle.core_tables.specs.Order.{goes_before}
use Rattle.exec_rules.specs.declared.home.Home.{Home}
use Rattle.exec_rules.specs.declared.version.Version.{Version}
use Rattle.language.specs.Lang.{Lang}
use Rattle.core_rules.specs.declared.event.Event.{Event}
use Rattle.core_rules.specs.Assigned.{is_assigned, is_visible}
use Rattle.core_rules.specs.Parts.{same_part, parts_of, waits_for, evaluation}
use Rattle.core_rules.specs.Standing.{standing, is_unclaimed, is_finished}
use Rattle.core_rules.specs.Doc.{Doc, doc}

-- it is a part of its execution
abbrev pub is_part : {S : Type 0} → Lang S → List Home → Part → Bool
is_part l homes p = list_any (same_part p) (parts_of l homes p.exec)

-- the execution can still be worked on: a live version assigns it, and it is not cancelled
abbrev pub is_wanted : Doc → ℕ → Bool
is_wanted d e = is_assigned d.live e && not (has d.cancelled e)

-- all that the part waits for is finished
abbrev pub has_inputs : List Event → List Home → Part → Bool
has_inputs h homes p = list_all (λ e. is_finished h (evaluation e)) (waits_for homes p)

-- the part is ready, in a document: it is wanted, nobody has taken it, and it waits for nothing
abbrev pub is_ready_in : {S : Type 0} → Lang S → List Event → Doc → Part → Bool
is_ready_in l h d p = is_part l d.homes p && (is_wanted d p.exec
    && (is_unclaimed (standing h p) && has_inputs h d.homes p))

-- the part is ready, after these events
abbrev pub is_ready : {S : Type 0} → Lang S → List Event → Part → Bool
is_ready l h p = is_ready_in l h (doc l h) p

-- how urgent a part is: most of all the evaluation of a command that is visible in the tip
abbrev pub priority_by : PartKind → Bool → Priority
priority_by kind.Eval true = priority.VisibleEval
priority_by kind.Eval false = priority.Eval
priority_by kind.Fork visible = priority.Fork
priority_by kind.Print visible = priority.Print

-- the priority of a part
abbrev pub priority_of : Version → Part → Priority
priority_of tip p = priority_by p.kind (is_visible tip p.exec)

-- the one part is taken before the other, where both are ready
abbrev pub comes_before : Version → Part → Part → Bool
comes_before tip p q = goes_before (priority_of tip p) p.exec (priority_of tip q) q.exec

-- the part is the first ready one
pub record IsFirst {S : Type 0} (l : Lang S) (h : List Event) (p : Part) : Type 0 where
  pub ready : is_ready l h p ≡ true
  pub first : (q : Part) → is_ready l h q ≡ true → comes_before (doc l h).tip q p ≡ false

-- all parts that were made
abbrev pub all_parts : {S : Type 0} → Lang S → List Home → List Part
all_parts l homes = flat_map (parts_of l homes) (range_with_len 1 (length homes))

-- of a part and perhaps another, the one that is taken before the other
abbrev pub sooner : Version → Part → Option Part → Part
sooner tip p None = p
sooner tip p (Some q) = if comes_before tip q p then q else p

-- the first of these parts
abbrev pub first_among : Version → List Part → Option Part
first_among tip [] = None
first_among tip (p ∷ ps) = Some (sooner tip p (first_among tip ps))

-- the first ready part, in a document
abbrev pub first_in : {S : Type 0} → Lang S → List Event → Doc → Option Part
first_in l h d = first_among d.tip (filter (is_ready_in l h d) (all_parts l d.homes))

-- the first ready part, where one is ready
abbrev pub first_ready : {S : Type 0} → Lang S → List Event → Option Part
first_ready l h = first_in l h (doc l h)
