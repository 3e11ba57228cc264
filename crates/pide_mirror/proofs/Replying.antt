-- Which replies are unexpected, by their kinds.
use Rattle.std.proofs.Common.{◌≡◌, ℕ, Bool, true, false, not, ◌&&◌, ◌||◌, List, [], ◌∷◌, Option, Some, None, Ok, Err, refl, ap, ◌∙◌}
use Rattle.std.specs.Prelude.{slice_get}
use Rattle.std.specs.List.{list_any}
use Rattle.pide_base.specs.declared.part.Part.{Part}
use Rattle.report_markup.specs.declared.report.Report.{Report}
use Rattle.message_values.specs.declared.editor_message.EditorMessage.TheVariants as asks
use Rattle.reply_messages.specs.declared.told.Told.{Told}
use Rattle.reply_messages.specs.declared.told.Told.TheVariants as tells
use Rattle.mirror_rules.specs.Answers.{Read, is_answer, can_answer, version_asked}
use Rattle.mirror_rules.specs.Images.{Mirror}
use Rattle.mirror_rules.specs.Reports.{belongs_in}
use Rattle.mirror_rules.specs.Unexpected.{answers_nothing, answers_another, differ, names_another, belongs_nowhere, assigns_refused, assigns_unknown, is_unexpected}
use Rattle.pide_mirror.specs.Knowing.{is_wrong, part_report}

differ_none : (o : Option ℕ) → differ o None ≡ false
differ_none None = refl
differ_none (Some id) = refl

-- what is no answer assigns nothing
no_assign : (m : Mirror) (read : Read) (told : Told) → is_answer told ≡ false
    → (assigns_refused m (Some read) told ≡ false) × (assigns_unknown m (Some read) told ≡ false)
no_assign m (Err reason) told out = (refl, refl)
no_assign m (Ok (asks.Snapshot version node edits)) told out = (refl, refl)
no_assign m (Ok (asks.Cancel exec)) told out = (refl, refl)
no_assign m (Ok (asks.RemoveVersions versions)) told out = (refl, refl)
no_assign m (Ok (asks.Settle version)) told out = (refl, refl)
no_assign m (Ok (asks.Protocol protocol)) told out = (refl, refl)
no_assign m (Ok (asks.Claim worker)) told out = (refl, refl)
no_assign m (Ok (asks.Finish worker)) told out = (refl, refl)
no_assign m (Ok (asks.Theory node text)) told out = (refl, refl)
no_assign m (Ok (asks.Update version items blobs)) (tells.Assign id nodes) out = absurd (cc)
no_assign m (Ok (asks.Update version items blobs)) (tells.Markup id node reports pending outdated) out = absurd (cc)
no_assign m (Ok (asks.Update version items blobs)) (tells.Cancelled exec) out = absurd (cc)
no_assign m (Ok (asks.Update version items blobs)) (tells.Idle exec) out = absurd (cc)
no_assign m (Ok (asks.Update version items blobs)) (tells.Removed ids) out = absurd (cc)
no_assign m (Ok (asks.Update version items blobs)) (tells.Settled id stuck) out = absurd (cc)
no_assign m (Ok (asks.Update version items blobs)) (tells.Protocol protocol) out = absurd (cc)
no_assign m (Ok (asks.Update version items blobs)) (tells.Refused reason) out = absurd (cc)
no_assign m (Ok (asks.Update version items blobs)) (tells.Claimed worker part) out = absurd (cc)
no_assign m (Ok (asks.Update version items blobs)) (tells.Report part reports) out = (refl, refl)
no_assign m (Ok (asks.Update version items blobs)) (tells.Dropped part) out = (refl, refl)
no_assign m (Ok (asks.Update version items blobs)) (tells.Built node reports) out = absurd (cc)
no_assign m (Ok (asks.Update version items blobs)) (tells.Total nodes errors) out = absurd (cc)

-- a report is unexpected just where no live version has a command to which it belongs
pub unexpected_report : (m : Mirror) (part : Part) (reports : List Report) → is_unexpected m (Some (tells.Report part reports))
    ≡ not (list_any (λ one. belongs_in (part_report m part reports) one.version) m.live)
unexpected_report m part reports = go (slice_get m.unanswered 0)
  where
    nowhere : Bool
    nowhere = belongs_nowhere m (tells.Report part reports)

    over : (n a c d : Bool) → a ≡ false → c ≡ false → d ≡ false → (false || false || a || n || c || d) ≡ n
    over true false false false x y z = refl
    over false false false false x y z = refl
    over n true c d x y z = absurd (cc)
    over n false true d x y z = absurd (cc)
    over n false false true x y z = absurd (cc)

    go : (first : Option Read) → (answers_nothing first (tells.Report part reports) || answers_another first (tells.Report part reports)
        || names_another first (tells.Report part reports) || nowhere
        || assigns_refused m first (tells.Report part reports) || assigns_unknown m first (tells.Report part reports)) ≡ nowhere
    go None = over nowhere false false false refl refl refl
    go (Some read) = let out = no_assign m read (tells.Report part reports) refl in
        over nowhere (names_another (Some read) (tells.Report part reports)) _ _ (differ_none (version_asked read)) out.0 out.1

-- a dropped part never is
pub unexpected_dropped : (m : Mirror) (part : Part) → is_unexpected m (Some (tells.Dropped part)) ≡ false
unexpected_dropped m part = go (slice_get m.unanswered 0)
  where
    over : (a c d : Bool) → a ≡ false → c ≡ false → d ≡ false → (false || false || a || false || c || d) ≡ false
    over false false false x y z = refl
    over true c d x y z = absurd (cc)
    over false true d x y z = absurd (cc)
    over false false true x y z = absurd (cc)

    go : (first : Option Read) → (answers_nothing first (tells.Dropped part) || answers_another first (tells.Dropped part)
        || names_another first (tells.Dropped part) || false
        || assigns_refused m first (tells.Dropped part) || assigns_unknown m first (tells.Dropped part)) ≡ false
    go None = refl
    go (Some read) = let out = no_assign m read (tells.Dropped part) refl in
        over (names_another (Some read) (tells.Dropped part)) _ _ (differ_none (version_asked read)) out.0 out.1

-- an answer is, where nothing is unanswered
pub unexpected_alone : (m : Mirror) (told : Told) → is_answer told ≡ true → m.unanswered ≡ [] → is_unexpected m (Some told) ≡ true
unexpected_alone m told answers none = go (slice_get m.unanswered 0) (ap (λ (rs : List Read). slice_get rs 0) none)
  where
    first : (b c : Bool) → b ≡ true → (b || false || false || c || false || false) ≡ true
    first true c is = refl
    first false c is = absurd (cc)

    go : (o : Option Read) → o ≡ None → (answers_nothing o told || answers_another o told || names_another o told
        || belongs_nowhere m told || assigns_refused m o told || assigns_unknown m o told) ≡ true
    go None is = first (is_answer told) (belongs_nowhere m told) answers
    go (Some read) is = absurd (cc)

-- what belongs to commands is a report
pub nowhere_answer : (m : Mirror) (told : Told) → is_answer told ≡ true → belongs_nowhere m told ≡ false
nowhere_answer m (tells.Assign version nodes) is = refl
nowhere_answer m (tells.Markup version node reports pending outdated) is = refl
nowhere_answer m (tells.Cancelled exec) is = refl
nowhere_answer m (tells.Idle exec) is = refl
nowhere_answer m (tells.Removed versions) is = refl
nowhere_answer m (tells.Settled version stuck) is = refl
nowhere_answer m (tells.Protocol protocol) is = refl
nowhere_answer m (tells.Refused reason) is = refl
nowhere_answer m (tells.Claimed worker part) is = refl
nowhere_answer m (tells.Report part reports) is = absurd (cc)
nowhere_answer m (tells.Dropped part) is = refl
nowhere_answer m (tells.Built node reports) is = refl
nowhere_answer m (tells.Total nodes errors) is = refl

-- an answer to a message is, where it is another's, names another version, or assigns what it can't
pub unexpected_answer : (m : Mirror) (read : Read) (more : List Read) (told : Told) → is_answer told ≡ true → m.unanswered ≡ read ∷ more
    → is_unexpected m (Some told) ≡ (not (can_answer read told) || (names_another (Some read) told || is_wrong m read told))
unexpected_answer m read more told answers first = go (slice_get m.unanswered 0) (ap (λ (rs : List Read). slice_get rs 0) first)
  where
    over : (x a n b r u : Bool) → x ≡ true → n ≡ false → (false || (x && a) || b || n || r || u) ≡ (a || (b || (r || u)))
    over true true false b r u is out = refl
    over true false false true r u is out = refl
    over true false false false r u is out = refl
    over false a n b r u is out = absurd (cc)
    over true a true b r u is out = absurd (cc)

    go : (o : Option Read) → o ≡ Some read → (answers_nothing o told || answers_another o told || names_another o told
        || belongs_nowhere m told || assigns_refused m o told || assigns_unknown m o told)
        ≡ (not (can_answer read told) || (names_another (Some read) told || is_wrong m read told))
    go None is = absurd (cc)
    go (Some other) is =
        let same : other ≡ read = cc in
        ap (λ r. answers_nothing (Some r) told || answers_another (Some r) told || names_another (Some r) told
        || belongs_nowhere m told || assigns_refused m (Some r) told || assigns_unknown m (Some r) told) same
        ∙ over (is_answer told) (not (can_answer read told)) (belongs_nowhere m told) (names_another (Some read) told)
        (assigns_refused m (Some read) told) (assigns_unknown m (Some read) told) answers (nowhere_answer m told answers)
