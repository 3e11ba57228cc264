-- Reports of plain words are such that a reply can tell them.
use Rattle.std.proofs.Common.{◌≡◌, ◌<◌, ℕ, zero, suc, ◌==◌, ◌&&◌, nat_lt, Bool, true, false, not}
use Rattle.std.proofs.Common.{cond, List, [], ◌∷◌, length, Option, Some, None, IfSome, refl, subst}
use Rattle.std.proofs.Common.{arith}
use Rattle.std.specs.Prelude.{slice_get}
use Rattle.std.specs.List.{AllByRecursion, list_all}
use Rattle.std.specs.Str.{IsAscii}
use Rattle.std.proofs.lemmas.Bool.{and_parts, ltb-true}
use Rattle.std.proofs.lemmas.Str.{IsUtf8-from_ascii, is_utf8-from_IsUtf8}
use Rattle.text_words.proofs.KnownLists.{each-both, each-so}
use Rattle.yxml.specs.Normal.{Lacks}
use Rattle.exec_rules.specs.Kept.{BlobList}
use Rattle.doc_nodes.specs.Imports.{NodeList}
use Rattle.report_markup.specs.declared.report.Report.{Report}
use Rattle.reply_messages.specs.Fits.{IsPlainText, IsWide, FitsReport}
use Rattle.language.specs.Laws.{LiesIn, reports_of}
use Rattle.core_rules.specs.Settings.{Setting, made_of, forked, state_behind}
use Rattle.core_rules.specs.Scratch.{scratch_at}
use Rattle.isar_rules.specs.declared.state.State.{State}
use Rattle.isar_rules.specs.Isar.{isar}
use Rattle.isar_rules.proofs.KnownTidy.{isar_tidy}
use Rattle.editor_laws.specs.Headed.{AreHeaded}
use Rattle.editor_laws.specs.PlainReports.{IsPlainReport, ArePlain}
use Rattle.editor_laws.proofs.PlainTexts.{is_plain, Plain, spelled}
use Rattle.editor_laws.proofs.HeaderNames.{HeaderLaw}
use Rattle.editor_laws.proofs.ReadFaults.{TermLaw}
use Rattle.editor_laws.proofs.PlainStates.{PropertyPlain, ReportPlain}
use Rattle.editor_laws.proofs.PlainSteps.{step_plain}
use Rattle.editor_laws.proofs.PlainForks.{fork_plain}
use Rattle.editor_laws.proofs.PlainPrints.{print_plain}
use Rattle.editor_laws.proofs.PlainImports.{SettingPlain}
use Rattle.editor_laws.proofs.PlainRuns.{scratch_plain}

-- what is known of a plain scalar
record IsPlainScalar (c : ℕ) : Type 0 where
  low : c < 128
  no_x : (c == 5) ≡ false
  no_y : (c == 6) ≡ false

denied : (b : Bool) → not b ≡ true → b ≡ false
denied true e = cc
denied false e = refl

scalar : (c : ℕ) → is_plain c ≡ true → IsPlainScalar c
scalar c plain =
    let parts = and_parts (nat_lt c 128) (not (c == 5) && not (c == 6)) plain in
    let more = and_parts (not (c == 5)) (not (c == 6)) parts.1 in
    record {
      low = ltb-true c 128 parts.0;
      no_x = denied (c == 5) more.0;
      no_y = denied (c == 6) more.1;
    }

first : (c : ℕ) (s : List ℕ) → Plain (c ∷ s) → IsPlainScalar c × Plain s
first c s plain =
    let parts = and_parts (is_plain c) (list_all is_plain s) plain.each in
    (scalar c parts.0, spelled parts.1)

ascii : (s : List ℕ) → Plain s → IsAscii s
ascii [] plain i = omega arith
ascii (c ∷ s) plain zero = (first c s plain).0.low
ascii (c ∷ s) plain (suc i) = ascii s (first c s plain).1 i

lacks_x : (s : List ℕ) → Plain s → Lacks 5 s
lacks_x [] plain = tt
lacks_x (c ∷ s) plain = let parts = first c s plain in (parts.0.no_x, lacks_x s parts.1)

lacks_y : (s : List ℕ) → Plain s → Lacks 6 s
lacks_y [] plain = tt
lacks_y (c ∷ s) plain = let parts = first c s plain in (parts.0.no_y, lacks_y s parts.1)

text : (s : List ℕ) → Plain s → IsPlainText s
text s plain =
    record {
      utf8 = is_utf8-from_IsUtf8 s (IsUtf8-from_ascii s (ascii s plain));
      plain = (lacks_x s plain, lacks_y s plain);
    }

report : (r : Report) → ReportPlain r → IsPlainReport r
report r plain =
    record {
      properties = each-so PropertyPlain _ (λ p is. text p.value is) r.properties plain.0;
      text = text r.text plain.1;
    }

reports : (rs : List Report) → AllByRecursion ReportPlain rs → AllByRecursion IsPlainReport rs
reports rs all = each-so ReportPlain IsPlainReport report rs all

setting : HeaderLaw → TermLaw → (s : Setting State) → SettingPlain s → ArePlain s
setting law terms s plain =
    let made = step_plain law s.source s.blob s.state plain in
    record {
      evaluation = reports (made_of isar s).reports made.told;
      fork = reports (forked isar s) (fork_plain terms s.source s.state plain);
      print =
          reports (isar.print s.source (state_behind isar s))
          (print_plain s.source (state_behind isar s) made.behind);
    }

at : (ss : List (Setting State)) (i : ℕ) (s : Setting State) → AllByRecursion SettingPlain ss
    → slice_get ss i ≡ Some s → SettingPlain s
at [] i s all e = cc
at (one ∷ ss) zero s all e = go (slice_get (one ∷ ss) 0) all.0 e
  where
    go : (o : Option (Setting State)) → IfSome o SettingPlain → o ≡ Some s → SettingPlain s
    go None is e = cc
    go (Some other) is e = let same : other ≡ s = cc in subst SettingPlain same is
at (one ∷ ss) (suc i) s all e = at ss i s all.1 e

pub plain_at : HeaderLaw → TermLaw
    → (nodes : NodeList) (blobs : BlobList) (p i : ℕ) (s : Setting State) → AreHeaded nodes
    → slice_get (scratch_at isar nodes blobs p) i ≡ Some s → ArePlain s
plain_at law terms nodes blobs p i s headed e =
    setting law terms s
    (at (scratch_at isar nodes blobs p) i s (scratch_plain law nodes blobs p headed) e)

fitting : (source : List ℕ) (rs : List Report) → IsWide (length source)
    → AllByRecursion (LiesIn source) rs → AllByRecursion IsPlainReport rs
    → AllByRecursion FitsReport rs
fitting source [] wide lie all = tt
fitting source (r ∷ rs) wide lie all = (
  record {
    range = (omega (arith, wide, lie.0.0, lie.0.1.1), omega (arith, wide, lie.0.1.1));
    properties = all.0.properties;
    text = all.0.text;
  },
  fitting source rs wide lie.1 all.1,
)

if_forks : (forks : Bool) (rs : List Report) → AllByRecursion IsPlainReport rs
    → AllByRecursion IsPlainReport (cond forks rs [])
if_forks true rs all = all
if_forks false rs all = tt

pub fits_at : HeaderLaw → TermLaw
    → (nodes : NodeList) (blobs : BlobList) (p i : ℕ) (s : Setting State) → AreHeaded nodes
    → slice_get (scratch_at isar nodes blobs p) i ≡ Some s → IsWide (length s.source)
    → AllByRecursion FitsReport (reports_of isar s.source s.blob s.state)
fits_at law terms nodes blobs p i s headed e wide =
    let plain = plain_at law terms nodes blobs p i s headed e in
    fitting s.source (reports_of isar s.source s.blob s.state) wide
    (isar_tidy.lie s.source s.blob s.state)
    (each-both IsPlainReport _ _
    (each-both IsPlainReport _ _ plain.evaluation
    (if_forks (made_of isar s).forks (forked isar s) plain.fork)) plain.print)
