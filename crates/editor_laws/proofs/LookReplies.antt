-- What snapshots tell can be told.
use Rattle.std.proofs.Common.{◌≡◌, ℕ, ◌+◌, ◌<◌, ◌≤◌, Bool, List, [], length, filter, Option, Some, None, Ok, refl, subst, arith}
use Rattle.std.specs.Prelude.{find, ◌==◌}
use Rattle.std.specs.Option.{option_map, option_map_or}
use Rattle.std.specs.List.{AllByRecursion, range_with_len}
use Rattle.text_words.proofs.KnownLists.{each-so, each-passing}
use Rattle.byte_message.specs.Limits.{longest_chunk}
use Rattle.pide_base.specs.Ids.{IsId}
use Rattle.pide_base.specs.Limits.{most_scalars}
use Rattle.text_edits.specs.declared.edit.Edit.{Edit}
use Rattle.symbol_markup.specs.Places.{symbol_place}
use Rattle.doc_nodes.specs.Imports.{place_of}
use Rattle.core_tables.specs.declared.versions.Live.{Live}
use Rattle.core_tables.specs.Live.{version_of}
use Rattle.exec_rules.specs.declared.version.Version.{Version}
use Rattle.exec_rules.specs.Assigning.{entries_in, rows_in}
use Rattle.language.specs.Lang.{Lang}
use Rattle.core_rules.specs.declared.event.Event.{Event}
use Rattle.core_rules.specs.Doc.{Doc}
use Rattle.core_rules.specs.Scratch.{scratch_at}
use Rattle.reply_messages.specs.Fits.{FitsReport}
use Rattle.reply_messages.specs.Forms.{IsRising}
use Rattle.session_rules.specs.Looking.{Looked, looked_at}
use Rattle.session_rules.specs.Session.{Session, document}
use Rattle.session_rules.specs.Shown.{finished_reports, protocol_reports}
use Rattle.editor_laws.proofs.AssignReplies.{entries_all}
use Rattle.editor_laws.proofs.EditSizes.{edited_all, sizes}
use Rattle.editor_laws.proofs.FineDocs.{FineDoc, FineLive, FineVersion}
use Rattle.editor_laws.proofs.FittingReports.{AllFit, Fitting, left_fit, order_all, told_fit, told_fits}
use Rattle.editor_laws.proofs.FittingSettings.{ReportLaws, settings_fit}
use Rattle.editor_laws.proofs.LookedAt.{looks_at, node_short}
use Rattle.editor_laws.proofs.RisingLists.{range_within, rises_range, rising_filter}
use Rattle.text_words.proofs.KnownFinds.{find_all}
use Rattle.editor_laws.proofs.ShownParts.{SettingFits, shown_fit}

-- the executions among all that pass a test are ids, and rise
pub numbers_fit : (d : Doc) → FineDoc d → (p : ℕ → Bool)
    → AllByRecursion IsId (filter p (range_with_len 1 (length d.homes)))
numbers_fit d fine p =
    let few = fine.few in
    each-passing IsId p (range_with_len 1 (length d.homes))
    (each-so (λ x. (1 ≤ x) × (x < 1 + length d.homes)) IsId
    (λ x within. (within.0, omega (arith, within.1, few)))
    (range_with_len 1 (length d.homes)) (range_within 1 (length d.homes)))

pub numbers_rise : (d : Doc) (p : ℕ → Bool) → IsRising (filter p
    (range_with_len 1 (length d.homes)))
numbers_rise d p = rising_filter p 1 (range_with_len 1 (length d.homes))
    (rises_range 1 (length d.homes))

-- a live version is such
pub live_fine : (lives : List (Live Version)) (id : ℕ) (v : Version) → AllByRecursion FineLive lives
    → version_of lives id ≡ Some v → FineVersion v
live_fine lives id v all is = go (find (λ live. live.id == id) lives) refl is
  where
    go : (o : Option (Live Version)) → find (λ live. live.id == id) lives ≡ o
        → option_map (λ (live : Live Version). live.version) o ≡ Some v → FineVersion v
    go None at is = absurd (cc)
    go (Some one) at is =
        let same : one.version ≡ v = cc in subst FineVersion same
        (find_all (λ live. live.id == id) FineLive lives one all at).1

module _ {S : Type 0} (l : Lang S) (told : ReportLaws l)
    (within : (text : List ℕ) (place : ℕ) → symbol_place text place ≤ length text + 1) where
  shown_all : (h : List Event) (v : Version) (name : List ℕ) (edits : List Edit) → FineVersion v
      → AllFit ((most_scalars + most_scalars) + sizes edits) (finished_reports l h v name edits)
  shown_all h v name edits fine =
      order_all (Fitting ((most_scalars + most_scalars) + sizes edits)) _
      (left_fit edits (most_scalars + most_scalars) _ (shown_fit l h most_scalars most_scalars
      (entries_in v name) (rows_in v name) _
      (entries_all (λ e. e.range.start ≤ most_scalars) v name fine.begin)
      (go (place_of v.nodes name))))
    where
      go : (o : Option ℕ) → AllByRecursion (SettingFits l most_scalars)
          (option_map_or (scratch_at l v.nodes v.blobs) o [])
      go None = tt
      go (Some p) = settings_fit l told v p fine

  -- the reports of a snapshot
  pub shown_told : (s : Session) (id : ℕ) (name : List ℕ) (edits : List Edit) (looked : Looked)
      → FineDoc (document l s) → sizes edits ≤ longest_chunk
      → looked_at l s id name edits ≡ Ok looked
      → AllByRecursion FitsReport (protocol_reports s.protocol looked.text
      (finished_reports l s.events looked.version name edits))
  shown_told s id name edits looked fine brief e =
      let at = looks_at l s id name edits looked e in
      let version = live_fine (document l s).live id looked.version fine.live at.version in
      let short = node_short looked.version name at.node version at.named in
      let text = edited_all edits at.node.text looked.text at.text in
      told_fits (((most_scalars + most_scalars) + longest_chunk) + 1) (omega arith) _
      (told_fit within s.protocol looked.text ((most_scalars + most_scalars) + sizes edits)
      (((most_scalars + most_scalars) + longest_chunk) + 1) _
      (omega (arith, brief)) (omega (arith, short, text, brief))
      (shown_all s.events looked.version name edits version))
