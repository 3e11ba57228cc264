-- What parts report from nothing lies in the text of their node.
use Rattle.std.proofs.Common.{ℕ, ◌+◌, ◌-◌, ◌≤◌, Bool, true, false, List, [], ◌∷◌, ◌++◌, length, length-take, drop, Option, Some, None, arith}
use Rattle.std.specs.Prelude.{if◌then◌else◌}
use Rattle.std.specs.Option.{option_map_or}
use Rattle.std.specs.List.{AllByRecursion}
use Rattle.text_words.specs.Pieces.{text_between}
use Rattle.text_words.proofs.KnownLists.{each-part, each-both, each-so}
use Rattle.pide_base.specs.declared.part.Part.{Part}
use Rattle.pide_base.specs.declared.part.PartKind.TheVariants as kind
use Rattle.report_markup.specs.declared.report.Report.{Report}
use Rattle.doc_nodes.specs.declared.node.Entry.{Entry}
use Rattle.doc_nodes.specs.declared.node.Node.{Node}
use Rattle.exec_rules.specs.declared.row.Row.{Row}
use Rattle.exec_rules.specs.Kept.{BlobList}
use Rattle.language.specs.Lang.{Lang}
use Rattle.language.specs.Laws.{AreTidy, LiesIn}
use Rattle.core_rules.specs.declared.event.Event.{Event}
use Rattle.core_rules.specs.Settings.{Setting, made_of, forked, printed, state_behind}
use Rattle.core_rules.specs.Standing.{is_finished}
use Rattle.core_rules.specs.Scratch.{set_in, run_from}
use Rattle.core_rules.specs.Shown.{PartShown, shown_with, scratch_parts, scratches_parts}
use Rattle.core_rules.specs.Updates.{AreRising}
use Rattle.session_replies.specs.Marked.{reported}

-- a report of a command that begins at a place lies in a text of so many scalars
abbrev pub LiesAt : ℕ → ℕ → Report → Type 0
LiesAt len place r = (place + r.range.start ≤ len) × (place + r.range.stop ≤ len)

-- so do all of a part
abbrev pub PartLies : ℕ → PartShown → Type 0
PartLies len p = AllByRecursion (LiesAt len p.span.start) (reported p)

between_short : (text : List ℕ) (a b : ℕ) → length (text_between text a b) ≤ b - a
between_short text a b = omega (arith, length-take (b - a) (drop a text))

module _ {S : Type 0} (l : Lang S) (tidy : AreTidy l) (h : List Event) (node : Node) (blobs : BlobList) (len : ℕ) where
  -- a report of a command's source
  lies_at : (e : Entry) → e.range.start ≤ e.range.stop → e.range.stop ≤ len → (r : Report)
      → LiesIn (text_between node.text e.range.start e.range.stop) r → LiesAt len e.range.start r
  lies_at e order within r lies =
      let short = between_short node.text e.range.start e.range.stop in
      (omega (arith, order, within, lies.0, lies.1.1, short), omega (arith, order, within, lies.1.1, short))

  part_lies : (e : Entry) (o : Option (List Report)) (p : Part) → e.range.start ≤ e.range.stop → e.range.stop ≤ len
      → AllByRecursion (LiesIn (text_between node.text e.range.start e.range.stop)) (option_map_or (λ rs. rs) o [])
      → PartLies len (shown_with h e o p)
  part_lies e o p order within lies = go (is_finished h p)
    where
      go : (b : Bool) → AllByRecursion (LiesAt len e.range.start) (option_map_or (λ rs. rs) (if b then o else None) [])
      go true = each-so (LiesIn (text_between node.text e.range.start e.range.stop)) (LiesAt len e.range.start) (lies_at e order within) _ lies
      go false = tt

  command_lies : (e : Entry) (row : Row) (state : S) → e.range.start ≤ e.range.stop → e.range.stop ≤ len
      → AllByRecursion (PartLies len) (scratch_parts l h e row (set_in node blobs e state))
  command_lies e row state order within =
      let s : Setting S = set_in node blobs e state in
      let L = LiesIn s.source in
      let later = if (made_of l s).forks then forked l s else [] in
      let all = each-part L ((made_of l s).reports ++ later) (printed l (record s { state = state_behind l s })) (tidy.lie s.source s.blob s.state) in
      let front = each-part L (made_of l s).reports later all.0 in (
        part_lies e (Some (made_of l s).reports) _ order within front.0,
        each-both (PartLies len) _ _ (fork_lies s front.1) (print_lies s row.print all.1),
      )
    where
      fork_lies : (s : Setting S) → AllByRecursion (LiesIn (text_between node.text e.range.start e.range.stop))
          (if (made_of l s).forks then forked l s else [])
          → AllByRecursion (PartLies len) (if (made_of l s).forks then shown_with h e (Some (forked l s))
          (record { exec = row.evaluation; kind = kind.Fork }) ∷ [] else [])
      fork_lies s = go (made_of l s).forks
        where
          go : (b : Bool) → AllByRecursion (LiesIn (text_between node.text e.range.start e.range.stop)) (if b then forked l s else [])
              → AllByRecursion (PartLies len) (if b then shown_with h e (Some (forked l s))
              (record { exec = row.evaluation; kind = kind.Fork }) ∷ [] else [])
          go true lies = (part_lies e (Some (forked l s)) _ order within lies, tt)
          go false lies = tt

      print_lies : (s : Setting S) (o : Option ℕ) → AllByRecursion (LiesIn (text_between node.text e.range.start e.range.stop))
          (printed l (record s { state = state_behind l s }))
          → AllByRecursion (PartLies len) (option_map_or (λ q. shown_with h e
          (Some (printed l (record s { state = state_behind l s }))) (record { exec = q; kind = kind.Print }) ∷ []) o [])
      print_lies s None lies = tt
      print_lies s (Some q) lies = (part_lies e (Some (printed l (record s { state = state_behind l s }))) _ order within lies, tt)

  stop_within : (from : ℕ) (es : List Entry) → AreRising from len es → from ≤ len
  stop_within from [] rising = rising
  stop_within from (e ∷ es) rising = let rest = stop_within e.range.stop es rising.2 in omega (arith, rising.0, rising.1, rest)

  -- what all commands of the node report
  pub all_lie : (from : ℕ) (es : List Entry) (rows : List Row) (state : S) → AreRising from len es
      → AllByRecursion (PartLies len) (scratches_parts l h es rows (run_from l node blobs es state))
  all_lie from [] rows state rising = tt
  all_lie from (e ∷ es) [] state rising = tt
  all_lie from (e ∷ es) (row ∷ rows) state rising =
      each-both (PartLies len) (scratch_parts l h e row (set_in node blobs e state))
      (scratches_parts l h es rows (run_from l node blobs es (state_behind l (set_in node blobs e state))))
      (command_lies e row state rising.1 (stop_within e.range.stop es rising.2))
      (all_lie e.range.stop es rows (state_behind l (set_in node blobs e state)) rising.2)
