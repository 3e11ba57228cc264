-- A suggested proof that is put in is a command without an error.
use Rattle.std.proofs.Common.{◌≡◌, ℕ, ◌+◌, Bool, true, false, cond, List, [], ◌∷◌, ◌++◌, length, take, drop, map, codes, slice_get, Option, Some, None, refl, sym, ap, ◌∙◌, subst}
use Rattle.std.specs.List.{cons_option}
use Rattle.shared_map.specs.Pairs.{found}
use Rattle.pide_base.specs.declared.range.Range.{Range}
use Rattle.text_edits.specs.Edits.{Applies}
use Rattle.text_edits.specs.declared.edit.Edit.TheVariants.{Insert}
use Rattle.report_markup.specs.declared.report.Report.{Report}
use Rattle.outer_syntax.specs.Reading.{header_in}
use Rattle.doc_nodes.specs.declared.node.Entry.{Entry}
use Rattle.doc_nodes.specs.Names.{in_order}
use Rattle.exec_rules.specs.Kept.{BlobList}
use Rattle.core_rules.specs.Settings.{Setting, made_of, forked, state_behind}
use Rattle.proof_terms.specs.declared.term.Term.{Term}
use Rattle.suggest_rules.specs.TermText.{by_text}
use Rattle.buffer_rules.specs.declared.sheet.Sheet.{Sheet}
use Rattle.buffer_rules.specs.Cuts.{command_ranges}
use Rattle.buffer_rules.specs.Numbers.{Command, ids_of}
use Rattle.buffer_rules.specs.Nodes.{sources}
use Rattle.isar_rules.specs.declared.state.State.{State}
use Rattle.isar_rules.specs.Isar.{isar}
use Rattle.isar_rules.specs.Kept.{error_at, errors_in}
use Rattle.isar_rules.specs.Shown.{place_text, suggested_at}
use Rattle.isar_rules.specs.Starts.{start_state}
use Rattle.isar_rules.specs.Steps.{step}
use Rattle.soundness_laws.specs.Clean.{IsClean}
use Rattle.soundness_laws.specs.Insertion.{IsUnbroken, IsCommandText, sources_in}
use Rattle.soundness_laws.specs.CitableStates.{alias_names, IsCitableState}
use Rattle.soundness_laws.specs.Proving.{IsProvedBy}
use Rattle.soundness_laws.specs.Suggesting.{Beginning, node_of, run_of, Suggests, IsTaken}
use Rattle.soundness_laws.proofs.RunLemmas.{set, runs, after, sources_run, behind_at, at_place, within_run, after_kept, after_aliases}
use Rattle.soundness_laws.proofs.CutRuns.{commands_are, entry_range}
use Rattle.soundness_laws.proofs.SuggestedReports.{IsOf, suggested_text}

-- what is known of insertions, of ids, of states and of suggestions
pub record Laws : Type 0 where
  pub commands : (text : List ℕ) (names : List (List ℕ)) (k : ℕ) (r : Range) (w new : List ℕ)
      → slice_get (command_ranges text names) k ≡ Some r → IsUnbroken text names r.stop → IsCommandText names w → IsCommandText [] w
      → Applies (Insert r.stop (32 ∷ (w ++ 32 ∷ []))) text new
      → sources_in new names ≡ take (k + 1) (sources_in text names) ++ w ∷ drop (k + 1) (sources_in text names)
  pub header : (text : List ℕ) (names : List (List ℕ)) (k : ℕ) (r : Range) (w new : List ℕ)
      → slice_get (command_ranges text names) k ≡ Some r → IsUnbroken text names r.stop → IsCommandText names w → IsCommandText [] w
      → Applies (Insert r.stop (32 ∷ (w ++ 32 ∷ []))) text new → header_in new ≡ header_in text
  pub counted : (before : List Command) (now : List (List ℕ)) (next : ℕ) → length (ids_of before now next) ≡ length now
  pub kept : (source : List ℕ) (blob : Option (List ℕ)) (state : State) → IsCitableState state → IsCitableState (step source blob state).state
  pub aliased : (state : State) (t : Term) → IsCitableState state → suggested_at (alias_names state) state.place ≡ Some t → IsCommandText (alias_names state) (by_text t)
  pub bare : (state : State) (t : Term) → IsCitableState state → suggested_at (alias_names state) state.place ≡ Some t → IsCommandText [] (by_text t)
  pub proved : (state : State) (blob : Option (List ℕ)) (t : Term) → IsCitableState state → found in_order (codes "by") state.aliases ≡ None
      → suggested_at (alias_names state) state.place ≡ Some t → IsProvedBy state (by_text t) blob

errors_both : (xs ys : List Report) → errors_in xs ≡ [] → errors_in ys ≡ [] → errors_in (xs ++ ys) ≡ []
errors_both [] ys one other = other
errors_both (x ∷ xs) ys one other = go (error_at x.kind x.text) one (errors_both xs ys)
  where
    go : (o : Option (List ℕ)) → cons_option o (errors_in xs) ≡ [] → (errors_in xs ≡ [] → errors_in ys ≡ [] → errors_in (xs ++ ys) ≡ []) → cons_option o (errors_in (xs ++ ys)) ≡ []
    go None e rest = rest e other
    go (Some text) e rest = absurd (cc (e))

proved_clean : (s : Setting State) → IsProvedBy s.state s.source s.blob → IsClean s
proved_clean s proof = errors_both (made_of isar s).reports _ proof.quiet (go (made_of isar s).forks)
  where
    go : (b : Bool) → errors_in (cond b (forked isar s) []) ≡ []
    go true = proof.proved
    go false = refl

module _ (laws : Laws) (begins : Beginning) (sheet : Sheet) (before later : List Command) (next last : ℕ) (blobs : BlobList) (k : ℕ) (e : Entry) (s : Setting State) (text new : List ℕ)
    (unnamed : found in_order (codes "by") begins.aliases.pairs ≡ None)
    (entry_is : slice_get (node_of begins sheet before next).entries k ≡ Some e)
    (command_is : slice_get (run_of begins sheet before next blobs).commands k ≡ Some s)
    (suggests : Suggests s text)
    (unbroken : IsUnbroken sheet.text (map (λ pair. pair.0) begins.aliases.pairs) e.range.stop)
    (applies : Applies (Insert e.range.stop (32 ∷ (text ++ 32 ∷ []))) sheet.text new) where
  abbrev names : List (List ℕ)
  names = map (λ pair. pair.0) begins.aliases.pairs

  abbrev from : State
  from = start_state begins.name begins.imports begins.aliases

  abbrev old : List (List ℕ)
  old = sources_in sheet.text names

  abbrev put : List (List ℕ)
  put = take (k + 1) old ++ text ∷ drop (k + 1) old

  -- the state behind the command
  abbrev behind : State
  behind = after blobs begins.aliases.pairs (take (k + 1) old) from

  runs_old : (run_of begins sheet before next blobs).commands ≡ runs blobs begins.aliases.pairs old from
  runs_old = commands_are sheet begins.aliases.pairs before next blobs from (laws.counted before (sources sheet begins.aliases.pairs) next)

  runs_new : (run_of begins (record sheet { text = new }) later last blobs).commands ≡ runs blobs begins.aliases.pairs (sources_in new names) from
  runs_new = commands_are (record sheet { text = new }) begins.aliases.pairs later last blobs from (laws.counted later (sources (record sheet { text = new }) begins.aliases.pairs) last)

  stands_old : slice_get (runs blobs begins.aliases.pairs old from) k ≡ Some s
  stands_old = ap (λ r. slice_get r k) (sym runs_old) ∙ command_is

  behind_is : behind ≡ state_behind isar s
  behind_is = behind_at blobs begins.aliases.pairs old from k s stands_old

  citable : IsCitableState behind
  citable = after_kept blobs begins.aliases.pairs IsCitableState laws.kept (take (k + 1) old) from tt

  same_aliases : behind.aliases ≡ begins.aliases.pairs
  same_aliases = after_aliases blobs begins.aliases.pairs (take (k + 1) old) from

  same_names : alias_names behind ≡ names
  same_names = ap (map (λ pair. pair.0)) same_aliases

  suggested : IsOf (suggested_at (alias_names (state_behind isar s)) (state_behind isar s).place) text
  suggested = suggested_text s.source text (place_text (state_behind isar s).place) _ suggests

  term_is : suggested_at (alias_names behind) behind.place ≡ Some suggested.term
  term_is = ap (λ b. suggested_at (alias_names b) b.place) behind_is ∙ suggested.is

  one : IsCommandText names text
  one = subst (λ n. IsCommandText n text) same_names (subst (IsCommandText (alias_names behind)) (sym suggested.text_is) (laws.aliased behind suggested.term citable term_is))

  bare : IsCommandText [] text
  bare = subst (IsCommandText []) (sym suggested.text_is) (laws.bare behind suggested.term citable term_is)

  range_is : slice_get (command_ranges sheet.text names) k ≡ Some e.range
  range_is = entry_range sheet begins.aliases.pairs before next blobs k e entry_is

  sources_are : sources_in new names ≡ put
  sources_are = laws.commands sheet.text names k e.range text new range_is unbroken one bare applies

  command : Setting State
  command = set blobs begins.aliases.pairs text behind

  stands : slice_get (run_of begins (record sheet { text = new }) later last blobs).commands (k + 1) ≡ Some command
  unfolding command
  stands =
      ap (λ r. slice_get r (k + 1)) (runs_new ∙ ap (λ xs. runs blobs begins.aliases.pairs xs from) sources_are)
      ∙ (ap (slice_get (runs blobs begins.aliases.pairs put from)) (sym (within_run blobs begins.aliases.pairs old from k s stands_old))
      ∙ at_place blobs begins.aliases.pairs (take (k + 1) old) (drop (k + 1) old) text from)

  proved : IsProvedBy behind text command.blob
  proved = subst (λ w. IsProvedBy behind w command.blob) (sym suggested.text_is) (laws.proved behind command.blob suggested.term citable (ap (found in_order (codes "by")) same_aliases ∙ unnamed) term_is)

  pub taken : IsTaken (run_of begins sheet before next blobs) (run_of begins (record sheet { text = new }) later last blobs) sheet.text new text k
  unfolding command
  taken = record {
    header = laws.header sheet.text names k e.range text new range_is unbroken one bare applies;
    commands =
        ap (map (λ (c : Setting State). c.source)) runs_new ∙ (sources_run blobs begins.aliases.pairs (sources_in new names) from ∙ (sources_are
        ∙ ap (λ xs. take (k + 1) xs ++ text ∷ drop (k + 1) xs) (sym (ap (map (λ (c : Setting State). c.source)) runs_old ∙ sources_run blobs begins.aliases.pairs old from))));
    proved = record { command = command; stands = stands; source = refl; forks = proved.forks; clean = proved_clean command proved };
  }
