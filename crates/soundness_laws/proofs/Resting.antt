-- Where a version is settled and nothing of it is stuck, nothing is pending.
use Rattle.std.proofs.Common.{◌≡◌, ℕ, Bool, true, false, List, [], ◌∷◌, filter, length, Some, refl, sym, ap, ◌∙◌, arith}
use Rattle.std.proofs.lemmas.Bool.{and_parts, or_parts}
use Rattle.std.specs.Prelude.{◌&&◌, ◌||◌, cond, not, slice_get}
use Rattle.std.specs.List.{flat_map, list_all, list_any, range_with_len}
use Rattle.text_words.specs.Members.{has}
use Rattle.text_words.proofs.KnownMembers.{has_passed}
use Rattle.pide_base.specs.declared.part.Part.{Part}
use Rattle.core_tables.specs.declared.versions.Live.{Live}
use Rattle.exec_rules.specs.declared.version.Version.{Version}
use Rattle.exec_rules.specs.Assigning.{rows_in}
use Rattle.exec_rules.specs.Listed.{executions}
use Rattle.core_rules.specs.declared.event.Event.{Event}
use Rattle.core_rules.specs.Assigned.{assigns, executions_of}
use Rattle.core_rules.specs.Doc.{Doc, doc}
use Rattle.core_rules.specs.Legal.{IsLegal}
use Rattle.core_rules.specs.Parts.{parts_of}
use Rattle.core_rules.specs.Standing.{is_finished, is_open}
use Rattle.core_rules.specs.Stuck.{is_over, is_stuck, is_stuck_in}
use Rattle.core_rules.proofs.KnownNumbers.{numbered_positive, numbered_within}
use Rattle.session_rules.proofs.KnownExact.{rows_have}
use Rattle.session_rules.proofs.KnownSeen.{none_passes}
use Rattle.isar_rules.specs.Isar.{isar}
use Rattle.soundness_laws.specs.Seen.{HasNoPending, HasSettled}
use Rattle.soundness_laws.proofs.Believing.{Laws}

none_pass : (test : ℕ → Bool) (xs : List ℕ) → ((e : ℕ) → test e ≡ false) → filter test xs ≡ []
none_pass test [] none = refl
none_pass test (x ∷ xs) none =
    ap (λ b. cond b (x ∷ filter test xs) (filter test xs)) (none x) ∙ none_pass test xs none

module _ (h : List Event) (d : Doc) where
  -- parts of which each is finished or stuck, and none is stuck
  all_finished : (ps : List Part) → list_all (λ p. is_finished h p || is_stuck h d p) ps ≡ true → list_any (is_stuck h d) ps ≡ false
      → list_any (λ p. not (is_finished h p)) ps ≡ false
  all_finished [] over none = refl
  all_finished (p ∷ ps) over none =
      let first = and_parts (is_finished h p || is_stuck h d p) (list_all (λ p. is_finished h p || is_stuck h d p) ps) over in
      let free = or_parts (is_stuck h d p) (list_any (is_stuck h d) ps) none in
      go (is_finished h p) (is_stuck h d p) first.0 free.0 (all_finished ps first.1 free.1)
    where
      go : (f s : Bool) → (f || s) ≡ true → s ≡ false → list_any (λ p. not (is_finished h p)) ps ≡ false
          → (not f || list_any (λ p. not (is_finished h p)) ps) ≡ false
      go true s is free rest = rest
      go false true is free rest = absurd (cc)
      go false false is free rest = absurd (cc)

module _ (laws : Laws) (h : List Event) (legal : IsLegal isar h) (k : ℕ) (live : Live Version) (at : slice_get (doc isar h).live k ≡ Some live)
    (rest : HasSettled h live.version) where
  abbrev d : Doc
  d = doc isar h

  abbrev v : Version
  v = live.version

  closed : (e : ℕ) → assigns v e ≡ true → is_open isar h d.homes e ≡ false
  closed e is =
      let home = laws.homed h k live e legal at is in
      let over : is_over isar h d e ≡ true = has_passed (is_over isar h d) (executions_of v) e rest.settled is in
      let within = numbered_within d.homes e home.home home.homed in
      let both : (assigns v e && is_stuck_in isar h d e) ≡ false =
      none_passes (λ f. assigns v f && is_stuck_in isar h d f) 1 (length d.homes) e (numbered_positive d.homes e home.home home.homed)
      (omega (arith, within)) rest.unstuck in
      let free : is_stuck_in isar h d e ≡ false = ap (λ b. b && is_stuck_in isar h d e) (sym is) ∙ both in
      all_finished h d (parts_of isar d.homes e) over free

  pub none_pending : (name : List ℕ) → HasNoPending h v name
  none_pending name = none_pass (λ e. has (flat_map executions (rows_in v name)) e && is_open isar h d.homes e)
      (range_with_len 1 (length d.homes)) (λ e. go e (has (flat_map executions (rows_in v name)) e) refl)
    where
      go : (e : ℕ) (b : Bool) → has (flat_map executions (rows_in v name)) e ≡ b → (b && is_open isar h d.homes e) ≡ false
      go e false is = refl
      go e true is =
          let row = rows_have (rows_in v name) e is in
          closed e (laws.there v name row.0 e row.1.0 row.1.1 row.1.2)
