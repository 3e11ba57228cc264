-- Each live version is settled, where nothing is ready and nothing held.
use Rattle.std.proofs.Common.{◌≡◌, inl, inr, ℕ, zero, suc, true, false, List, [], ◌∷◌, map, Some, None, refl, ap, sym, subst, ◌∙◌}
use Rattle.std.proofs.lemmas.Bool.{and_from, or_left, or_right}
use Rattle.std.specs.Prelude.{slice_get}
use Rattle.std.specs.Option.{option_map_or}
use Rattle.std.specs.List.{list_any, list_all, AllByRecursion}
use Rattle.text_words.proofs.KnownMembers.{all_passed}
use Rattle.pide_base.specs.declared.part.Part.{Part}
use Rattle.pide_base.specs.declared.part.PartKind.TheVariants as kind
use Rattle.core_tables.specs.declared.versions.Live.{Live}
use Rattle.exec_rules.specs.declared.home.Home.{Home}
use Rattle.exec_rules.specs.declared.home.Input.TheVariants as input
use Rattle.exec_rules.specs.declared.version.Version.{Version}
use Rattle.exec_rules.specs.Homes.{home}
use Rattle.language.specs.Lang.{Lang}
use Rattle.core_rules.specs.declared.event.Event.{Event}
use Rattle.core_rules.specs.Numbered.{numbered}
use Rattle.core_rules.specs.Assigned.{executions_of, assigns, is_assigned}
use Rattle.core_rules.specs.FromScratch.{PrintIs, IsFromScratch}
use Rattle.core_rules.specs.Parts.{same_part, forks, kinds_by, parts_of, sources_of}
use Rattle.core_rules.specs.Standing.{held}
use Rattle.core_rules.specs.Doc.{doc}
use Rattle.core_rules.specs.Legal.{IsLegal}
use Rattle.core_rules.specs.Ready.{is_ready}
use Rattle.core_rules.specs.Stuck.{is_over, is_settled}
use Rattle.core_rules.proofs.Facts.{Facts}
use Rattle.core_rules.proofs.Sound.{IsSound}
use Rattle.core_rules.proofs.SoundDoc.{doc_sound}
use Rattle.core_rules.proofs.KnownParts.{part_itself}
use Rattle.core_rules.proofs.Blocked.{IsOver, blocked}
use Rattle.core_rules.proofs.AssignedRows.{IsIn, RowAt, assigned_at_row, eval_row}
use Rattle.core_rules.proofs.RestLaw.{P, from, over, eval_parts_over}

-- what a live version assigns is assigned
pub live_assigns : (live : List (Live Version)) (k : ℕ) (one : Live Version) (e : ℕ) → slice_get live k ≡ Some one
    → assigns one.version e ≡ true → is_assigned live e ≡ true
live_assigns [] k one e at is = absurd (cc)
live_assigns (x ∷ live) zero one e at is =
    let same : x ≡ one = cc in
    or_left (assigns x.version e) (is_assigned live e) (ap (λ (y : Live Version). assigns y.version e) same ∙ is)
live_assigns (x ∷ live) (suc k) one e at is =
    or_right (assigns x.version e) (is_assigned live e) (live_assigns live k one e at is)

module _ {S : Type 0} (facts : Facts) (l : Lang S) (h : List Event) (legal : IsLegal l h)
    (nothing : (p : Part) → is_ready l h p ≡ false) (idle : (w : ℕ) → held h w ≡ None) where
  module _ (v : Version) (sound : IsSound (doc l h).homes v)
      (live : (e : ℕ) → assigns v e ≡ true → is_assigned (doc l h).live e ≡ true) where
    abbrev print : ℕ → Part
    print e = record { exec = e; kind = kind.Print }

    print_over : (e ev : ℕ) (x : Home) → numbered (doc l h).homes e ≡ Some x → x.input ≡ input.Print ev
        → IsOver l h legal nothing idle ev → assigns v e ≡ true → is_over l h (doc l h) e ≡ true
    print_over e ev x at up before is =
        let parts : parts_of l (doc l h).homes e ≡ print e ∷ [] =
        ap (λ o. option_map_or
        (λ (y : Home). map (λ k. record { exec = e; kind = k }) (kinds_by y.input (forks l (doc l h).homes e))) o []) at
        ∙ ap (λ i. map (λ k. record { exec = e; kind = k }) (kinds_by i (forks l (doc l h).homes e))) up in
        let waits = ap (λ o. option_map_or (λ (y : Home). sources_of y.input) o []) at ∙ ap sources_of up in
        ap (list_all (P facts l h legal nothing idle v sound live)) parts
        ∙ and_from _ _ (blocked l h legal nothing idle (print e)
        (ap (λ ps. list_any (same_part (print e)) ps) parts
        ∙ or_left (same_part (print e) (print e)) false (part_itself (print e)))
        (live e is) (subst (AllByRecursion (IsOver l h legal nothing idle)) (sym waits) (before, tt)))
        refl

    exec_over : (e : ℕ) → assigns v e ≡ true → is_over l h (doc l h) e ≡ true
    exec_over e is = go r.is
      where
        r : RowAt v (λ row. IsIn row e)
        r = assigned_at_row v e sound.long is

        go : IsIn r.row e → is_over l h (doc l h) e ≡ true
        go (inl same) = eval_parts_over facts l h legal nothing idle v sound live e (eval_row r e same)
        go (inr printed) =
            let here : IsFromScratch l (doc l h) v r.place r.pair r.index r.row =
            from facts l h legal nothing idle v sound live r.place r.index r.pair r.row r.node r.at in
            let so : PrintIs l (doc l h) (Some e) (home r.pair.1 v.blobs here.command) r.row.evaluation here.works_on =
            subst (λ o. PrintIs l (doc l h) o (home r.pair.1 v.blobs here.command) r.row.evaluation here.works_on)
            printed here.prints in
            print_over e r.row.evaluation (home r.pair.1 v.blobs here.command (input.Print r.row.evaluation)) so.0 refl
            (over facts l h legal nothing idle v sound live r.row.evaluation (eval_row r r.row.evaluation refl)) is

    pub version_settled : is_settled l h (doc l h) v ≡ true
    version_settled = all_passed (is_over l h (doc l h)) (executions_of v) exec_over

  -- so each live version is settled
  pub all_settled : (k : ℕ) (one : Live Version) → slice_get (doc l h).live k ≡ Some one
      → is_settled l h (doc l h) one.version ≡ true
  all_settled k one at = version_settled one.version ((doc_sound facts l h legal).live k one at)
      (λ e is. live_assigns (doc l h).live k one e at is)
