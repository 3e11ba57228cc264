-- What workers' entries leave of a mirror that is as the session.
use Rattle.std.proofs.Common.{◌≡◌, ℕ, Bool, true, false, List, ◌∷◌, map, Some, refl, ap, sym, subst, ◌∙◌}
use Rattle.std.proofs.lemmas.Bool.{and_parts}
use Rattle.std.specs.Prelude.{not, ◌&&◌, if◌then◌else◌}
use Rattle.std.specs.List.{list_any}
use Rattle.text_words.specs.Members.{has}
use Rattle.pide_base.specs.declared.part.Part.{Part}
use Rattle.report_markup.specs.declared.report.Report.{Report}
use Rattle.language.specs.Lang.{Lang}
use Rattle.reply_messages.specs.declared.told.Told.TheVariants as tells
use Rattle.core_rules.specs.declared.event.Event.{Event}
use Rattle.core_rules.specs.declared.event.Event.TheVariants as event
use Rattle.core_rules.specs.Assigned.{is_assigned}
use Rattle.core_rules.specs.Parts.{same_part}
use Rattle.core_rules.specs.Standing.{Standing, Free, Held, Done, standing, is_done, is_unclaimed, is_finished, held}
use Rattle.core_rules.specs.Doc.{doc}
use Rattle.core_rules.specs.Legal.{IsLegal}
use Rattle.core_rules.specs.Ready.{IsFirst, has_inputs, is_part, is_wanted}
use Rattle.core_rules.proofs.KnownParts.{part_is}
use Rattle.session_rules.specs.Session.{Session, document, with_event}
use Rattle.session_rules.specs.Shown.{protocol_reports}
use Rattle.mirror_rules.specs.Images.{Mirror}
use Rattle.mirror_rules.specs.Replies.{live_with, after_report}
use Rattle.mirror_rules.specs.Reports.{belongs_in, with_report}
use Rattle.mirror_rules.specs.Telling.{IsTold}
use Rattle.mirror_rules.specs.Unexpected.{belongs_nowhere}
use Rattle.editor_laws.proofs.Belonging.{belongs_live, live_finished}
use Rattle.editor_laws.proofs.Facts.{Facts}
use Rattle.editor_laws.proofs.Finishing.{finished_image}
use Rattle.editor_laws.proofs.HeldParts.{held_real}
use Rattle.editor_laws.proofs.Known.{ImageOf}
use Rattle.editor_laws.proofs.ReportLaws.{Laws}
use Rattle.editor_laws.proofs.Mirrors.{AllLive, Mirrors, mirrors_event}
use Rattle.editor_laws.proofs.Reporting.{reports_told, source_of}
use Rattle.editor_laws.proofs.TipScratch.{tip_scratch}

module _ {S : Type 0} (l : Lang S) where
  -- a part that is taken was not finished
  pub claimed_same : (h : List Event) (who : ℕ) (q : Part) → IsFirst l h q → (p : Part)
      → is_finished (event.Claimed who q ∷ h) p ≡ is_finished h p
  claimed_same h who q first p = go (same_part q p) refl
    where
      free : is_unclaimed (standing h q) ≡ true
      free = (and_parts (is_unclaimed (standing h q)) (has_inputs h (doc l h).homes q)
          (and_parts (is_wanted (doc l h) q.exec)
          (is_unclaimed (standing h q) && has_inputs h (doc l h).homes q)
          (and_parts (is_part l (doc l h).homes q) (is_wanted (doc l h) q.exec && (is_unclaimed (standing h q) && has_inputs h (doc l h).homes q)) first.ready).1).1).0

      not_done : (s : Standing) → is_unclaimed s ≡ true → false ≡ is_done s
      not_done Free is = refl
      not_done (Held w) is = refl
      not_done Done is = absurd (cc)

      go : (b : Bool) → same_part q p ≡ b → is_done (if b then Held who else standing h p) ≡ is_done (standing h p)
      go false other = refl
      go true same = not_done (standing h p)
          (ap (λ x. is_unclaimed (standing h x)) (sym (part_is q p same)) ∙ free)

  -- nor was one that is let go
  pub dropped_same : (h : List Event) (who : ℕ) (q : Part) → standing h q ≡ Held who → (p : Part)
      → is_finished (event.Dropped who q ∷ h) p ≡ is_finished h p
  dropped_same h who q holds p = go (same_part q p) refl
    where
      go : (b : Bool) → same_part q p ≡ b → is_done (if b then Free else standing h p) ≡ is_done (standing h p)
      go false other = refl
      go true same = ap is_done (sym holds) ∙ ap (λ x. is_done (standing h x)) (part_is q p same)

  module _ (laws : Laws) (told : IsTold l) (facts : Facts l) (s : Session) (m : Mirror) (legal : IsLegal l s.events) (is : Mirrors l s m) where
    pub claimed : (who : ℕ) (part : Part) → IsFirst l s.events part → Mirrors l (with_event s (event.Claimed who part)) m
    claimed who part first = mirrors_event l s m (event.Claimed who part) is refl refl refl refl (claimed_same s.events who part first)

    pub dropped : (who : ℕ) (part : Part) → held s.events who ≡ Some part → Mirrors l (with_event s (event.Dropped who part)) m
    dropped who part holds = mirrors_event l s m (event.Dropped who part) is refl refl refl refl
        (dropped_same s.events who part ((facts.tells s.events who part legal).0 holds))

    pub ended : Mirrors l (with_event s event.Ended) m
    ended = mirrors_event l s m event.Ended is refl refl refl refl (λ p. refl)

    module _ (who : ℕ) (part : Part) (holds : held s.events who ≡ Some part) where
      abbrev pub reports : List Report
      reports = protocol_reports s.protocol (source_of (document l s).homes part)
          (reports_told l (document l s).homes part)

      real : is_part l (document l s).homes part ≡ true
      real = held_real l s.events who part legal holds

      -- a report has its place
      pub expected : is_wanted (document l s) part.exec ≡ true → belongs_nowhere m (tells.Report part reports) ≡ false
      expected wanted =
          let assigned = (and_parts (is_assigned (document l s).live part.exec) (not (has (document l s).cancelled part.exec)) wanted).0 in
          ap not (ap (λ pr. list_any (λ one. belongs_in (record { protocol = pr; part = part; reports = reports }) one.version) m.live) is.protocol
          ∙ belongs_live l laws told s.events (document l s) part real s.protocol (document l s).live m.live is.live
          (λ k one. facts.each s.events k one legal) assigned)

      -- and is taken by all versions
      pub finished : Mirrors l (with_event s (event.Finished who part)) (after_report m part reports)
      finished = record {
        buffer = is.buffer;
        last = is.last;
        protocol = is.protocol;
        live = subst (λ pr. AllLive l (event.Finished who part ∷ s.events) (document l s).homes (document l s).live
            (map (live_with (record { protocol = pr; part = part; reports = reports })) m.live)) (sym is.protocol)
            (live_finished l laws told s.events (document l s) part real s.protocol who (document l s).live m.live is.live
            (λ k one. facts.each s.events k one legal));
        tip = subst (λ pr. ImageOf l (event.Finished who part ∷ s.events) (document l s).homes (document l s).tip
            (with_report (record { protocol = pr; part = part; reports = reports }) m.tip)) (sym is.protocol)
            (finished_image l laws told s.events (document l s) (document l s).tip m.tip is.tip (tip_scratch l facts s.events legal) who part real s.protocol);
      }
