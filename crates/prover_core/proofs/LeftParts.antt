-- What is left of a version is ready or held below its number.
use Rattle.std.proofs.Common.{◌≡◌, ℕ, ◌<◌, ◌≤◌, Bool, true, false, cond, not, ◌&&◌, ◌||◌, List, Option, Some, None, refl, ap, sym, ◌∙◌, arith}
use Rattle.std.proofs.lemmas.Bool.{false≢true, true≢false, and_parts, and_from, not-true}
use Rattle.std.specs.Prelude.{is_some}
use Rattle.std.specs.List.{list_any}
use Rattle.std.proofs.Math.Bool.{and-false}
use Rattle.text_words.specs.Members.{has}
use Rattle.pide_base.specs.declared.part.Part.{Part}
use Rattle.pide_base.specs.declared.part.PartKind.{PartKind}
use Rattle.core_tables.specs.Ready.{IsReadyPart}
use Rattle.exec_rules.specs.declared.version.Version.{Version}
use Rattle.language.specs.Lang.{Lang}
use Rattle.core_rules.specs.declared.event.Event.{Event}
use Rattle.core_rules.specs.Assigned.{assigns, is_assigned}
use Rattle.core_rules.specs.Parts.{waits_for}
use Rattle.core_rules.specs.Standing.{Standing, Free, Held, Done, standing, is_done, is_unclaimed, is_finished, held}
use Rattle.core_rules.specs.Doc.{Doc, doc}
use Rattle.core_rules.specs.Ready.{is_part, is_wanted, has_inputs, is_ready_in}
use Rattle.core_rules.specs.Sources.{HasHome}
use Rattle.core_rules.specs.Stuck.{is_marked, is_stuck, is_settled}
use Rattle.core_rules.proofs.KnownMarks.{marks}
use Rattle.prover_core.specs.Progress.{next_of}
use Rattle.prover_core.specs.Tasks.{present_kind}
use Rattle.prover_core.specs.Kept.{Tables, IsKept, IsBehind}
use Rattle.prover_core.specs.Settling.{IsLeft}
use Rattle.prover_core.proofs.NextParts.{next_is_part}
use Rattle.prover_core.proofs.ReadyParts.{part_of, ready_sound, ready_whole}
use Rattle.prover_core.proofs.TipLive.{Laws, in_tip}
use Rattle.prover_core.proofs.HeldTasks.{wanted_held, there_wanted}
use Rattle.prover_core.proofs.StuckMarks.{none_marked}
use Rattle.prover_core.proofs.SettledParts.{version_settled}

module _ {S : Type 0} (l : Lang S) (h : List Event) (t : Tables S) (k : IsKept l h t) (laws : Laws l h)
    (begun : (p : Part) → is_unclaimed (standing h p) ≡ false → has_inputs h (doc l h).homes p ≡
    true)
    (v : Version) (n : ℕ) (behind : IsBehind (doc l h) v n) where
  abbrev d : Doc
  d = doc l h

  present_assigned : (e : ℕ) (kd : PartKind) → present_kind l h d e ≡ Some kd → assigns d.tip e ≡ true
  present_assigned e kd is = go (assigns d.tip e) is
    where
      go : (b : Bool) → cond (b && not (has d.cancelled e)) (next_of l h d e) None ≡ Some kd → b ≡ true
      go true is = refl
      go false is = absurd (cc)

  -- a part that is wanted and waits for nothing is not stuck
  not_stuck : (p : Part) → is_wanted d p.exec ≡ true → has_inputs h d.homes p ≡ true → is_stuck h d p ≡ false
  not_stuck p wanted inputs =
      ap (λ b. not (is_finished h p) && (b || list_any (is_marked (marks h d.cancelled d.homes)) (waits_for d.homes p)))
      (not-true (has d.cancelled p.exec) (and_parts (is_assigned d.live p.exec) (not (has d.cancelled p.exec)) wanted).1)
      ∙ ap (λ b. not (is_finished h p) && b) (none_marked h d.cancelled d.homes (waits_for d.homes p) inputs)
      ∙ and-false (not (is_finished h p))

  free_undone : (s : Standing) → is_unclaimed s ≡ true → is_done s ≡ false
  free_undone Free is = refl
  free_undone (Held w) is = absurd (cc)
  free_undone Done is = absurd (cc)

  -- a ready part below the number
  pub ready_left : (p : Part) → p.exec < n → IsReadyPart t.tasks p → IsLeft l h v p
  ready_left p below ready =
      let is = ready_sound l h d t.tasks (in_tip l h t k laws) p ready in
      let a = and_parts (is_part l d.homes p) (is_wanted d p.exec && (is_unclaimed (standing h p) && has_inputs h d.homes p)) is in
      let b = and_parts (is_wanted d p.exec)
      (is_unclaimed (standing h p) && has_inputs h d.homes p) a.1 in
      let c = and_parts (is_unclaimed (standing h p)) (has_inputs h d.homes p) b.1 in
      let present = (ready_whole l h d t.tasks (in_tip l h t k laws) p is).0 in record {
        assigned = behind.still p.exec (present_assigned p.exec p.kind present) below;
        made = a.0;
        unfinished = free_undone (standing h p) c.0;
        not_stuck = not_stuck p b.0 c.1;
      }

  held_undone : (s : Standing) (who : ℕ) → s ≡ Held who
      → (is_done s ≡ false) × (is_unclaimed s ≡ false)
  held_undone Free who is = absurd (cc)
  held_undone (Held w) who is = (refl, refl)
  held_undone Done who is = absurd (cc)

  -- a held part below the number that is wanted
  pub held_left : (p : Part) (who : ℕ) → p.exec < n → is_some (t.tasks p.exec) ≡ true → t.holders who ≡ Some p → IsLeft l h v p
  held_left p who below there holder =
      let holds : held h who ≡ Some p = sym (k.holders who) ∙ holder in
      let wanted = there_wanted l h t k laws who p holds there in
      let stands = held_undone (standing h p) who ((laws.told who p).0 holds) in
      record {
        assigned = behind.still p.exec (in_the_tip (t.tasks p.exec) refl there) below;
        made = next_is_part l h d p.exec p.kind (k.held_next who p holds);
        unfinished = stands.0;
        not_stuck = not_stuck p wanted (begun p stands.1);
      }
    where
      in_the_tip : (o : Option _) → t.tasks p.exec ≡ o → is_some o ≡ true → assigns d.tip p.exec ≡ true
      in_the_tip None is some = absurd (false≢true some)
      in_the_tip (Some s) is some =
          let found = part_of l h d t.tasks (in_tip l h t k laws) p.exec s is in present_assigned p.exec found.0 found.1

  -- where there are none, the version is settled
  module _ (homes : (e : ℕ) → assigns v e ≡ true → HasHome l d v e) (live : (e : ℕ) → assigns v e ≡ true → is_assigned d.live e ≡ true)
      (no_ready : (p : Part) → IsReadyPart t.tasks p → n ≤ p.exec)
      (no_held : (who : ℕ) (p : Part) → t.holders who ≡ Some p → p.exec < n → is_some (t.tasks p.exec) ≡ false) where
    lost : (p : Part) → assigns v p.exec ≡ true → is_part l d.homes p ≡ true → is_finished h p ≡ false
        → has_inputs h d.homes p ≡ true → has d.cancelled p.exec ≡ true
    lost p is made open_ inputs = go (has d.cancelled p.exec) refl
      where
        by : is_wanted d p.exec ≡ true → (s : Standing) → standing h p ≡ s → is_done s ≡ false → ⊥
        by wanted Free at un =
            let ready : is_ready_in l h d p ≡ true = and_from (is_part l d.homes p)
            (is_wanted d p.exec && (is_unclaimed (standing h p) && has_inputs h d.homes p)) made
            (and_from (is_wanted d p.exec) (is_unclaimed (standing h p) && has_inputs h d.homes p)
            wanted
            (and_from (is_unclaimed (standing h p)) (has_inputs h d.homes p) (ap is_unclaimed at)
            inputs)) in
            omega (arith, no_ready p (ready_whole l h d t.tasks (in_tip l h t k laws) p ready).1, behind.above p.exec is)
        by wanted (Held who) at un =
            let holds = (laws.told who p).1 at in
            let task = wanted_held l h t k laws who p holds wanted in
            let none : is_some (t.tasks p.exec) ≡ false = no_held who p (k.holders who ∙ holds) (behind.above p.exec is) in
            false≢true (sym none ∙ ap is_some task.1)
        by wanted Done at un = true≢false un

        go : (b : Bool) → has d.cancelled p.exec ≡ b → b ≡ true
        go true same = refl
        go false same = absurd (by (and_from (is_assigned d.live p.exec) (not (has d.cancelled p.exec)) (live p.exec is) (ap not same))
            (standing h p) refl open_)

    pub settled_so : is_settled l h d v ≡ true
    settled_so = version_settled l h v homes lost
