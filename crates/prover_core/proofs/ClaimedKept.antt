-- What is kept once the first ready part is taken.
use Rattle.std.proofs.Common.{◌≡◌, ℕ, ◌≤◌, Bool, true, false, cond, List, ◌∷◌, Option, Some, None, refl, ap, sym, subst, ◌∙◌, arith}
use Rattle.std.proofs.lemmas.Bool.{eqb-true}
use Rattle.std.specs.Prelude.{◌==◌, not, ◌&&◌}
use Rattle.text_words.specs.Members.{has}
use Rattle.std.specs.Option.{option_map}
use Rattle.pide_base.specs.declared.part.Part.{Part}
use Rattle.core_tables.specs.declared.task.Standing.{Standing as Task}
use Rattle.core_tables.specs.Ready.{with_standing}
use Rattle.core_tables.specs.Changes.{taken_task}
use Rattle.language.specs.Lang.{Lang}
use Rattle.core_rules.specs.declared.event.Event.{Event}
use Rattle.core_rules.specs.declared.event.Event.TheVariants.{Claimed}
use Rattle.core_rules.specs.Parts.{waits_for, evaluation}
use Rattle.core_rules.specs.Standing.{Held, standing, is_done, held, has_ended}
use Rattle.core_rules.specs.Doc.{Doc, doc}
use Rattle.core_rules.specs.Ready.{IsFirst}
use Rattle.prover_core.specs.Progress.{part, completed_in, next_of}
use Rattle.prover_core.specs.Tasks.{present_kind, is_held, IsTaskOf, AreTasks}
use Rattle.prover_core.specs.Kept.{Tables, IsKept}
use Rattle.prover_core.proofs.NextParts.{next_is_open}
use Rattle.core_rules.proofs.KnownParts.{part_itself}
use Rattle.prover_core.proofs.PartsAlike.{elsewhere, completed_alike, done_alike}
use Rattle.prover_core.proofs.Quiet.{row_same, next_same, present_same, order_same}
use Rattle.prover_core.proofs.TasksStill.{still}
use Rattle.prover_core.proofs.ReadyParts.{present_wanted, task_of}
use Rattle.prover_core.proofs.TipLive.{Laws, in_tip}
use Rattle.prover_core.proofs.KeptOn.{kept_on}

module _ {S : Type 0} (l : Lang S) (h : List Event) (t : Tables S) (k : IsKept l h t) (laws : Laws l h) (who : ℕ) (p : Part)
    (going : has_ended h ≡ false) (idle : held h who ≡ None) (first : IsFirst l h p)
    (present : present_kind l h (doc l h) p.exec ≡ Some p.kind) where
  abbrev d : Doc
  d = doc l h

  abbrev more : List Event
  more = Claimed who p ∷ h

  next_p : next_of l h d p.exec ≡ Some p.kind
  next_p = (present_wanted l h d t.tasks (in_tip l h t k laws) p.exec p.kind present).1

  was : is_done (standing h p) ≡ false
  was = next_is_open l h d p.exec p.kind next_p

  same : (e : ℕ) → completed_in more e ≡ completed_in h e
  same e = completed_alike (standing h) p (Held who) refl was e

  done_same : (f : ℕ) → is_done (standing more (evaluation f)) ≡ is_done (standing h (evaluation f))
  done_same f = done_alike (standing h) p (Held who) refl was (evaluation f)

  -- its own task is held
  held_task : AreTasks (standing more) d.tip d.homes p.exec (Some p.kind)
      (option_map taken_task (t.tasks p.exec))
  held_task = subst (λ o. AreTasks (standing more) d.tip d.homes p.exec (Some p.kind) (option_map
      taken_task o)) (sym found.1) now
    where
      found : (s : Task) × (t.tasks p.exec ≡ Some s) × IsTaskOf (standing h) d.tip d.homes p.exec p.kind s
      found = task_of l h d t.tasks (in_tip l h t k laws) p.exec p.kind present

      now : IsTaskOf (standing more) d.tip d.homes p.exec p.kind (taken_task found.0)
      now = record {
        same_kind = found.2.same_kind;
        urgent = found.2.urgent;
        waits = λ f. found.2.waits f ∙ ap (λ b. has (waits_for d.homes p) f && not b) (sym (done_same f));
        held = sym (ap (λ b. is_held (cond b (Held who) (standing h p))) (part_itself p));
      }

  task_by : (e : ℕ) (b : Bool) → (p.exec == e) ≡ b
      → AreTasks (standing more) d.tip d.homes e (present_kind l h d e) (cond b (option_map taken_task (t.tasks p.exec)) (t.tasks e))
  task_by e true is = subst (λ x. AreTasks (standing more) d.tip d.homes x (present_kind l h d x) (option_map taken_task (t.tasks p.exec)))
      (eqb-true p.exec e is)
      (subst (λ o. AreTasks (standing more) d.tip d.homes p.exec o (option_map taken_task (t.tasks p.exec))) (sym present) held_task)
  task_by e false is = still (standing h) (standing more) d.tip d.homes e
      (λ x. ap (λ b. cond b (Held who) (standing h (part e x))) (elsewhere p e x is)) done_same (present_kind l h d e) (t.tasks e) (k.tasks e)

  next_held : (w : ℕ) (q : Part) → held more w ≡ Some q → next_of l more d q.exec ≡ Some q.kind
  next_held w q is = next_same l d q.exec h more (same q.exec) ∙ go (who == w) is
    where
      go : (b : Bool) → cond b (Some p) (held h w) ≡ Some q → next_of l h d q.exec ≡ Some q.kind
      go true x = let alike : p ≡ q = cc in subst (λ (y : Part). next_of l h d y.exec ≡ Some y.kind) alike next_p
      go false x = k.held_next w q x

  pub claimed_kept : (holders : ℕ → Option Part) (holding : ℕ) (tasks : ℕ → Option Task) (room count : ℕ)
      → ((w : ℕ) → holders w ≡ cond (who == w) (Some p) (t.holders w))
      → ((e : ℕ) → tasks e ≡ with_standing t.tasks p.exec (option_map taken_task (t.tasks p.exec)) e) → holding ≤ room → count ≡ t.count
      → IsKept l more (record t { holders = holders; holding = holding; tasks = tasks; room = room; count = count })
  claimed_kept holders holding tasks room count takes taking fits as_many =
      kept_on l h more t k refl t.rows holders holding tasks room count t.ended (k.legal, (going, idle, first))
      (λ e. k.rows e ∙ sym (row_same l d e h more (same e))) (λ e. order_same l d e h more (same e) (k.in_order e))
      (λ w. takes w ∙ ap (λ o. cond (who == w) (Some p) o) (k.holders w)) next_held
      (λ e. subst (λ o. AreTasks (standing more) d.tip d.homes e (present_kind l more d e) o) (sym (taking e))
      (subst (λ o. AreTasks (standing more) d.tip d.homes e o (with_standing t.tasks p.exec (option_map taken_task (t.tasks p.exec)) e))
      (sym (present_same l d e h more (same e))) (task_by e (p.exec == e) refl)))
      k.ended fits (omega (arith, as_many, k.spare))
