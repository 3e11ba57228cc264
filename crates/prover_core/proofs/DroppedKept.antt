-- What is kept once a part is let go that nobody wants any more.
use Rattle.std.proofs.Common.{◌≡◌, ℕ, ◌≤◌, Bool, true, false, cond, not, ◌&&◌, List, ◌∷◌, Option, Some, None, refl, ap, sym, subst, ◌∙◌, arith}
use Rattle.std.proofs.lemmas.Bool.{eqb-true, false≢true, and_from}
use Rattle.std.specs.Prelude.{◌==◌}
use Rattle.text_words.specs.Members.{has}
use Rattle.pide_base.specs.declared.part.Part.{Part}
use Rattle.language.specs.Lang.{Lang}
use Rattle.core_rules.specs.declared.event.Event.{Event}
use Rattle.core_rules.specs.declared.event.Event.TheVariants.{Dropped}
use Rattle.core_rules.specs.Assigned.{assigns, is_assigned}
use Rattle.core_rules.specs.Parts.{evaluation}
use Rattle.core_rules.specs.Standing.{Free, standing, is_done, held}
use Rattle.core_rules.specs.Doc.{Doc, doc}
use Rattle.core_rules.specs.Ready.{is_wanted}
use Rattle.prover_core.specs.Progress.{part, completed_in, next_of}
use Rattle.prover_core.specs.Tasks.{present_kind, AreTasks}
use Rattle.prover_core.specs.Kept.{Tables, IsKept}
use Rattle.prover_core.proofs.PartsAlike.{elsewhere, completed_alike, done_alike}
use Rattle.prover_core.proofs.Quiet.{row_same, next_same, present_same, order_same}
use Rattle.prover_core.proofs.TasksStill.{still, still_none}
use Rattle.prover_core.proofs.TipLive.{Laws, tip_live}
use Rattle.prover_core.proofs.KeptOn.{kept_on}

module _ {S : Type 0} (l : Lang S) (h : List Event) (t : Tables S) (k : IsKept l h t) (laws : Laws l h) (who : ℕ) (p : Part)
    (holds : held h who ≡ Some p) (unwanted : is_wanted (doc l h) p.exec ≡ false) where
  abbrev d : Doc
  d = doc l h

  abbrev more : List Event
  more = Dropped who p ∷ h

  was : is_done (standing h p) ≡ false
  was = ap is_done ((laws.told who p).0 holds)

  same : (e : ℕ) → completed_in more e ≡ completed_in h e
  same e = completed_alike (standing h) p Free refl was e

  nothing_present : present_kind l h d p.exec ≡ None
  nothing_present = go (assigns d.tip p.exec) (has d.cancelled p.exec) refl refl
    where
      go : (a b : Bool) → assigns d.tip p.exec ≡ a → has d.cancelled p.exec ≡ b → cond (a && not b) (next_of l h d p.exec) None ≡ None
      go true false x y = absurd (false≢true (sym unwanted
          ∙ and_from (is_assigned d.live p.exec) (not (has d.cancelled p.exec)) (tip_live l h t k p.exec x) (ap not y)))
      go true true x y = refl
      go false b x y = refl

  done_same : (f : ℕ) → is_done (standing more (evaluation f)) ≡ is_done (standing h (evaluation f))
  done_same f = done_alike (standing h) p Free refl was (evaluation f)

  task_by : (e : ℕ) (b : Bool) → (p.exec == e) ≡ b → AreTasks (standing more) d.tip d.homes e (present_kind l h d e) (t.tasks e)
  task_by e true is = subst (λ x. AreTasks (standing more) d.tip d.homes x (present_kind l h d x) (t.tasks x)) (eqb-true p.exec e is)
      (still_none (standing h) (standing more) d.tip d.homes p.exec (present_kind l h d p.exec) (t.tasks p.exec) nothing_present (k.tasks p.exec))
  task_by e false is = still (standing h) (standing more) d.tip d.homes e
      (λ x. ap (λ b. cond b Free (standing h (part e x))) (elsewhere p e x is)) done_same (present_kind l h d e) (t.tasks e) (k.tasks e)

  next_held : (w : ℕ) (q : Part) → held more w ≡ Some q → next_of l more d q.exec ≡ Some q.kind
  next_held w q is = next_same l d q.exec h more (same q.exec) ∙ k.held_next w q (go (who == w) is)
    where
      go : (b : Bool) → cond b None (held h w) ≡ Some q → held h w ≡ Some q
      go true x = absurd (cc)
      go false x = x

  pub dropped_kept : (holders : ℕ → Option Part) (holding : ℕ) → ((w : ℕ) → holders w ≡ cond (who == w) None (t.holders w))
      → holding ≤ t.holding → IsKept l more (record t { holders = holders; holding = holding })
  dropped_kept holders holding out fewer =
      kept_on l h more t k refl t.rows holders holding t.tasks t.room t.count t.ended (k.legal, (holds, unwanted))
      (λ e. k.rows e ∙ sym (row_same l d e h more (same e))) (λ e. order_same l d e h more (same e) (k.in_order e))
      (λ w. out w ∙ ap (λ o. cond (who == w) None o) (k.holders w)) next_held
      (λ e. subst (λ o. AreTasks (standing more) d.tip d.homes e o (t.tasks e)) (sym (present_same l d e h more (same e)))
      (task_by e (p.exec == e) refl))
      k.ended (omega (arith, fewer, k.room)) k.spare
