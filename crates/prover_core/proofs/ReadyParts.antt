-- The parts that are ready in the queue are those that are ready in the document.
use Rattle.std.proofs.Common.{◌≡◌, ℕ, Bool, true, false, cond, not, ◌&&◌, List, length, Option, Some, None, refl, ap, sym, subst, ◌∙◌}
use Rattle.std.specs.Prelude.{◌==◌}
use Rattle.std.proofs.lemmas.Bool.{and_parts, and_from, not-true}
use Rattle.text_words.specs.Members.{has}
use Rattle.pide_base.specs.declared.part.Part.{Part}
use Rattle.pide_base.specs.declared.part.PartKind.{PartKind}
use Rattle.pide_base.specs.declared.part.PartKind.TheVariants as kind
use Rattle.core_tables.specs.declared.task.Standing.{Standing as Task}
use Rattle.core_tables.specs.Tasks.{is_ready as is_ready_task}
use Rattle.core_tables.specs.Ready.{IsReadyPart}
use Rattle.language.specs.Lang.{Lang}
use Rattle.core_rules.specs.declared.event.Event.{Event}
use Rattle.core_rules.specs.Assigned.{assigns, is_assigned}
use Rattle.core_rules.specs.Parts.{waits_for, evaluation}
use Rattle.core_rules.specs.Standing.{standing, is_unclaimed, is_finished, is_open}
use Rattle.core_rules.specs.Doc.{Doc}
use Rattle.core_rules.specs.Ready.{is_part, is_wanted, has_inputs, is_ready_in, priority_of}
use Rattle.prover_core.specs.Progress.{part, completed_in, next_of}
use Rattle.prover_core.specs.Tasks.{present_kind, IsTaskOf, AreTasks, HasTask}
use Rattle.prover_core.proofs.NextParts.{next_is_part, next_is_open, open_is_next, next_opens}
use Rattle.prover_core.proofs.WaitedFor.{free_by, free_so, none_left, all_done, no_inputs, nothing_waits}

module _ {S : Type 0} (l : Lang S) (h : List Event) (d : Doc) (all : ℕ → Option Task) where
  -- the table of tasks is that of the document, all that is wanted and unfinished is in the tip, and
  -- the tip is live
  pub record AreInTip : Type 0 where
    pub tasks : (e : ℕ) → HasTask l h d e (all e)
    pub wanted : (e : ℕ) → is_wanted d e ≡ true → is_open l h d.homes e ≡ true → assigns d.tip e ≡ true
    pub live : (e : ℕ) → assigns d.tip e ≡ true → is_assigned d.live e ≡ true

  module _ (so : AreInTip) where
    -- what is present is wanted, and unfinished
    pub present_wanted : (e : ℕ) (k : PartKind) → present_kind l h d e ≡ Some k
        → (is_wanted d e ≡ true) × (next_of l h d e ≡ Some k)
    present_wanted e k is = go (assigns d.tip e) (has d.cancelled e) refl refl is
      where
        go : (a b : Bool) → assigns d.tip e ≡ a → has d.cancelled e ≡ b → cond (a && not b) (next_of l h d e) None ≡ Some k
            → (is_wanted d e ≡ true) × (next_of l h d e ≡ Some k)
        go true false x y is = (and_from (is_assigned d.live e) (not (has d.cancelled e)) (so.live e x) (ap not y), is)
        go true true x y is = absurd (cc)
        go false b x y is = absurd (cc)

    -- and the other way round
    pub wanted_present : (e : ℕ) (k : PartKind) → is_wanted d e ≡ true → next_of l h d e ≡ Some k
        → present_kind l h d e ≡ Some k
    wanted_present e k want next = go (assigns d.tip e) (has d.cancelled e) (so.wanted e want (next_opens l h d e k next))
        (not-true (has d.cancelled e) (and_parts (is_assigned d.live e) (not (has d.cancelled e)) want).1)
      where
        go : (a b : Bool) → a ≡ true → b ≡ false → cond (a && not b) (next_of l h d e) None ≡ Some k
        go true false x y = next
        go true true x y = absurd (cc)
        go false b x y = absurd (cc)

    -- its task
    pub task_of : (e : ℕ) (k : PartKind) → present_kind l h d e ≡ Some k
        → (t : Task) × (all e ≡ Some t) × IsTaskOf (standing h) d.tip d.homes e k t
    task_of e k is = go (all e) refl (subst (λ o. AreTasks (standing h) d.tip d.homes e o (all e)) is (so.tasks e))
      where
        go : (o : Option Task) → all e ≡ o → AreTasks (standing h) d.tip d.homes e (Some k) o → (t : Task) × (all e ≡ Some t) × IsTaskOf (standing h) d.tip d.homes e k t
        go None x are = absurd (are)
        go (Some t) x are = (t, x, are)

    pub part_of : (e : ℕ) (t : Task) → all e ≡ Some t
        → (k : PartKind) × (present_kind l h d e ≡ Some k) × IsTaskOf (standing h) d.tip d.homes e k t
    part_of e t is = go (present_kind l h d e) refl (subst (λ o. AreTasks (standing h) d.tip d.homes e (present_kind l h d e) o) is (so.tasks e))
      where
        go : (o : Option PartKind) → present_kind l h d e ≡ o → AreTasks (standing h) d.tip d.homes e o (Some t)
            → (k : PartKind) × (present_kind l h d e ≡ Some k) × IsTaskOf (standing h) d.tip d.homes e k t
        go None x are = absurd (are)
        go (Some k) x are = (k, x, are)

    ready_by : (e : ℕ) (k : PartKind) (t : Task) → present_kind l h d e ≡ Some k → IsTaskOf (standing h) d.tip d.homes e k t → is_ready_task t ≡ true
        → is_ready_in l h d (part e k) ≡ true
    ready_by e k t present task ready =
        let want = present_wanted e k present in
        let tests = and_parts (not t.held) (length t.inputs == 0) ready in
        let free = free_by (standing h (part e k)) (sym task.held ∙ not-true t.held tests.0) (next_is_open l h d e k want.1) in
        let inputs = none_left (λ f. is_finished h (evaluation f)) (waits_for d.homes (part e k))
        (λ f. sym (task.waits f) ∙ nothing_waits t.inputs tests.1 f) in
        and_from (is_part l d.homes (part e k)) (is_wanted d e && (is_unclaimed (standing h (part e k)) && has_inputs h d.homes (part e k)))
        (next_is_part l h d e k want.1)
        (and_from (is_wanted d e) (is_unclaimed (standing h (part e k)) && has_inputs h d.homes
        (part e k)) want.0
        (and_from (is_unclaimed (standing h (part e k))) (has_inputs h d.homes (part e k)) free
        inputs))

    -- what is ready in the queue
    pub ready_sound : (p : Part) → IsReadyPart all p → is_ready_in l h d p ≡ true
    ready_sound p is =
        let found = part_of p.exec is.0 is.1 in
        let same : found.0 ≡ p.kind = sym found.2.same_kind ∙ is.2 in
        subst (λ k. is_ready_in l h d (part p.exec k) ≡ true) same (ready_by p.exec found.0 is.0 found.1 found.2 is.3)

    -- what is ready in the document
    pub ready_whole : (p : Part) → is_ready_in l h d p ≡ true
        → (present_kind l h d p.exec ≡ Some p.kind) × IsReadyPart all p
    ready_whole p ready =
        let a = and_parts (is_part l d.homes p) (is_wanted d p.exec && (is_unclaimed (standing h p) && has_inputs h d.homes p)) ready in
        let b = and_parts (is_wanted d p.exec)
        (is_unclaimed (standing h p) && has_inputs h d.homes p) a.1 in
        let c = and_parts (is_unclaimed (standing h p)) (has_inputs h d.homes p) b.1 in
        let free = free_so (standing h p) c.0 in
        let next = open_is_next l h d p.exec p.kind a.0 free.1 (behind p.kind p.exec c.1) in
        let present = wanted_present p.exec p.kind b.0 next in
        let found = task_of p.exec p.kind present in
        let none : (f : ℕ) → has found.0.inputs f ≡ false = λ f. found.2.waits f
        ∙ all_done (λ x. is_finished h (evaluation x)) (waits_for d.homes p) c.1 f in (
          present,
          (
            found.0,
            found.1,
            found.2.same_kind,
            and_from (not found.0.held) (length found.0.inputs == 0)
                (ap not (found.2.held ∙ free.0)) (no_inputs found.0.inputs none),
          ),
        )
      where
        behind : (k : PartKind) (e : ℕ) → has_inputs h d.homes (part e k) ≡ true → k ≡ kind.Fork → (completed_in h e).eval ≡ true
        behind kind.Fork e inputs same = (and_parts (is_finished h (evaluation e)) true inputs).0
        behind kind.Eval e inputs same = absurd (cc)
        behind kind.Print e inputs same = absurd (cc)

    pub urgent_by : (p : Part) (is : IsReadyPart all p) → is.0.priority ≡ priority_of d.tip p
    urgent_by p is =
        let found = part_of p.exec is.0 is.1 in
        let same : found.0 ≡ p.kind = sym found.2.same_kind ∙ is.2 in
        found.2.urgent ∙ ap (λ k. priority_of d.tip (part p.exec k)) same
