-- The part that the queue takes next is the first ready one.
use Rattle.std.proofs.Common.{◌≡◌, ℕ, true, false, List, Option, refl, ap, sym, ◌∙◌}
use Rattle.std.specs.Prelude.{Bool}
use Rattle.std.specs.Option.{option_map_or}
use Rattle.pide_base.specs.declared.part.Part.{Part}
use Rattle.core_tables.specs.declared.priority.Priority.TheVariants as priority
use Rattle.core_tables.specs.declared.task.Standing.{Standing as Task}
use Rattle.core_tables.specs.Ready.{IsReadyPart, IsNext, comes_first, priority_of as priority_in}
use Rattle.core_tables.specs.Order.{goes_before}
use Rattle.language.specs.Lang.{Lang}
use Rattle.core_rules.specs.declared.event.Event.{Event}
use Rattle.core_rules.specs.Doc.{Doc}
use Rattle.core_rules.specs.Ready.{is_ready_in, priority_of, comes_before}
use Rattle.prover_core.proofs.ReadyParts.{AreInTip, ready_sound, ready_whole, urgent_by}

module _ {S : Type 0} (l : Lang S) (h : List Event) (d : Doc) (all : ℕ → Option Task) (so : AreInTip l h d all) where
  priority_is : (p : Part) → IsReadyPart all p → priority_in all p.exec ≡ priority_of d.tip p
  priority_is p is = ap (λ o. option_map_or (λ (s : Task). s.priority) o priority.Fork) is.1 ∙ urgent_by l h d all so p is

  comes_same : (p q : Part) → IsReadyPart all p → IsReadyPart all q → comes_first all q.exec p.exec ≡ comes_before d.tip q p
  comes_same p q is other = ap (λ x. goes_before x q.exec (priority_in all p.exec) p.exec) (priority_is q other)
      ∙ ap (λ x. goes_before (priority_of d.tip q) q.exec x p.exec) (priority_is p is)

  -- it is ready, and no other goes before it
  pub next_ready : (p : Part) → IsNext all p → is_ready_in l h d p ≡ true
  next_ready p next = ready_sound l h d all so p next.ready

  pub next_first : (p q : Part) → IsNext all p → is_ready_in l h d q ≡ true → comes_before d.tip q p ≡ false
  next_first p q next ready =
      let other = (ready_whole l h d all so q ready).1 in
      sym (comes_same p q next.ready other) ∙ next.first q other

  -- where it has none, nothing is ready
  pub none_ready : ((p : Part) → IsReadyPart all p → ⊥) → (p : Part) → is_ready_in l h d p ≡ false
  none_ready none p = go (is_ready_in l h d p) refl
    where
      go : (b : Bool) → is_ready_in l h d p ≡ b → is_ready_in l h d p ≡ false
      go true x = absurd (none p (ready_whole l h d all so p x).1)
      go false x = x
