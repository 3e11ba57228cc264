-- What is held has a task, exactly where it is still wanted.
use Rattle.std.proofs.Common.{◌≡◌, ℕ, Bool, true, false, cond, Option, Some, None, List, refl, ap, sym, ◌∙◌}
use Rattle.std.proofs.lemmas.Bool.{false≢true}
use Rattle.std.specs.Prelude.{is_some}
use Rattle.pide_base.specs.declared.part.Part.{Part}
use Rattle.core_tables.specs.declared.task.Standing.{Standing as Task}
use Rattle.core_tables.specs.Changes.{IsHeld}
use Rattle.language.specs.Lang.{Lang}
use Rattle.core_rules.specs.declared.event.Event.{Event}
use Rattle.core_rules.specs.Standing.{held}
use Rattle.core_rules.specs.Doc.{Doc, doc}
use Rattle.core_rules.specs.Ready.{is_wanted}
use Rattle.prover_core.specs.Tasks.{is_held}
use Rattle.prover_core.specs.Kept.{Tables, IsKept}
use Rattle.prover_core.proofs.ReadyParts.{present_wanted, wanted_present, task_of, part_of}
use Rattle.prover_core.proofs.TipLive.{Laws, in_tip}

abbrev pub count : Bool → ℕ
count b = cond b 1 0

-- one who holds something counts as one
pub counted : (o : Option Part) (p : Part) → o ≡ Some p → count (is_some o) ≡ 1
counted None p is = absurd (cc)
counted (Some q) p is = refl

abbrev pub one_more : ℕ
one_more = 1

-- one more where nothing was there
pub counted_new : {A : Type 0} (o : Option A) → o ≡ None → cond (is_some o) 0 1 ≡ one_more
counted_new None is = refl
counted_new (Some q) is = absurd (cc)

module _ {S : Type 0} (l : Lang S) (h : List Event) (t : Tables S) (k : IsKept l h t) (laws : Laws l h) (who : ℕ) (p : Part)
    (holds : held h who ≡ Some p) where
  abbrev d : Doc
  d = doc l h

  pub wanted_held : is_wanted d p.exec ≡ true → IsHeld (t.tasks p.exec)
  wanted_held wanted =
      let present = wanted_present l h d t.tasks (in_tip l h t k laws) p.exec p.kind wanted (k.held_next who p holds) in
      let found = task_of l h d t.tasks (in_tip l h t k laws) p.exec p.kind present in
      (found.0, found.1, found.2.held ∙ ap is_held ((laws.told who p).0 holds))

  -- it has a task
  pub there_wanted : is_some (t.tasks p.exec) ≡ true → is_wanted d p.exec ≡ true
  there_wanted there = go (t.tasks p.exec) refl there
    where
      go : (o : Option Task) → t.tasks p.exec ≡ o → is_some o ≡ true → is_wanted d p.exec ≡ true
      go None is there = absurd (false≢true there)
      go (Some s) is there =
          let found = part_of l h d t.tasks (in_tip l h t k laws) p.exec s is in
          (present_wanted l h d t.tasks (in_tip l h t k laws) p.exec found.0 found.1).0

  -- it has none
  pub gone_unwanted : is_some (t.tasks p.exec) ≡ false → is_wanted d p.exec ≡ false
  gone_unwanted gone = go (is_wanted d p.exec) refl
    where
      go : (b : Bool) → is_wanted d p.exec ≡ b → is_wanted d p.exec ≡ false
      go false is = is
      go true is =
          let held_by = wanted_held is in
          let none : is_some (Some held_by.0) ≡ false = ap is_some (sym held_by.1) ∙ gone in absurd (false≢true (sym none))
